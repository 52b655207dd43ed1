use Prim.Native.Nat.{◌-◌}
use mathlib.Core.List.{[], ◌∷◌}
use Rattle.stacks.proofs.SettleLaws.{Settling}
use Rattle.stacks.proofs.places.settle.Given as goal

abbrev pub invariant-loop-to : goal.invariant-loop-to
invariant-loop-to l = Settling l.addresses l.initial.next l.initial.rows l.begin l.end (0 ∷ 0 ∷ l.begin ∷ l.end ∷ l.offset ∷ l.len ∷ []) l.first l.next l.rows l.i

abbrev pub decreases-loop-to : goal.decreases-loop-to
decreases-loop-to l = 64 - l.i
