use Prim.Native.Nat.{◌-◌}
use Rattle.stacks.specs.Places.{WaitingFrom}
use Rattle.stacks.proofs.places.waiting_from.Given as goal

abbrev pub invariant-loop-i : goal.invariant-loop-i
invariant-loop-i l = WaitingFrom l.next l.low 0 l.i

abbrev pub decreases-loop-i : goal.decreases-loop-i
decreases-loop-i l = l.n - l.i
