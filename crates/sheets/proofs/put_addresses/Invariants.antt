use Prim.Native.Nat.{◌-◌}
use Rattle.sheets.proofs.Putting.{Putting}
use Rattle.sheets.proofs.put_addresses.Given as goal

abbrev pub invariant-loop-i : goal.invariant-loop-i
invariant-loop-i l = Putting l.initial.out l.at l.n l.addresses l.out l.i l.p

abbrev pub decreases-loop-i : goal.decreases-loop-i
decreases-loop-i l = l.n - l.i
