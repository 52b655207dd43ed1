use Prim.Native.Nat.{◌-◌}
use Rattle.sheets.proofs.Tested.{Tested}
use Rattle.sheets.proofs.lawful_in.Given as goal

abbrev pub invariant-loop-i : goal.invariant-loop-i
invariant-loop-i l = Tested l.bytes l.n l.i l.last

abbrev pub decreases-loop-i : goal.decreases-loop-i
decreases-loop-i l = l.n - l.i
