use Prim.Native.Nat.{◌-◌}
use Rattle.sheets.proofs.Getting.{Getting}
use Rattle.sheets.proofs.get_addresses.Given as goal

abbrev pub invariant-loop-i : goal.invariant-loop-i
invariant-loop-i l = Getting l.bytes l.at l.n l.to l.i l.p

abbrev pub decreases-loop-i : goal.decreases-loop-i
decreases-loop-i l = l.n - l.i
