use Prim.Native.Nat.{◌-◌}
use Rattle.canonical.proofs.Entries.{Counting}
use Rattle.canonical.proofs.size.Given as goal

abbrev pub invariant-loop-i : goal.invariant-loop-i
invariant-loop-i l = Counting l.begins l.ends l.n l.i l.at

abbrev pub decreases-loop-i : goal.decreases-loop-i
decreases-loop-i l = l.n - l.i
