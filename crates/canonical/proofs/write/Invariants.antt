use Prim.Native.Nat.{◌-◌}
use Rattle.canonical.proofs.Entries.{Writing}
use Rattle.canonical.proofs.write.Given as goal

abbrev pub invariant-loop-i : goal.invariant-loop-i
invariant-loop-i l = Writing l.begins l.ends l.n l.initial.out l.out l.i l.at

abbrev pub decreases-loop-i : goal.decreases-loop-i
decreases-loop-i l = l.n - l.i
