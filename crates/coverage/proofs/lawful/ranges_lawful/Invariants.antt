use Rattle.std.proofs.Common.{◌-◌}
use Rattle.coverage.proofs.Checked.{Checked}
use Rattle.coverage.proofs.lawful.ranges_lawful.Given as goal

abbrev pub invariant-loop-i : goal.invariant-loop-i
invariant-loop-i l = Checked l.begins l.ends l.n l.i l.last

abbrev pub decreases-loop-i : goal.decreases-loop-i
decreases-loop-i l = l.n - l.i
