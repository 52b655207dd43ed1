use Rattle.std.proofs.Common.{◌-◌}
use Rattle.coverage.specs.Ranges.{limit}
use Rattle.coverage.proofs.PlaceLaws.{Clearing}
use Rattle.coverage.proofs.place.clear_past.Given as goal

abbrev pub invariant-loop-i : goal.invariant-loop-i
invariant-loop-i l = Clearing l.n l.initial.to l.to l.i

abbrev pub decreases-loop-i : goal.decreases-loop-i
decreases-loop-i l = limit - l.i
