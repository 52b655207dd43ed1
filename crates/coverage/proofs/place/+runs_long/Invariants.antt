-- The measure is how often the call calls itself.
use Rattle.coverage.proofs.GatherLaws.{turns}
use Rattle.coverage.proofs.place.+runs_long.Given as goal

abbrev pub decreases-runs_long : goal.decreases-runs_long
decreases-runs_long l = turns l.again
