-- The measure is how often the call calls itself.
use Rattle.coverage.proofs.GatherLaws.{turns}
use Rattle.canonical.proofs.of_list.+canonical_long.Given as goal

abbrev pub decreases-canonical_long : goal.decreases-canonical_long
decreases-canonical_long l = turns l.again
