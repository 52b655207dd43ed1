-- The coverage was put into two arrays of zeros. Assumes nothing.
use Rattle.coverage.proofs.PlaceLaws.{made_got}
use Rattle.coverage.proofs.collect.range_coverage.Goals as goal

pub returns : goal.returns
returns c = made_got _ c.in_ok-n.ensures
