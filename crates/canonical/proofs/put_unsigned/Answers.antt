-- `canonical::put_unsigned` meets its contract: the bytes of what is left, over those that stand there now, are the same all
-- along. Assumes nothing.
use lib.ListN.{length-set}
use Rattle.canonical.proofs.Unsigned.{left_start, left_step, left_end}
use Rattle.canonical.proofs.put_unsigned.Goals as goal

pub loop-rest-init : goal.loop-rest-init
loop-rest-init c = left_start c.ranges.x.fits c.requires

pub loop-rest-preserved : goal.loop-rest-preserved
loop-rest-preserved c = left_step c.loop-rest.invariant c.loop-rest-test.true

pub shape_of-out : goal.shape_of-out
shape_of-out c = simp length-set c.loop-rest.invariant.long

pub returns : goal.returns
returns c = left_end c.loop-rest.invariant c.loop-rest-test.false
