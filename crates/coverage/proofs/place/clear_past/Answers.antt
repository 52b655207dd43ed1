-- The zeros still to be put, over what stands there now, are the same all along. Assumes nothing.
use Rattle.std.proofs.Common.{arith}
use Rattle.coverage.proofs.PlaceLaws.{clearing_none, clearing_more, clearing_done}
use Rattle.coverage.proofs.place.clear_past.Goals as goal

pub loop-i-init : goal.loop-i-init
loop-i-init c = clearing_none c.requires.0 c.requires.1

pub loop-i-preserved : goal.loop-i-preserved
loop-i-preserved c = clearing_more c.loop-i.invariant c.loop-i-test.true

pub shape_of-to : goal.shape_of-to
shape_of-to c = let s = c.loop-i.invariant.sized in omega (arith, s)

pub returns : goal.returns
returns c = clearing_done c.loop-i.invariant c.loop-i-test.false
