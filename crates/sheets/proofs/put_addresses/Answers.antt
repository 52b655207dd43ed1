-- `sheets::put_addresses` meets its contract: the addresses still to be written, over the bytes that stand there now, are the
-- same all along. Assumes nothing.
use Rattle.sheets.proofs.Putting.{putting_start, putting_step, putting_end}
use Rattle.sheets.proofs.put_addresses.Goals as goal

pub loop-i-init : goal.loop-i-init
loop-i-init c = let p = c.requires in putting_start p.0 p.1

pub loop-i-preserved : goal.loop-i-preserved
loop-i-preserved c =
    putting_step c.loop-i.invariant c.loop-i-test.true c.put_u64.ensures

pub shape_of-out : goal.shape_of-out
shape_of-out c = c.loop-i.invariant.long

pub returns : goal.returns
returns c = putting_end c.loop-i.invariant c.loop-i-test.false
