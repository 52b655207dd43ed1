-- `sheets::get_addresses` meets its contract: the addresses still to be read, over the numbers that stand there now, are the same
-- all along. Assumes nothing.
use Rattle.sheets.proofs.Getting.{getting_start, getting_step, getting_end}
use Rattle.sheets.proofs.get_addresses.Goals as goal

pub loop-i-init : goal.loop-i-init
loop-i-init c = let p = c.requires in getting_start p.0 p.1

pub loop-i-preserved : goal.loop-i-preserved
loop-i-preserved c = getting_step c.loop-i.invariant c.loop-i-test.true c.address.ensures

pub returns : goal.returns
returns c = getting_end c.loop-i.invariant c.loop-i-test.false
