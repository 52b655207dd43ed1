-- `yz_range_open` meets its contract: by the contracts of the calls in it. Assumes nothing.
use Rattle.ffi_range_walk.proofs.yz_range_open.Goals as goal

pub returns : goal.returns
returns c = rw (c.opened.ensures, c.ranges-r.ensures, c.encoding_of-unit.ensures)
