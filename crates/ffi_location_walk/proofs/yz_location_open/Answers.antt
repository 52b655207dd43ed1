-- `yz_location_open` meets its contract: by the contracts of the calls in it. Assumes nothing.
use Rattle.ffi_location_walk.proofs.yz_location_open.Goals as goal

pub returns : goal.returns
returns c = rw (c.opened.ensures, c.locations-r.ensures, c.is_set-split.ensures, c.encoding_of-unit.ensures)
