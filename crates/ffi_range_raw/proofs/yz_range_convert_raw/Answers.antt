-- `yz_range_convert_raw` meets its contract: by the contracts of the calls in it. Assumes nothing.
use Rattle.ffi_range_raw.proofs.yz_range_convert_raw.Goals as goal

pub returns : goal.returns
returns c = rw (c.range_converted.ensures, c.convert-r.ensures, c.unit_of-unit.ensures, c.walk_in-start.ensures)
