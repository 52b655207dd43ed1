-- `yz_location_convert_raw` meets its contract: by the contracts of the calls in it. Assumes nothing.
use Rattle.ffi_location_raw.proofs.yz_location_convert_raw.Goals as goal

pub returns : goal.returns
returns c = rw (c.location_converted.ensures, c.convert-r.ensures, c.unit_of-unit.ensures, c.walk_in-start.ensures)
