-- `headers::yz_location_get_offset` meets its contract: by the contracts of the calls in it. Assumes nothing.
use Rattle.ffi.proofs.headers.yz_location_get_offset.Goals as goal

pub returns : goal.returns
returns c = rw (c.location_offset_number.ensures, c.get_offset-r.ensures, c.endian_in-endian.ensures, c.encoding_of-unit.ensures)
