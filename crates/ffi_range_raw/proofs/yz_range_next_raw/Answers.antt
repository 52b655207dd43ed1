-- `yz_range_next_raw` meets its contract: by the contracts of the calls in it. Assumes nothing.
use Rattle.ffi_range_raw.proofs.yz_range_next_raw.Goals as goal

pub returns : goal.returns
returns c = rw (c.raw_range.ensures, c.next_raw-r.ensures, c.endian_in-endian.ensures, c.encoding_of-unit.ensures, c.walk_in-start.ensures)
