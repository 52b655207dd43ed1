-- `yz_range_next_raw_by` meets its contract: by the contracts of the calls in it. Assumes nothing.
use Rattle.ffi_kinds_raw.proofs.yz_range_next_raw_by.Goals as goal

pub returns : goal.returns
returns c = rw (c.raw_range.ensures, c.next_raw_by-r.ensures, c.endian_in-endian.ensures, c.encoding_of-unit.ensures, c.walk_in-start.ensures)
