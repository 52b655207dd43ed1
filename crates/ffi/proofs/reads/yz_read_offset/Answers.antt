-- `reads::yz_read_offset` meets its contract: by the contracts of the calls in it. Assumes nothing.
use Rattle.ffi.proofs.reads.yz_read_offset.Goals as goal

pub returns : goal.returns
returns c = rw (c.read_number.ensures, c.read_offset-r.ensures, c.endian_in-endian.ensures, c.format_of-format.ensures)
