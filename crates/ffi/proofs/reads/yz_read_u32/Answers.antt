-- `reads::yz_read_u32` meets its contract: by the contracts of the calls in it. Assumes nothing.
use Rattle.ffi.proofs.reads.yz_read_u32.Goals as goal

pub returns : goal.returns
returns c = rw (c.read_number.ensures, c.read_u32-r.ensures, c.endian_of-endian.ensures)
