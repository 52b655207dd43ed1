-- `reads::yz_read_u8` meets its contract: by the contracts of the calls in it. Assumes nothing.
use Rattle.ffi.proofs.reads.yz_read_u8.Goals as goal

pub returns : goal.returns
returns c = rw (c.read_number.ensures, c.read_u8-r.ensures)
