-- `reads::yz_initial_length` meets its contract: by the contracts of the calls in it. Assumes nothing.
use Rattle.ffi.proofs.reads.yz_initial_length.Goals as goal

pub returns : goal.returns
returns c = rw (c.read_length.ensures, c.read_initial_length-r.ensures, c.endian_of-endian.ensures)
