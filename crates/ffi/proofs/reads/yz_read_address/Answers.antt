-- `reads::yz_read_address` meets its contract: by the contracts of the calls in it. Assumes nothing.
use Rattle.ffi.proofs.reads.yz_read_address.Goals as goal

pub returns : goal.returns
returns c = rw (c.read_number.ensures, c.read_address-r.ensures, c.endian_in-endian.ensures)
