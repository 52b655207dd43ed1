-- `reads::yz_read_address_size` meets its contract: by the contracts of the calls in it. Assumes nothing.
use Rattle.ffi.proofs.reads.yz_read_address_size.Goals as goal

pub returns : goal.returns
returns c = rw (c.read_number.ensures, c.read_address_size-r.ensures)
