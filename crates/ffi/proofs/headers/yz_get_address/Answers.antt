-- `headers::yz_get_address` meets its contract: by the contracts of the calls in it. Assumes nothing.
use Rattle.ffi.proofs.headers.yz_get_address.Goals as goal

pub returns : goal.returns
returns c = rw (c.address_number.ensures, c.get_address-r.ensures, c.endian_in-endian.ensures)
