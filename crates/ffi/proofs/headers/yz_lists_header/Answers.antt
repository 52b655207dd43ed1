-- `headers::yz_lists_header` meets its contract: by the contracts of the calls in it. Assumes nothing.
use Rattle.ffi.proofs.headers.yz_lists_header.Goals as goal

pub returns : goal.returns
returns c = rw (c.lists_header.ensures, c.parse-r.ensures, c.endian_of-endian.ensures)
