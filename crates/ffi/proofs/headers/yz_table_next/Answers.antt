-- `headers::yz_table_next` meets its contract: by the contracts of the calls in it. Assumes nothing.
use Rattle.ffi.proofs.headers.yz_table_next.Goals as goal

pub returns : goal.returns
returns c = rw (c.table_next.ensures, c.next-r.ensures, c.endian_of-endian.ensures)
