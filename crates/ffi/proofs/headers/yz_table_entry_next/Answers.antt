-- `headers::yz_table_entry_next` meets its contract: by the contracts of the calls in it. Assumes nothing.
use Rattle.ffi.proofs.headers.yz_table_entry_next.Goals as goal

pub returns : goal.returns
returns c = rw (c.entry_next.ensures, c.next-r.ensures, c.endian_in-endian.ensures, c.entries_in-start.ensures, c.encoding_of-unit.ensures)
