-- `reads::yz_uleb128` meets its contract: by the contracts of the calls in it. Assumes nothing.
use Rattle.ffi.proofs.reads.yz_uleb128.Goals as goal

pub returns : goal.returns
returns c = rw (c.read_leb128.ensures, c.with_length-r.ensures)
