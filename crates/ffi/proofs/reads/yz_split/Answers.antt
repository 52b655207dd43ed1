-- `reads::yz_split` meets its contract: by the contracts of the calls in it. Assumes nothing.
use Rattle.ffi.proofs.reads.yz_split.Goals as goal

pub returns : goal.returns
returns c = rw (c.read_part.ensures, c.split-r.ensures)
