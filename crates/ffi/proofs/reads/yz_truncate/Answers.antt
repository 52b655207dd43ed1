-- `reads::yz_truncate` meets its contract: by the contracts of the calls in it. Assumes nothing.
use Rattle.ffi.proofs.reads.yz_truncate.Goals as goal

pub returns : goal.returns
returns c = rw (c.number_only.ensures, c.truncate-r.ensures)
