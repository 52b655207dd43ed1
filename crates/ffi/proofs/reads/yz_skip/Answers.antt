-- `reads::yz_skip` meets its contract: by the contracts of the calls in it. Assumes nothing.
use Rattle.ffi.proofs.reads.yz_skip.Goals as goal

pub returns : goal.returns
returns c = rw (c.read_place.ensures, c.skip-r.ensures)
