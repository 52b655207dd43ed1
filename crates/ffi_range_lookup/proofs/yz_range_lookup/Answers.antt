-- `yz_range_lookup` meets its contract: by the contracts of the calls in it. Assumes nothing.
use Rattle.ffi_range_lookup.proofs.yz_range_lookup.Goals as goal

pub returns : goal.returns
returns c = rw (c.range_found.ensures, c.lookup_range-r.ensures, c.unit_of-unit.ensures)
