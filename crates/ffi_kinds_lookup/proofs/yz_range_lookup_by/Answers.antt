-- `yz_range_lookup_by` meets its contract: by the contracts of the calls in it. Assumes nothing.
use Rattle.ffi_kinds_lookup.proofs.yz_range_lookup_by.Goals as goal

pub returns : goal.returns
returns c = rw (c.range_found.ensures, c.lookup_range_by-r.ensures, c.unit_of-unit.ensures)
