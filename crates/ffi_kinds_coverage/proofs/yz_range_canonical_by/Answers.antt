-- `yz_range_canonical_by` meets its contract: by the contracts of the calls in it. Assumes nothing.
use Rattle.ffi_words.proofs.CoverageLaws.{output_left_lem}
use Rattle.ffi_kinds_coverage.proofs.yz_range_canonical_by.Goals as goal

pub returns : goal.returns
returns c =
    output_left_lem _ c.count_written.ensures
    (rw (c.unit_of-unit.ensures) at c.canonical_ranges_by-r.ensures)
