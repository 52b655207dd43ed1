-- `yz_range_canonical` meets its contract: by the contracts of the calls in it. Assumes nothing.
use Rattle.ffi_words.proofs.CoverageLaws.{output_left_lem}
use Rattle.ffi_range_coverage.proofs.yz_range_canonical.Goals as goal

pub returns : goal.returns
returns c =
    output_left_lem _ c.count_written.ensures
    (rw (c.unit_of-unit.ensures) at c.canonical_ranges-r.ensures)
