-- The call below puts the coverage into the lent arrays, and its count is told. Assumes nothing.
use Rattle.ffi_words.proofs.CoverageLaws.{placed_told_lem}
use Rattle.ffi_range_coverage.proofs.yz_range_coverage.Goals as goal

pub returns : goal.returns
returns c =
    placed_told_lem _ c.count_written.ensures
    (rw (c.unit_of-unit.ensures) at c.place_ranges-r.ensures)
