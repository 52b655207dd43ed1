-- The call below puts the runs at the front of the lent slices, and their count is told. Assumes nothing.
use Rattle.ffi_words.proofs.CoverageLaws.{placed_told_lem}
use Rattle.ffi_range_coverage.proofs.yz_range_runs.Goals as goal

pub returns : goal.returns
returns c =
    placed_told_lem _ c.count_written.ensures
    (rw (c.unit_of-unit.ensures)
    at c.runs_of_ranges-r.ensures)
