-- The call below puts the coverage into the lent arrays, and its count is told. Assumes nothing.
use Rattle.ffi_words.proofs.CoverageLaws.{placed_told_lem}
use Rattle.ffi.proofs.coverages.yz_coverage_from_sheet.Goals as goal

pub returns : goal.returns
returns c = placed_told_lem _ c.count_written.ensures c.place_sheet-r.ensures
