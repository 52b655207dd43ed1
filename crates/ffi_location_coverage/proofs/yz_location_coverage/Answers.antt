-- The call below puts the coverage into the lent arrays, and its count is told. Assumes nothing.
use Rattle.ffi_words.proofs.WordLaws.{file_split}
use Rattle.ffi_words.proofs.CoverageLaws.{placed_told_lem}
use Rattle.ffi_location_coverage.proofs.yz_location_coverage.Goals as goal

pub returns : goal.returns
returns c =
    placed_told_lem _ c.count_written.ensures
    (rw (c.file_of-file.ensures, file_split, c.unit_of-unit.ensures) at c.place_locations-r.ensures)
