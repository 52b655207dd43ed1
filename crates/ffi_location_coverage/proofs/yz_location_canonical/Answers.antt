-- `yz_location_canonical` meets its contract: by the contracts of the calls in it. Assumes nothing.
use Rattle.ffi_words.proofs.WordLaws.{file_split}
use Rattle.ffi_words.proofs.CoverageLaws.{output_left_lem}
use Rattle.ffi_location_coverage.proofs.yz_location_canonical.Goals as goal

pub returns : goal.returns
returns c =
    output_left_lem _ c.count_written.ensures
    (rw (c.file_of-file.ensures, file_split, c.unit_of-unit.ensures) at c.canonical_locations-r.ensures)
