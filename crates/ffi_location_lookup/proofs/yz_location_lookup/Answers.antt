-- `yz_location_lookup` meets its contract: by the contracts of the calls in it. Assumes nothing.
use Rattle.ffi_words.proofs.WordLaws.{file_split}
use Rattle.ffi_location_lookup.proofs.yz_location_lookup.Goals as goal

pub returns : goal.returns
returns c = rw (c.location_found.ensures, c.lookup_location-r.ensures, c.file_of-file.ensures, file_split, c.unit_of-unit.ensures)
