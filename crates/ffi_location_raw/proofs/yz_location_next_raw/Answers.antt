-- `yz_location_next_raw` meets its contract: by the contracts of the calls in it. Assumes nothing.
use Rattle.ffi_words.proofs.WordLaws.{file_split}
use Rattle.ffi_location_raw.proofs.yz_location_next_raw.Goals as goal

pub returns : goal.returns
returns c = rw (c.raw_location.ensures, c.next_raw-r.ensures, c.endian_in-endian.ensures, c.encoding_of-unit.ensures, c.file_in-file.ensures, file_split, c.walk_in-start.ensures)
