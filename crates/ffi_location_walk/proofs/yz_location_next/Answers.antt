-- `yz_location_next` meets its contract: by the contracts of the calls in it; what the call reads is counted from 0 and added. Assumes nothing.
use Rattle.ffi_words.proofs.WordLaws.{file_split}
use mathlib.Core.Path.{ap}
use Rattle.lists.proofs.RisenLaws.{location_raised}
use Rattle.ffi_words.specs.Common.{encoding_of, endian_in}
use Rattle.ffi_words.specs.Walks.{walk_in, split_in}
use Rattle.ffi_words.specs.Locations.{location_next}
use Rattle.ffi_location_walk.proofs.yz_location_next.Goals as goal

pub returns : goal.returns
returns c = rw (c.location_next.ensures, c.next-r.ensures, c.unit_of-unit.ensures, c.file_in-file.ensures, file_split, c.start_in-start.ensures) (let a = c.args in ap (location_next a.walk.now) (location_raised (encoding_of a.encoding) (endian_in a.encoding) a.section.now a.debug_addr.now (record { 0 = a.debug_addr_base }) (walk_in a.walk.now) (split_in a.walk.now)))
