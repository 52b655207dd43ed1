-- By the contracts of the calls in it. Assumes nothing.
use mathlib.Core.Path.{ap, ◌∙◌}
use Rattle.stacks.specs.Stack.{counted_of}
use Rattle.ffi_words.proofs.WordLaws.{file_split}
use Rattle.ffi_location_lookups.proofs.yz_location_lookups.Goals as goal

pub returns : goal.returns
returns c = rw c.count_read.ensures (ap counted_of c.lookup_locations-r.ensures ∙ rw (c.file_of-file.ensures, file_split, c.unit_of-unit.ensures))
