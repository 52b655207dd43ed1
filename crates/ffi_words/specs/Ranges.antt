-- The answers of range lists.
use Rattle.section_bytes.specs.Read.{Result}
use Rattle.std.specs.Prelude.{ℕ, List}
use Rattle.tables.specs.Next.{Next}
use Rattle.lists.specs.Walk.{Item, item, Outcome}
use Rattle.lists.specs.declared.Walk.{Walk}
use Rattle.lookups.specs.Lookup.{Found}
use Rattle.ffi_words.specs.Common.{done, Left}
use Rattle.ffi_words.specs.Items.{next_told, outcome_told, found_told}
use Rattle.ffi_words.specs.declared.common.YzDone.{YzDone}
use Rattle.ffi_words.specs.declared.ranges.YzRange.{YzRange}

abbrev pub range : YzDone → ℕ → ℕ → YzRange
range d b e = record { done = d; begin = b; end = e }

abbrev pub range_told : Item Unit → YzRange
range_told (item b e u) = range done b e

abbrev pub no_range : YzDone → YzRange
no_range d = range d 0 0

abbrev pub range_next : List ℕ → Next (Item Unit) Walk → Left YzRange
range_next ws n = next_told range_told no_range ws n

abbrev pub range_outcome : List ℕ → Outcome Unit → Left YzRange
range_outcome ws o = outcome_told range_told no_range ws o

abbrev pub range_found : Result (Found Unit) → YzRange
range_found f = found_told range_told no_range f
