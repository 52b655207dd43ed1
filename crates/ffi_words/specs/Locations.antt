-- The answers of location lists.
use Rattle.section_bytes.specs.Read.{Result}
use Rattle.std.specs.Prelude.{ℕ, List}
use Rattle.tables.specs.Next.{Next}
use Rattle.entries.specs.declared.Expression.{Expression}
use Rattle.lists.specs.Walk.{Item, item, Outcome}
use Rattle.lists.specs.declared.Walk.{Walk}
use Rattle.lookups.specs.Lookup.{Found}
use Rattle.ffi_words.specs.Common.{no_part, done, Left}
use Rattle.ffi_words.specs.Entries.{expression_told}
use Rattle.ffi_words.specs.Items.{next_told, outcome_told, found_told}
use Rattle.ffi_words.specs.declared.common.YzDone.{YzDone}
use Rattle.ffi_words.specs.declared.common.YzPart.{YzPart}
use Rattle.ffi_words.specs.declared.locations.YzLocation.{YzLocation}

abbrev pub location : YzDone → ℕ → ℕ → YzPart → YzLocation
location d b e x = record { done = d; begin = b; end = e; expression = x }

abbrev pub location_told : Item Expression → YzLocation
location_told (item b e x) = location done b e (expression_told x)

abbrev pub no_location : YzDone → YzLocation
no_location d = location d 0 0 no_part

abbrev pub location_next : List ℕ → Next (Item Expression) Walk → Left YzLocation
location_next ws n = next_told location_told no_location ws n

abbrev pub location_outcome : List ℕ → Outcome Expression → Left YzLocation
location_outcome ws o = outcome_told location_told no_location ws o

abbrev pub location_found : Result (Found Expression) → YzLocation
location_found f = found_told location_told no_location f
