-- Raw entries as numbers: the code of the kind, by the tables of kinds, and what fills its operands; what calls over raw entries
-- tell.
use Rattle.std.specs.Prelude.{ℕ, List}
use Rattle.section_bytes.specs.Read.{Result, gives, refused, pick}
use Rattle.section_bytes.specs.Error.{number, values}
use Rattle.section_bytes.specs.Reader.{is_size}
use Rattle.section_bytes.specs.declared.common.DebugAddrBase.{DebugAddrBase}
use Rattle.section_bytes.specs.declared.common.Encoding.{Encoding}
use Rattle.section_bytes.specs.declared.endianity.RunTimeEndian.{RunTimeEndian}
use Rattle.section_bytes.specs.declared.error.Error.TheVariants.{UnsupportedAddressSize}
use Rattle.tables.specs.Next.{Next}
use Rattle.entries.specs.Filled.{Filled, whole, range_of, location_of}
use Rattle.entries.specs.Padded.{Noted}
use Rattle.entries.specs.declared.Expression.{Expression}
use Rattle.entries.specs.declared.RawRngListEntry.{RawRngListEntry}
use Rattle.entries.specs.declared.RawLocListEntry.{RawLocListEntry}
use Rattle.lists.specs.Walk.{Outcome, converted_range, converted_location, comes}
use Rattle.lists.specs.declared.Walk.{Walk}
use Rattle.ffi_words.specs.Common.{number_of, part, no_part, done, Left}
use Rattle.ffi_words.specs.Items.{next_told}
use Rattle.ffi_words.specs.declared.common.YzDone.{YzDone}
use Rattle.ffi_words.specs.declared.common.YzPart.{YzPart}
use Rattle.ffi_words.specs.declared.ranges.YzRangeEntry.{YzRangeEntry}
use Rattle.ffi_words.specs.declared.ranges.YzRawRange.{YzRawRange}
use Rattle.ffi_words.specs.declared.locations.YzLocationEntry.{YzLocationEntry}
use Rattle.ffi_words.specs.declared.locations.YzRawLocation.{YzRawLocation}

-- the entries that numbers are
abbrev pub range_in : YzRangeEntry → Result (Filled RawRngListEntry)
range_in t = range_of t.kind t.first t.second

abbrev pub expression_in : YzPart → Expression
expression_in x = record { offset = x.offset; len = x.length }

abbrev pub expression_told : Expression → YzPart
expression_told x = part x.offset x.len

abbrev pub location_in : YzLocationEntry → Result (Filled RawLocListEntry)
location_in t = location_of t.kind t.first t.second (expression_in t.expression)

abbrev pub no_range_entry : YzRangeEntry
no_range_entry = record { kind = 0; first = 0; second = 0 }

abbrev pub no_location_entry : YzLocationEntry
no_location_entry = record { kind = 0; first = 0; second = 0; expression = no_part }

-- what a raw call tells: what was done, the entry that its numbers are, and whether it has a padded number. No others are that entry (`range_numbers_once`,
-- `location_numbers_once`, proofs/EntryLaws.antt)
pub record RawTold (E : Type 0) : Type 0 where
  pub done : YzDone
  pub entry : Result (Filled E)
  pub padded : ℕ

abbrev pub with_entry : {E : Type 0} → YzDone → Result (Filled E) → ℕ → RawTold E
with_entry d e padded = record { done = d; entry = e; padded = padded }

abbrev pub raw_range_told : YzRawRange → RawTold RawRngListEntry
raw_range_told r = with_entry r.done (range_in r.entry) r.padded

abbrev pub raw_location_told : YzRawLocation → RawTold RawLocListEntry
raw_location_told r = with_entry r.done (location_in r.entry) r.padded

-- an entry is told so that, handed back in, it is the same and nothing is over; without one, what is told is that of no entry
abbrev pub raw_next : {E : Type 0} → Result (Filled E) → List ℕ → Next (Noted E) Walk → Left (RawTold E)
raw_next none ws n = next_told (λ x. with_entry done (gives (whole x.entry)) (number_of x.padded)) (λ d. with_entry d none 0) ws n

-- with no entry every number is 0
abbrev pub raw_range_next : List ℕ → Next (Noted RawRngListEntry) Walk → Left (RawTold RawRngListEntry)
raw_range_next ws n = raw_next (range_in no_range_entry) ws n

abbrev pub raw_location_next : List ℕ → Next (Noted RawLocListEntry) Walk → Left (RawTold RawLocListEntry)
raw_location_next ws n = raw_next (location_in no_location_entry) ws n

-- whatever is over
abbrev pub entry_only : {E : Type 0} → Result (Filled E) → Result E
entry_only (gives t) = gives t.entry
entry_only (refused n vs) = refused n vs

-- the entry handed in comes to what its list makes of it; 6 with the size before all else, then 3 or 4 with the code
abbrev pub on_taken : {D E : Type 0} → Walk → (E → Outcome D) → Result E → Outcome D
on_taken w f (gives e) = f e
on_taken w f (refused n vs) = comes (refused n vs) w

abbrev pub sized : {D : Type 0} → ℕ → Walk → Outcome D → Outcome D
sized size w o =
    pick (is_size size) o (comes (refused (number (UnsupportedAddressSize size)) (values (UnsupportedAddressSize size))) w)

unfoldable pub convert_range : Encoding → RunTimeEndian → List ℕ → DebugAddrBase → Walk → YzRangeEntry → Outcome Unit
convert_range encoding endian table tableBase w t =
    sized encoding.address_size w
    (on_taken w (converted_range encoding endian table tableBase w) (entry_only (range_in t)))

unfoldable pub convert_location : Encoding → RunTimeEndian → List ℕ → DebugAddrBase → Walk → YzLocationEntry → Outcome Expression
convert_location encoding endian table tableBase w t =
    sized encoding.address_size w
    (on_taken w (converted_location encoding endian table tableBase w) (entry_only (location_in t)))
