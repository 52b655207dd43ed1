-- The kinds of entries, the entry at the front of a part, and the raw entry at a place of a section.
use Rattle.std.specs.Prelude.{ℕ, ◌+◌, List, [], ◌∷◌, Bool, false, ◌||◌, ◌&&◌, length, drop, leb, eqb}
use Rattle.section_bytes.specs.Read.{gives, got, Read, read_then, pick}
use Rattle.section_bytes.specs.Error.{refusal}
use Rattle.section_bytes.specs.Reader.{uint}
use Rattle.section_bytes.specs.Address.{ones}
use Rattle.section_bytes.specs.declared.common.Encoding.{Encoding}
use Rattle.section_bytes.specs.declared.endianity.RunTimeEndian.{RunTimeEndian}
use Rattle.section_bytes.specs.declared.endianity.RunTimeEndian.TheVariants.{Little}
use Rattle.section_bytes.specs.declared.error.Error.{Error}
use Rattle.section_bytes.specs.declared.error.Error.TheVariants.{UnknownRangeListsEntry, UnknownLocListsEntry}
use Rattle.entries.specs.Numbers.{itself}
use Rattle.entries.specs.Forms.{Form, index, number, rangeLength, address, expression, Takes, Raw, stop, entry, operand, operands}
use Rattle.entries.specs.declared.RawRngListEntry.{RawRngListEntry}
use Rattle.entries.specs.declared.RawRngListEntry.TheVariants as rng
use Rattle.entries.specs.declared.RawLocListEntry.{RawLocListEntry}
use Rattle.entries.specs.declared.RawLocListEntry.TheVariants as loc

-- what a code stands for: the end mark, an entry by its operands' forms, or nothing
pub data Kind (E : Type 0) : Type 0 where
  endOfList unknown : Kind E
  kind : (fs : List Form) → Takes fs E → Kind E

pub data Row (E : Type 0) : Type 0 where
  row : ℕ → Kind E → Row E

-- the kinds of range list entries (DWARF 5, 2.17.3 and 7.25)
unfoldable pub range_kinds : List (Row RawRngListEntry)
range_kinds =
    row 0 endOfList
    ∷ row 1 (kind (index ∷ []) rng.BaseAddressx)
    ∷ row 2 (kind (index ∷ index ∷ []) rng.StartxEndx)
    ∷ row 3 (kind (index ∷ number ∷ []) rng.StartxLength)
    ∷ row 4 (kind (number ∷ number ∷ []) rng.OffsetPair)
    ∷ row 5 (kind (address ∷ []) rng.BaseAddress)
    ∷ row 6 (kind (address ∷ address ∷ []) rng.StartEnd)
    ∷ row 7 (kind (address ∷ number ∷ []) rng.StartLength)
    ∷ []

-- the kinds of location list entries (DWARF 5, 2.6.2 and 7.7.3); GNU split lists up to version 4 define 0 to 3, and 4 to 8
-- are taken over from gimli there
unfoldable pub location_kinds : List (Row RawLocListEntry)
location_kinds =
    row 0 endOfList
    ∷ row 1 (kind (index ∷ []) loc.BaseAddressx)
    ∷ row 2 (kind (index ∷ index ∷ expression ∷ []) loc.StartxEndx)
    ∷ row 3 (kind (index ∷ rangeLength ∷ expression ∷ []) loc.StartxLength)
    ∷ row 4 (kind (number ∷ number ∷ expression ∷ []) loc.OffsetPair)
    ∷ row 5 (kind (expression ∷ []) loc.DefaultLocation)
    ∷ row 6 (kind (address ∷ []) loc.BaseAddress)
    ∷ row 7 (kind (address ∷ address ∷ expression ∷ []) loc.StartEnd)
    ∷ row 8 (kind (address ∷ number ∷ expression ∷ []) loc.StartLength)
    ∷ []

-- the kind of a code
unfoldable pub kind_of : {E : Type 0} → List (Row E) → ℕ → Kind E
kind_of [] code = unknown
kind_of (row n k ∷ rows) code = pick (eqb code n) k (kind_of rows code)

-- the entry of a kind whose operands start at a place; a code without a kind is refused, with the code
abbrev pub of_kind : {E : Type 0} → Encoding → RunTimeEndian → ℕ → List ℕ → (ℕ → Error) → ℕ → Kind E → ℕ → Read (Raw E)
of_kind encoding endian start s unknownEntry code endOfList at = gives (got stop at)
of_kind encoding endian start s unknownEntry code unknown at = refusal (unknownEntry code)
of_kind encoding endian start s unknownEntry code (kind fs e) at = operands encoding endian start s fs e at

-- at the front of a part, a code of one byte and its operands, by any map from codes to kinds
unfoldable pub coded : {E : Type 0} → Encoding → RunTimeEndian → ℕ → List ℕ → (ℕ → Error) → (ℕ → Kind E) → Read (Raw E)
coded encoding endian start s unknownEntry kinds =
    read_then (uint Little 1 s 0) (λ code c. of_kind encoding endian start s unknownEntry code (kinds code) c)

-- whether a bare pair ends its list: both numbers zero, not merely equal (DWARF 4, 2.17.3 and 2.6.2)
abbrev pub is_end : ℕ → ℕ → Bool
is_end b e = eqb b 0 && eqb e 0

-- a bare pair (DWARF 4, 2.17.3 and 2.6.2): both zero end the list, begin with all bits set makes end the base, else the
-- pair is an entry with what follows it
unfoldable pub of_pair : {E : Type 0} → Encoding → RunTimeEndian → ℕ → List ℕ → (ℕ → E) → (fs : List Form) → (ℕ → ℕ → Takes fs E) → ℕ → ℕ → ℕ → Read (Raw E)
of_pair encoding endian start s base fs pair b e c =
    pick (is_end b e) (gives (got stop c))
    (pick (eqb b (ones encoding.address_size)) (gives (got (entry (base e)) c)) (operands encoding endian start s fs (pair b e) c))

-- at the front of a part, a bare pair of addresses, with the forms of what follows it
unfoldable pub bare : {E : Type 0} → Encoding → RunTimeEndian → ℕ → List ℕ → (ℕ → E) → (fs : List Form) → (ℕ → ℕ → Takes fs E) → Read (Raw E)
bare encoding endian start s base fs pair =
    read_then (operand encoding endian start s address 0) (λ b c.
    read_then (operand encoding endian start s address c) (λ e d. of_pair encoding endian start s base fs pair b e d))

-- the kind of a range list's code, by the number that it has
abbrev pub numbered : (ℕ → ℕ) → ℕ → Kind RawRngListEntry
numbered number_of code = kind_of range_kinds (number_of code)

-- ranges have no operand that speaks of the section, so their part may start anywhere
abbrev pub coded_range_by : (ℕ → ℕ) → Encoding → RunTimeEndian → List ℕ → Read (Raw RawRngListEntry)
coded_range_by number_of encoding endian s = coded encoding endian 0 s UnknownRangeListsEntry (numbered number_of)

abbrev pub coded_range : Encoding → RunTimeEndian → List ℕ → Read (Raw RawRngListEntry)
coded_range encoding endian s = coded_range_by itself encoding endian s

abbrev pub bare_range : Encoding → RunTimeEndian → List ℕ → Read (Raw RawRngListEntry)
bare_range encoding endian s = bare encoding endian 0 s rng.BaseAddress [] rng.AddressOrOffsetPair

abbrev pub coded_location : Encoding → RunTimeEndian → ℕ → List ℕ → Read (Raw RawLocListEntry)
coded_location encoding endian start s = coded encoding endian start s UnknownLocListsEntry (kind_of location_kinds)

abbrev pub bare_location : Encoding → RunTimeEndian → ℕ → List ℕ → Read (Raw RawLocListEntry)
bare_location encoding endian start s = bare encoding endian start s loc.BaseAddress (expression ∷ []) loc.AddressOrOffsetPair

-- whether entries have kinds: from version 5 on, and in GNU split lists of every version
abbrev pub has_kinds : Bool → ℕ → Bool
has_kinds split version = split || leb 5 version

-- the entry at the front of a part: of a kind, or a bare pair. Range lists are read as in files that are not split
unfoldable pub range_entry_by : (ℕ → ℕ) → Encoding → RunTimeEndian → List ℕ → Read (Raw RawRngListEntry)
range_entry_by number_of encoding endian s =
    pick (has_kinds false encoding.version) (coded_range_by number_of encoding endian s) (bare_range encoding endian s)

abbrev pub range_entry : Encoding → RunTimeEndian → List ℕ → Read (Raw RawRngListEntry)
range_entry encoding endian s = range_entry_by itself encoding endian s

unfoldable pub location_entry : Bool → Encoding → RunTimeEndian → ℕ → List ℕ → Read (Raw RawLocListEntry)
location_entry split encoding endian start s =
    pick (has_kinds split encoding.version) (coded_location encoding endian start s) (bare_location encoding endian start s)

-- places of a part counted in the section again
abbrev pub moved : {A : Type 0} → ℕ → Read A → Read A
moved at r = read_then r (λ x n. gives (got x (at + n)))

-- what is read at a place of a section; at or past the section's end a list ends, which is gimli's rule
unfoldable pub raw_at : {E : Type 0} → (List ℕ → Read (Raw E)) → List ℕ → ℕ → Read (Raw E)
raw_at read s at = pick (leb (length s) at) (gives (got stop at)) (moved at (read (drop at s)))

-- the raw entry at a place of a range list
abbrev pub raw_range_by : (ℕ → ℕ) → Encoding → RunTimeEndian → List ℕ → ℕ → Read (Raw RawRngListEntry)
raw_range_by number_of encoding endian s at = raw_at (range_entry_by number_of encoding endian) s at

abbrev pub raw_range : Encoding → RunTimeEndian → List ℕ → ℕ → Read (Raw RawRngListEntry)
raw_range encoding endian s at = raw_range_by itself encoding endian s at

-- the raw entry at a place of a location list
abbrev pub raw_location : Bool → Encoding → RunTimeEndian → List ℕ → ℕ → Read (Raw RawLocListEntry)
raw_location split encoding endian s at = raw_at (location_entry split encoding endian at) s at
