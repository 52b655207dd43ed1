-- Both lists as one, by whether a list holds locations. The code has a range list's entries as locations whose expression
-- says nothing; an entry of the code is told as its list's.
use Rattle.std.specs.Prelude.{ℕ, ◌-◌, ◌^◌, Bool, true, false, List}
use Rattle.section_bytes.specs.Read.{Result, gives, refused, Read}
use Rattle.section_bytes.specs.declared.common.Encoding.{Encoding}
use Rattle.section_bytes.specs.declared.endianity.RunTimeEndian.{RunTimeEndian}
use Rattle.entries.specs.Forms.{Raw}
use Rattle.entries.specs.Numbers.{Coding}
use Rattle.entries.specs.Kinds.{raw_range_by, raw_location}
use Rattle.entries.specs.Told.{Step, found, ended}
use Rattle.entries.specs.declared.Expression.{Expression}
use Rattle.entries.specs.declared.RawRngListEntry.{RawRngListEntry}
use Rattle.entries.specs.declared.RawRngListEntry.TheVariants.{
  AddressOrOffsetPair,
  BaseAddress,
  BaseAddressx,
  StartxEndx,
  StartxLength,
  OffsetPair,
  StartEnd,
  StartLength,
}
use Rattle.entries.specs.declared.RawLocListEntry.{RawLocListEntry}
use Rattle.entries.specs.declared.RawLocListEntry.TheVariants as loc

-- a location's bounds as a range entry; that a default location spans 0 to 2^64 - 1 is gimli's
abbrev pub bounds : RawLocListEntry → RawRngListEntry
bounds (loc.AddressOrOffsetPair b e x) = AddressOrOffsetPair b e
bounds (loc.BaseAddress a) = BaseAddress a
bounds (loc.BaseAddressx i) = BaseAddressx i
bounds (loc.StartxEndx i j x) = StartxEndx i j
bounds (loc.StartxLength i n x) = StartxLength i n
bounds (loc.OffsetPair b e x) = OffsetPair b e
bounds (loc.DefaultLocation x) = StartEnd 0 (2 ^ 64 - 1)
bounds (loc.StartEnd b e x) = StartEnd b e
bounds (loc.StartLength b n x) = StartLength b n

-- the empty part at the section's start
abbrev pub no_expression : Expression
no_expression = record { offset = 0; len = 0 }

abbrev pub EntryIn : Bool → Type 0
EntryIn true = RawLocListEntry
EntryIn false = RawRngListEntry

abbrev pub entry_in : (l : Bool) → RawLocListEntry → EntryIn l
entry_in true e = e
entry_in false e = bounds e

-- the raw entry at a place
abbrev pub read_in : (l : Bool) → Coding → Encoding → RunTimeEndian → List ℕ → ℕ → Read (Raw (EntryIn l))
read_in true coding encoding endian s at = raw_location coding.split encoding endian s at
read_in false coding encoding endian s at = raw_range_by coding.number encoding endian s at

abbrev pub step_in : (l : Bool) → Result (Step RawLocListEntry) → Result (Step (EntryIn l))
step_in l (gives (found e c)) = gives (found (entry_in l e) c)
step_in l (gives ended) = gives ended
step_in l (refused n vs) = refused n vs
