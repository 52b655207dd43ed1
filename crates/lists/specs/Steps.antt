-- One entry of a list, and what it comes to under a base address: what lookups go by where `next` would not say which entry a location
-- comes from, or how many entries were read.
use Rattle.std.specs.Prelude.{ℕ, Bool, true, false, List, Some, None, Ok, Err}
use Rattle.std.specs.declared.option.Option.{Option}
use Rattle.std.specs.declared.result.Result.{Result as Answer}
use Rattle.section_bytes.specs.declared.error.Error.{Error}
use Rattle.section_bytes.specs.Read.{Result, gives, refused, got, Read}
use Rattle.section_bytes.specs.Error.{refusal, number, values}
use Rattle.section_bytes.specs.declared.common.DebugAddrBase.{DebugAddrBase}
use Rattle.section_bytes.specs.declared.common.DebugAddrIndex.{DebugAddrIndex}
use Rattle.section_bytes.specs.declared.common.Encoding.{Encoding}
use Rattle.section_bytes.specs.declared.endianity.RunTimeEndian.{RunTimeEndian}
use Rattle.entries.specs.Forms.{Raw, stop, entry}
use Rattle.entries.specs.declared.Expression.{Expression}
use Rattle.entries.specs.declared.RawLocListEntry.{RawLocListEntry}
use Rattle.entries.specs.Listed.{EntryIn}
use Rattle.entries.specs.Numbers.{Coding, dwarf}
use Rattle.lists.specs.Convert.{Turn, range, rebase, skip, convert, table_at}
use Rattle.lists.specs.Walk.{Listing, CarriedIn, carried_in, data_in, listed, Item, item}
use Rattle.lists.specs.Walks.{is_default, carried_as}
use Rattle.lists.specs.declared.Unit.{Unit as DwarfUnit}
use Rattle.lists.specs.declared.listed.Stepped.{Stepped}
use Rattle.lists.specs.declared.listed.Stepped.TheVariants as code

-- what an entry comes to, with the place after it: an item, another base address, nothing, a failed address lookup; or the end
pub data Step (D : Type 0) : Type 0 where
  yields : Item D → ℕ → Step D
  rebases : ℕ → ℕ → Step D
  passes : ℕ → Step D
  fails : ℕ → List ℕ → ℕ → Step D
  ended : Step D

abbrev pub turned : {D : Type 0} → Result Turn → D → ℕ → Step D
turned (gives (range b e)) d c = yields (item b e d) c
turned (gives (rebase b)) d c = rebases b c
turned (gives skip) d c = passes c
turned (refused n vs) d c = fails n vs c

abbrev pub on_entry : (l : Listing) → (DebugAddrIndex → Result ℕ) → ℕ → ℕ → Read (Raw l.Entry) → Result (Step l.Carried)
on_entry l table size base (gives (got (entry e) c)) = gives (turned (convert table size base (l.bounds_of e)) (l.carried e) c)
on_entry l table size base (gives (got stop c)) = gives ended
on_entry l table size base (refused n vs) = refused n vs

unfoldable pub step : (l : Listing) → (DebugAddrIndex → Result ℕ) → ℕ → ℕ → ℕ → Result (Step l.Carried)
step l table size at base = on_entry l table size base (l.read at)

-- what an item carries, and whether its entry is a default location
pub record Located (D : Type 0) : Type 0 where
  pub carries : D
  pub by_default : Bool

-- a range list has no default location
abbrev pub is_default_in : (l : Bool) → EntryIn l → Bool
is_default_in true e = is_default e
is_default_in false e = false

abbrev pub located_in : (l : Bool) → EntryIn l → Located (CarriedIn l)
located_in l e = record { carries = carried_in l e; by_default = is_default_in l e }

abbrev pub located : RawLocListEntry → Located Expression
located e = located_in true e

-- both lists' step, from the section, the address table, its base, the place and the base address
abbrev pub step_of : (l : Bool) → Coding → Encoding → RunTimeEndian → List ℕ → List ℕ → DebugAddrBase → ℕ → ℕ → Result (Step (Located (CarriedIn l)))
step_of l coding encoding endian s table tableBase at base =
    step (carried_as (listed l coding encoding endian s) (located_in l)) (table_at endian encoding tableBase table) encoding.address_size at base

abbrev pub step_in_unit : (l : Bool) → Coding → List ℕ → DwarfUnit → ℕ → ℕ → Result (Step (Located (CarriedIn l)))
step_in_unit l coding s u at base = step_of l coding u.encoding u.endian s u.debug_addr.now u.debug_addr_base at base

abbrev pub location_step : Bool → Encoding → RunTimeEndian → List ℕ → List ℕ → DebugAddrBase → ℕ → ℕ → Result (Step (Located Expression))
location_step split encoding endian s table tableBase at base = step_of true (dwarf split) encoding endian s table tableBase at base

-- the code's answer told as the definition's
abbrev pub stepped_to : Stepped → ℕ → Step (Located Expression)
stepped_to (code.Bounded x) c = yields (item x.range.begin x.range.end (record { carries = x.«data»; by_default = false })) c
stepped_to (code.Default x) c = yields (item x.range.begin x.range.end (record { carries = x.«data»; by_default = true })) c
stepped_to (code.Base b) c = rebases b c
stepped_to code.Nothing c = passes c
stepped_to (code.Failed e) c = fails (number e) (values e) c

abbrev pub told_stepped : Answer (Option (Stepped × ℕ)) Error → Result (Step (Located Expression))
told_stepped (Ok (Some p)) = gives (stepped_to p.0 p.1)
told_stepped (Ok None) = gives ended
told_stepped (Err e) = refusal e

-- and as its list's
abbrev pub stepped_in : (l : Bool) → Result (Step (Located Expression)) → Result (Step (Located (CarriedIn l)))
stepped_in l (gives (yields (item b e d) c)) = gives (yields (item b e (record { carries = data_in l d.carries; by_default = d.by_default })) c)
stepped_in l (gives (rebases b c)) = gives (rebases b c)
stepped_in l (gives (passes c)) = gives (passes c)
stepped_in l (gives (fails n vs c)) = gives (fails n vs c)
stepped_in l (gives ended) = gives ended
stepped_in l (refused n vs) = refused n vs
