-- What holds of every lookup in a location list, whatever its bytes (docs/SCOPE.md, "Lookup"): when a default location is the answer,
-- and that every other answer is as if there were none. The proof is `location_lookups` in proofs/DefaultLaws.antt.
use Rattle.std.specs.Prelude.{ℕ, ◌-◌, ◌^◌, ◌<◌, Bool, true, false, List, ◌≡◌, length}
use Rattle.section_bytes.specs.Read.{Result, gives, refused, pick}
use Rattle.section_bytes.specs.declared.common.DebugAddrBase.{DebugAddrBase}
use Rattle.section_bytes.specs.declared.common.Encoding.{Encoding}
use Rattle.section_bytes.specs.declared.endianity.RunTimeEndian.{RunTimeEndian}
use Rattle.entries.specs.declared.RawLocListEntry.{RawLocListEntry}
use Rattle.lists.specs.Convert.{table_at, expression_of}
use Rattle.lists.specs.Walk.{locations, item, Trace, over, handed, trace}
use Rattle.lists.specs.Walks.{is_default, carrying, Each}
use Rattle.lists.specs.Yields.{Unrefused}
use Rattle.lists.specs.declared.Walk.{Walk}
use Rattle.lookups.specs.Lookup.{Found, found, not_there, holds, lookup_in, only, is_bounded, location_in, locations_from, lookup_location_from}

-- no bounded entry of the whole list holds the address
abbrev pub NoBounded : ℕ → Trace RawLocListEntry → Type 0
NoBounded a t = Each (λ x b e. is_bounded x ≡ true → holds a b e ≡ false) t

-- the list has no default location
abbrev pub NoDefault : Trace RawLocListEntry → Type 0
NoDefault t = Each (λ x b e. is_default x ≡ false) t

-- a list's first default location
abbrev pub first_default : Trace RawLocListEntry → Found RawLocListEntry
first_default (over w) = not_there
first_default (handed (gives (item b e x)) w t) = pick (is_default x) (found (item b e x)) (first_default t)
first_default (handed (refused n vs) w t) = first_default t

-- whether an answer is a default location
abbrev pub by_default : Result (Found RawLocListEntry) → Bool
by_default (gives (found (item b e x))) = is_default x
by_default (gives not_there) = false
by_default (refused n vs) = false

-- of an address and what a list does
pub record DefaultsLast (a : ℕ) (t : Trace RawLocListEntry) : Type 0 where
  -- a default location is the answer only where the whole list is read unrefused and no bounded entry of it holds the address; then it
  -- is the list's first, from 0 to 2^64 - 1, and the address is not 2^64 - 1
  pub default_only : {b e : ℕ} {x : RawLocListEntry} → location_in a t ≡ gives (found (item b e x)) → is_default x ≡ true
      → Unrefused t × NoBounded a t × (first_default t ≡ found (item b e x)) × (b ≡ 0) × (e ≡ 2 ^ 64 - 1) × (a < 2 ^ 64 - 1)
  -- and there it is the answer
  pub default_there : Unrefused t → NoBounded a t → a < 2 ^ 64 - 1 → location_in a t ≡ gives (first_default t)
  -- every other answer is that of the list without its default locations
  pub others : by_default (location_in a t) ≡ false → location_in a t ≡ lookup_in a (only is_bounded t)

-- of a list, from a walk on
pub record LocationLookups (split : Bool) (encoding : Encoding) (endian : RunTimeEndian) (s table : List ℕ) (tableBase : DebugAddrBase) (a : ℕ) (w : Walk) : Type 0 where
  -- it is looked up in what its walk hands out
  pub same_walk : trace (locations split encoding endian s) (table_at endian encoding tableBase table) encoding.address_size (length s) w ≡ carrying expression_of (locations_from split encoding endian s table tableBase w)
  pub defaults_last : DefaultsLast a (locations_from split encoding endian s table tableBase w)
  -- where the first entry of all that holds the address is no default location, or there is none, or a refusal comes first, that is the
  -- answer: as it was before default locations came last
  pub as_before : by_default (lookup_in a (locations_from split encoding endian s table tableBase w)) ≡ false
      → lookup_location_from split encoding endian s table tableBase a w ≡ lookup_in a (trace (locations split encoding endian s) (table_at endian encoding tableBase table) encoding.address_size (length s) w)
  -- so a list without default locations is looked up as a range list is
  pub no_defaults : NoDefault (locations_from split encoding endian s table tableBase w)
      → lookup_location_from split encoding endian s table tableBase a w ≡ lookup_in a (trace (locations split encoding endian s) (table_at endian encoding tableBase table) encoding.address_size (length s) w)
