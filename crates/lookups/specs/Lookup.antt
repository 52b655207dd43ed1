-- Lookup (docs/SCOPE.md, "Lookup"): the first yielded entry whose range holds an address; of a location list the first bounded one,
-- and only where there is none, the first default location.
use Rattle.std.specs.Prelude.{ℕ, Bool, false, not, ◌&&◌, List, leb, ltb, length, Some, None, Ok, Err}
use Rattle.std.specs.declared.option.Option.{Option}
use Rattle.std.specs.declared.result.Result.{Result as Answer}
use Rattle.section_bytes.specs.Read.{Result, gives, refused, and_then, pick}
use Rattle.section_bytes.specs.Error.{refusal}
use Rattle.section_bytes.specs.declared.common.DebugAddrBase.{DebugAddrBase}
use Rattle.section_bytes.specs.declared.common.Encoding.{Encoding}
use Rattle.section_bytes.specs.declared.error.Error.{Error}
use Rattle.section_bytes.specs.declared.endianity.RunTimeEndian.{RunTimeEndian}
use Rattle.entries.specs.Numbers.{Coding, dwarf, tabled}
use Rattle.entries.specs.declared.Expression.{Expression}
use Rattle.entries.specs.declared.RawLocListEntry.{RawLocListEntry}
use Rattle.lists.specs.Open.{opened}
use Rattle.lists.specs.Convert.{table_at, expression_of}
use Rattle.lists.specs.Walk.{listed, locations, Item, item, Trace, over, trace, handed}
use Rattle.lists.specs.Walks.{is_default, with_entries}
use Rattle.lists.specs.declared.Unit.{Unit as DwarfUnit}
use Rattle.lists.specs.declared.Walk.{Walk}
use Rattle.lists.specs.declared.Range.{Range}
use Rattle.lists.specs.declared.LocationListEntry.{LocationListEntry}

-- the entry found, or "not there"
pub data Found (D : Type 0) : Type 0 where
  found : Item D → Found D
  not_there : Found D

abbrev pub holds : ℕ → ℕ → ℕ → Bool
holds a b e = leb b a && ltb a e

-- a refusal met before the entry is the answer
unfoldable pub lookup_in : {D : Type 0} → ℕ → Trace D → Result (Found D)
lookup_in a (over w) = gives not_there
lookup_in a (handed (gives (item b e d)) w t) = pick (holds a b e) (gives (found (item b e d))) (lookup_in a t)
lookup_in a (handed (refused n vs) w t) = refused n vs

abbrev pub lookup_range_from : Coding → Encoding → RunTimeEndian → List ℕ → List ℕ → DebugAddrBase → ℕ → Walk → Result (Found Unit)
lookup_range_from coding encoding endian s table tableBase a w =
    lookup_in a (trace (listed false coding encoding endian s) (table_at endian encoding tableBase table) encoding.address_size (length s) w)

abbrev pub lookup_range_in : Coding → Encoding → RunTimeEndian → List ℕ → List ℕ → DebugAddrBase → ℕ → ℕ → ℕ → Result (Found Unit)
lookup_range_in coding encoding endian s table tableBase offset base a =
    and_then (opened encoding s offset base) (lookup_range_from coding encoding endian s table tableBase a)

abbrev pub lookup_range : Encoding → RunTimeEndian → List ℕ → List ℕ → DebugAddrBase → ℕ → ℕ → ℕ → Result (Found Unit)
lookup_range encoding endian s table tableBase offset base a = lookup_range_in (dwarf false) encoding endian s table tableBase offset base a

-- the same in a unit
abbrev pub lookup_range_from_unit : Coding → List ℕ → DwarfUnit → ℕ → Walk → Result (Found Unit)
lookup_range_from_unit coding s u a w = lookup_range_from coding u.encoding u.endian s u.debug_addr.now u.debug_addr_base a w

abbrev pub lookup_range_in_unit : Coding → List ℕ → DwarfUnit → ℕ → ℕ → ℕ → Result (Found Unit)
lookup_range_in_unit coding s u offset base a = lookup_range_in coding u.encoding u.endian s u.debug_addr.now u.debug_addr_base offset base a

-- with the kind numbers of a table
abbrev pub lookup_range_by : List ℕ → Encoding → RunTimeEndian → List ℕ → List ℕ → DebugAddrBase → ℕ → ℕ → ℕ → Result (Found Unit)
lookup_range_by kinds encoding endian s table tableBase offset base a = lookup_range_in (tabled kinds) encoding endian s table tableBase offset base a

-- of what a list does, the items that a test takes; the refusals stay
abbrev pub only : {D : Type 0} → (D → Bool) → Trace D → Trace D
only p (over w) = over w
only p (handed (gives (item b e d)) w t) = pick (p d) (handed (gives (item b e d)) w (only p t)) (only p t)
only p (handed (refused n vs) w t) = handed (refused n vs) w (only p t)

-- the walk at which a lookup stops: behind the entry found, behind what is refused, or at the end
unfoldable pub stops_at : {D : Type 0} → ℕ → Trace D → Walk
stops_at a (over w) = w
stops_at a (handed (gives (item b e d)) w t) = pick (holds a b e) w (stops_at a t)
stops_at a (handed (refused n vs) w t) = w

-- every entry but a default location
abbrev pub is_bounded : RawLocListEntry → Bool
is_bounded x = not (is_default x)

-- an answer, and another where it is "not there"
abbrev pub or_else : {D : Type 0} → Result (Found D) → Result (Found D) → Result (Found D)
or_else (gives (found i)) r = gives (found i)
or_else (gives not_there) r = r
or_else (refused n vs) r = refused n vs

-- the first bounded entry that holds the address; where the list has ended without one, the first default location that does. DWARF 5,
-- 2.6.2: a default location is for the addresses that no bounded entry is for
unfoldable pub location_in : ℕ → Trace RawLocListEntry → Result (Found RawLocListEntry)
location_in a t = or_else (lookup_in a (only is_bounded t)) (lookup_in a (only is_default t))

-- what was found, with what is made of that which it carries
abbrev pub found_carrying : {D C : Type 0} → (D → C) → Result (Found D) → Result (Found C)
found_carrying f (gives (found (item b e d))) = gives (found (item b e (f d)))
found_carrying f (gives not_there) = gives not_there
found_carrying f (refused n vs) = refused n vs

-- what a location list does from a walk on, each location with its entry
abbrev pub locations_from : Bool → Encoding → RunTimeEndian → List ℕ → List ℕ → DebugAddrBase → Walk → Trace RawLocListEntry
locations_from split encoding endian s table tableBase w =
    trace (with_entries (locations split encoding endian s)) (table_at endian encoding tableBase table) encoding.address_size (length s) w

abbrev pub lookup_location_from : Bool → Encoding → RunTimeEndian → List ℕ → List ℕ → DebugAddrBase → ℕ → Walk → Result (Found Expression)
lookup_location_from split encoding endian s table tableBase a w =
    found_carrying expression_of (location_in a (locations_from split encoding endian s table tableBase w))

abbrev pub lookup_location : Bool → Encoding → RunTimeEndian → List ℕ → List ℕ → DebugAddrBase → ℕ → ℕ → ℕ → Result (Found Expression)
lookup_location split encoding endian s table tableBase offset base a =
    and_then (opened encoding s offset base) (lookup_location_from split encoding endian s table tableBase a)

abbrev pub told_range_found : Answer (Option Range) Error → Result (Found Unit)
told_range_found (Ok (Some r)) = gives (found (item r.begin r.end tt))
told_range_found (Ok None) = gives not_there
told_range_found (Err e) = refusal e

abbrev pub told_location_found : Answer (Option LocationListEntry) Error → Result (Found Expression)
told_location_found (Ok (Some x)) = gives (found (item x.range.begin x.range.end x.«data»))
told_location_found (Ok None) = gives not_there
told_location_found (Err e) = refusal e

-- a range as the code finds it, with an expression that says nothing
abbrev pub range_of : Result (Found Expression) → Result (Found Unit)
range_of r = found_carrying (λ x. tt) r
