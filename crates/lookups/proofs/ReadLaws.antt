-- Where a lookup stops, by what the list does: behind the bounded entry that holds the address, behind a refusal, or at the list's end.
-- Assumes nothing.
use mathlib.Core.Bool.{Bool, true, false, not}
use mathlib.Core.List.{List}
use mathlib.Core.Path.{◌≡◌, refl, sym, ap, ◌∙◌}
use Prim.Native.Nat.{ℕ}
use lib.ListN.{length}
use Rattle.section_bytes.specs.Read.{gives, refused, pick}
use Rattle.entries.specs.Numbers.{Coding, dwarf}
use Rattle.entries.specs.declared.RawLocListEntry.{RawLocListEntry}
use Rattle.entries.specs.declared.RawRngListEntry.{RawRngListEntry}
use Rattle.lists.specs.Convert.{table_in}
use Rattle.lists.specs.Walk.{carried_in, listed, item, Trace, over, handed, trace}
use Rattle.lists.specs.Walks.{carried_as, with_entries, carrying}
use Rattle.lists.specs.Steps.{Located, located_in}
use Rattle.lists.specs.declared.Unit.{Unit as DwarfUnit}
use Rattle.lists.specs.declared.Walk.{Walk}
use Rattle.lists.proofs.Bounds.{trace_carrying}
use Rattle.lookups.specs.Lookup.{holds, only, stops_at, is_bounded, locations_from}
use Rattle.lookups.proofs.SeekLaws.{does}

-- of what the list does from here
pub stops : {D : Type 0} → ℕ → Trace (Located D) → Walk
stops a t = stops_at a (only (λ d. not d.by_default) t)

module _ (a : ℕ) where
  module _ {D : Type 0} {u t : Trace (Located D)} {b e : ℕ} {x : D} {w : Walk} where
    pub stops_held : u ≡ handed (gives (item b e (record { carries = x; by_default = false }))) w t → holds a b e ≡ true → stops a u ≡ w
    unfolding stops stops_at
    stops_held q h = ap (stops a) q ∙ simp h

    pub stops_not_held : u ≡ handed (gives (item b e (record { carries = x; by_default = false }))) w t → holds a b e ≡ false → stops a u ≡ stops a t
    unfolding stops stops_at
    stops_not_held q h = ap (stops a) q ∙ simp h

    pub stops_default : u ≡ handed (gives (item b e (record { carries = x; by_default = true }))) w t → stops a u ≡ stops a t
    unfolding stops
    stops_default q = ap (stops a) q

  pub stops_refusal : {D : Type 0} {u t : Trace (Located D)} {n : ℕ} {vs : List ℕ} {w : Walk} → u ≡ handed (refused n vs) w t → stops a u ≡ w
  unfolding stops stops_at
  stops_refusal q = ap (stops a) q

  pub stops_end : {D : Type 0} {u : Trace (Located D)} {w : Walk} → u ≡ over w → stops a u ≡ w
  unfolding stops stops_at
  stops_end q = ap (stops a) q

  -- what is carried does not matter
  taken_stops : {D C : Type 0} (h : Bool) (b e : ℕ) (d : D) (x : C) (w : Walk) (t : Trace D) (r : Trace C) → stops_at a t ≡ stops_at a r
      → stops_at a (pick h (handed (gives (item b e d)) w t) t) ≡ stops_at a (pick h (handed (gives (item b e x)) w r) r)
  unfolding stops_at
  taken_stops true b e d x w t r q = ap (pick (holds a b e) w) q
  taken_stops false b e d x w t r q = q

  location_stops : (t : Trace RawLocListEntry) → stops_at a (only is_bounded t) ≡ stops a (carrying (located_in true) t)
  unfolding stops stops_at
  location_stops (over w) = refl
  location_stops (handed (gives (item b e x)) w t) =
      taken_stops (is_bounded x) b e x (located_in true x) w (only is_bounded t) (only (λ d. not d.by_default) (carrying (located_in true) t)) (location_stops t)
  location_stops (handed (refused n vs) w t) = refl

  range_stops : (t : Trace RawRngListEntry) → stops_at a (carrying (carried_in false) t) ≡ stops a (carrying (located_in false) t)
  unfolding stops stops_at
  range_stops (over w) = refl
  range_stops (handed (gives (item b e x)) w t) = ap (pick (holds a b e) w) (range_stops t)
  range_stops (handed (refused n vs) w t) = refl

-- a lookup from a walk on stops where it does at the start: in a location list, and in a range list
pub stops_locations : (split : Bool) (s : List ℕ) (u : DwarfUnit) (a : ℕ) (w : Walk)
    → stops_at a (only is_bounded (locations_from split u.encoding u.endian s u.debug_addr.now u.debug_addr_base w)) ≡ stops a (does true (dwarf split) s u w.at w.base_address w.entries)
stops_locations split s u a w =
    location_stops a (locations_from split u.encoding u.endian s u.debug_addr.now u.debug_addr_base w)
    ∙ ap (stops a) (sym (trace_carrying (carried_as (listed true (dwarf split) u.encoding u.endian s) (located_in true)) (table_in u) u.encoding.address_size (length s) w))

pub stops_ranges : (coding : Coding) (s : List ℕ) (u : DwarfUnit) (a : ℕ) (w : Walk)
    → stops_at a (trace (listed false coding u.encoding u.endian s) (table_in u) u.encoding.address_size (length s) w) ≡ stops a (does false coding s u w.at w.base_address w.entries)
stops_ranges coding s u a w =
    ap (stops_at a) (trace_carrying (listed false coding u.encoding u.endian s) (table_in u) u.encoding.address_size (length s) w)
    ∙ range_stops a (trace (with_entries (listed false coding u.encoding u.endian s)) (table_in u) u.encoding.address_size (length s) w)
    ∙ ap (stops a) (sym (trace_carrying (carried_as (listed false coding u.encoding u.endian s) (located_in false)) (table_in u) u.encoding.address_size (length s) w))
