-- A lookup in one reading, in either list: what is left of it, by what was kept of the default locations and what the list still does.
-- Assumes nothing.
use mathlib.Core.Bool.{Bool, true, false, not}
use mathlib.Core.List.{List}
use mathlib.Core.Path.{◌≡◌, refl, sym, ap, ◌∙◌, subst}
use Prim.Native.Nat.{ℕ, ◌-◌, ◌^◌, ◌≤◌, ◌<◌}
use native.Mathlib.Omega.{arith}
use lib.Dec.{leb}
use lib.ListN.{length}
use Rattle.std.specs.Prelude.{Some, None, Ok}
use Rattle.std.specs.Option.{option_or}
use Rattle.std.specs.declared.option.Option.{Option}
use Rattle.std.proofs.lemmas.Result.{err_from_is_err_and}
use Rattle.section_bytes.specs.Read.{Result, gives, refused, got, Read, pick}
use Rattle.entries.specs.Forms.{Raw, stop, entry}
use Rattle.entries.specs.Listed.{EntryIn}
use Rattle.entries.specs.Numbers.{Coding, dwarf}
use Rattle.entries.specs.declared.Expression.{Expression}
use Rattle.entries.specs.declared.RawLocListEntry.{RawLocListEntry}
use Rattle.entries.specs.declared.RawRngListEntry.{RawRngListEntry}
use Rattle.lists.specs.Open.{walk_at, one_more}
use Rattle.lists.specs.Convert.{Turn, range, rebase, skip, convert, table_in, expression_of}
use Rattle.lists.specs.Walk.{Listing, CarriedIn, bounds_in, carried_in, listed, Item, item, Trace, over, handed, trace}
use Rattle.lists.specs.Uncounted.{trace_uncounted}
use Rattle.lists.specs.Walks.{is_default, carried_as, with_entries, carrying}
use Rattle.lists.specs.Steps.{Step, yields, rebases, passes, fails, ended, turned, on_entry, step, Located, is_default_in, located_in, located, step_in_unit, stepped_to, stepped_in}
use Rattle.lists.specs.declared.Unit.{Unit as DwarfUnit}
use Rattle.lists.specs.declared.Walk.{Walk}
use Rattle.lists.specs.declared.LocationListEntry.{LocationListEntry}
use Rattle.lists.specs.declared.listed.Stepped.{Stepped}
use Rattle.lists.specs.declared.listed.Stepped.TheVariants as code
use Rattle.lists.proofs.CountLaws.{uncounted_as_before}
use Rattle.lists.proofs.Past.{listed_past, listed_ends}
use Rattle.lists.proofs.Bounds.{trace_carrying, Turned, whole_in}
use Rattle.lists.proofs.SteppedLaws.{Stepping, stepping, stepped_item, stepped_base, stepped_nothing, stepped_failed, stepped_refused, stepped_end_at}
use Rattle.lookups.specs.Lookup.{Found, found, not_there, holds, lookup_in, only, is_bounded, or_else, location_in, found_carrying, lookup_range_from_unit, lookup_location_from, told_location_found}

-- the first item that holds the address among those that a test takes
pub seek : {D : Type 0} → ℕ → (Located D → Bool) → Trace (Located D) → Result (Found D)
seek a p (over w) = gives not_there
seek a p (handed (gives (item b e d)) w t) = pick (p d) (pick (holds a b e) (gives (found (item b e d.carries))) (seek a p t)) (seek a p t)
seek a p (handed (refused n vs) w t) = refused n vs

abbrev pub bounded : {D : Type 0} → Located D → Bool
bounded d = not d.by_default

abbrev pub default : {D : Type 0} → Located D → Bool
default d = d.by_default

-- what a lookup is to answer, by what was kept and what the list does from here
pub left : {D : Type 0} → ℕ → Result (Found D) → Trace (Located D) → Result (Found D)
left a k t = or_else (seek a bounded t) (or_else k (seek a default t))

module _ (a : ℕ) where
  held_seek : (h : Bool) (b e : ℕ) (x : RawLocListEntry) (u : Result (Found RawLocListEntry)) {v : Result (Found Expression)} → found_carrying expression_of u ≡ v
      → found_carrying expression_of (pick h (gives (found (item b e x))) u) ≡ pick h (gives (found (item b e (expression_of x)))) v
  held_seek true b e x u q = refl
  held_seek false b e x u q = q

  taken_seek : (p : Located Expression → Bool) (t : Bool) (b e : ℕ) (x : RawLocListEntry) (w : Walk) (r : Trace RawLocListEntry) {v : Result (Found Expression)} → found_carrying expression_of (lookup_in a (only (λ y. p (located y)) r)) ≡ v
      → found_carrying expression_of (lookup_in a (pick t (handed (gives (item b e x)) w (only (λ y. p (located y)) r)) (only (λ y. p (located y)) r))) ≡ pick t (pick (holds a b e) (gives (found (item b e (expression_of x)))) v) v
  unfolding lookup_in
  taken_seek p true b e x w r q = held_seek (holds a b e) b e x (lookup_in a (only (λ y. p (located y)) r)) q
  taken_seek p false b e x w r q = q

  -- a lookup among the entries that a test takes, by what the code knows of each
  only_seek : (p : Located Expression → Bool) (t : Trace RawLocListEntry) → found_carrying expression_of (lookup_in a (only (λ y. p (located y)) t)) ≡ seek a p (carrying located t)
  unfolding lookup_in seek
  only_seek p (over w) = refl
  only_seek p (handed (gives (item b e x)) w t) = taken_seek p (p (located x)) b e x w t (only_seek p t)
  only_seek p (handed (refused n vs) w t) = refl

  carrying_else : (x y : Result (Found RawLocListEntry)) → found_carrying expression_of (or_else x y) ≡ or_else (found_carrying expression_of x) (found_carrying expression_of y)
  carrying_else (gives (found (item b e d))) y = refl
  carrying_else (gives not_there) y = refl
  carrying_else (refused n vs) y = refl

  pub at_first : (t : Trace RawLocListEntry) → found_carrying expression_of (location_in a t) ≡ left a (gives not_there) (carrying located t)
  unfolding location_in left
  at_first t = carrying_else (lookup_in a (only is_bounded t)) (lookup_in a (only is_default t)) ∙ rw (only_seek bounded t, only_seek default t)

  -- a range list has no default location: its lookup is the first of all its items
  else_picked : {D : Type 0} (h : Bool) (i : Item D) (u v : Result (Found D)) {r : Result (Found D)} → r ≡ or_else u v → pick h (gives (found i)) r ≡ or_else (pick h (gives (found i)) u) v
  else_picked true i u v q = refl
  else_picked false i u v q = q

  pub at_first_range : (t : Trace RawRngListEntry) → lookup_in a (carrying (carried_in false) t) ≡ left a (gives not_there) (carrying (located_in false) t)
  unfolding lookup_in left seek
  at_first_range (over w) = refl
  at_first_range (handed (gives (item b e x)) w t) =
      else_picked (holds a b e) (item b e tt) (seek a bounded (carrying (located_in false) t)) (seek a default (carrying (located_in false) t)) (at_first_range t)
  at_first_range (handed (refused n vs) w t) = refl

  else_none : {D : Type 0} (k : Result (Found D)) → or_else k (gives not_there) ≡ k
  else_none (gives (found i)) = refl
  else_none (gives not_there) = refl
  else_none (refused n vs) = refl

  else_found : {D : Type 0} (k : Result (Found D)) (i : Item D) (r : Result (Found D)) → or_else k (gives (found i)) ≡ or_else (or_else k (gives (found i))) r
  else_found (gives (found j)) i r = refl
  else_found (gives not_there) i r = refl
  else_found (refused n vs) i r = refl

  module _ {D : Type 0} (k : Result (Found D)) {u t : Trace (Located D)} {b e : ℕ} {x : D} {w : Walk} where
    pub bounded_held : u ≡ handed (gives (item b e (record { carries = x; by_default = false }))) w t → holds a b e ≡ true → left a k u ≡ gives (found (item b e x))
    unfolding left seek
    bounded_held q h = ap (left a k) q ∙ simp h

    pub bounded_not_held : u ≡ handed (gives (item b e (record { carries = x; by_default = false }))) w t → holds a b e ≡ false → left a k u ≡ left a k t
    unfolding left seek
    bounded_not_held q h = ap (left a k) q ∙ simp h

    pub default_held : u ≡ handed (gives (item b e (record { carries = x; by_default = true }))) w t → holds a b e ≡ true → left a k u ≡ left a (or_else k (gives (found (item b e x)))) t
    unfolding left seek
    default_held q h =
        let m : left a k (handed (gives (item b e (record { carries = x; by_default = true }))) w t) ≡ or_else (seek a bounded t) (or_else k (gives (found (item b e x)))) = simp h in
        ap (left a k) q ∙ m ∙ ap (or_else (seek a bounded t)) (else_found k (item b e x) (seek a default t))

    pub default_not_held : u ≡ handed (gives (item b e (record { carries = x; by_default = true }))) w t → holds a b e ≡ false → left a k u ≡ left a k t
    unfolding left seek
    default_not_held q h = ap (left a k) q ∙ simp h

  pub at_refusal : {D : Type 0} (k : Result (Found D)) {u t : Trace (Located D)} {n : ℕ} {vs : List ℕ} {w : Walk} → u ≡ handed (refused n vs) w t → left a k u ≡ refused n vs
  unfolding left seek
  at_refusal k q = ap (left a k) q

  pub at_end : {D : Type 0} (k : Result (Found D)) {u : Trace (Located D)} {w : Walk} → u ≡ over w → left a k u ≡ k
  unfolding left seek
  at_end k q = ap (left a k) q ∙ else_none k

  -- it does not hang on what the list's walks have counted
  seek_uncounted : {D : Type 0} (p : Located D → Bool) (t : Trace (Located D)) → seek a p t ≡ seek a p (trace_uncounted t)
  unfolding seek
  seek_uncounted p (over w) = refl
  seek_uncounted p (handed (gives (item b e d)) w t) = rw (seek_uncounted p t) refl
  seek_uncounted p (handed (refused n vs) w t) = refl

  left_uncounted : {D : Type 0} (k : Result (Found D)) (t : Trace (Located D)) → left a k t ≡ left a k (trace_uncounted t)
  unfolding left
  left_uncounted k t = rw (seek_uncounted bounded t, seek_uncounted default t) refl

-- a default location is 0 to 2^64 - 1, also as a step tells it
abbrev Wholly : Bool → ℕ → ℕ → Type 0
Wholly d b e = d ≡ true → (b ≡ 0) × (e ≡ 2 ^ 64 - 1)

abbrev SteppedWhole : {D : Type 0} → Result (Step (Located D)) → Type 0
SteppedWhole (gives (yields (item b e d) c)) = Wholly d.by_default b e
SteppedWhole (gives (rebases b c)) = Unit
SteppedWhole (gives (passes c)) = Unit
SteppedWhole (gives (fails n vs c)) = Unit
SteppedWhole (gives ended) = Unit
SteppedWhole (refused n vs) = Unit

none_whole : (t : Result Turn) → Turned (Wholly false) t
none_whole (gives (range b e)) = λ d. let z : ◌≡◌ {A = ℕ} 0 1 = cc in absurd (omega arith)
none_whole (gives (rebase b)) = tt
none_whole (gives skip) = tt
none_whole (refused n vs) = tt

turn_whole : {D : Type 0} (t : Result Turn) (d : Located D) (c : ℕ) → Turned (Wholly d.by_default) t → SteppedWhole (gives (turned t d c))
turn_whole (gives (range b e)) d c h = h
turn_whole (gives (rebase b)) d c h = tt
turn_whole (gives skip) d c h = tt
turn_whole (refused n vs) d c h = tt

-- of either list, by whether it holds locations, a step at a time
module _ (l : Bool) (coding : Coding) (s : List ℕ) (u : DwarfUnit) where
  abbrev list : Listing
  list = carried_as (listed l coding u.encoding u.endian s) (located_in l)

  -- what it does from a place on, under a base address
  abbrev pub does : ℕ → ℕ → ℕ → Trace (Located (CarriedIn l))
  does at base n = trace list (table_in u) u.encoding.address_size (length s) (walk_at at base n)

  converts_whole : (base : ℕ) (x : EntryIn l) → Turned (Wholly (is_default_in l x)) (convert (table_in u) u.encoding.address_size base (bounds_in l x))
  converts_whole = by l
    where
      by : (m : Bool) (base : ℕ) (x : EntryIn m) → Turned (Wholly (is_default_in m x)) (convert (table_in u) u.encoding.address_size base (bounds_in m x))
      by true base x = whole_in (table_in u) u.encoding.address_size base x
      by false base x = none_whole (convert (table_in u) u.encoding.address_size base x)

  entry_whole : (base : ℕ) (r : Read (Raw (EntryIn l))) → SteppedWhole (on_entry list (table_in u) u.encoding.address_size base r)
  entry_whole base (gives (got (entry x) c)) = turn_whole (convert (table_in u) u.encoding.address_size base (bounds_in l x)) (located_in l x) c (converts_whole base x)
  entry_whole base (gives (got stop c)) = tt
  entry_whole base (refused n vs) = tt

  module _ (at base : ℕ) where
    abbrev pub Steps : Result (Step (Located (CarriedIn l))) → Type 0
    Steps r = r ≡ step_in_unit l coding s u at base

    pub step_ahead : {r : Result (Step (Located (CarriedIn l)))} → Steps r → Stepping at (length s) r
    step_ahead q = subst (Stepping at (length s)) (sym q) (stepping list _ _ _ (listed_past l coding u.encoding u.endian s) (listed_ends l coding u.encoding u.endian s) at base)

    pub step_past : (x : Stepped) {c : ℕ} → Steps (stepped_in l (gives (stepped_to x c))) → (at < c) × (c ≤ length s)
    step_past (code.Bounded x) q = step_ahead q
    step_past (code.Default x) q = step_ahead q
    step_past (code.Base b) q = step_ahead q
    step_past code.Nothing q = step_ahead q
    step_past (code.Failed e) q = step_ahead q

    step_whole : SteppedWhole (step_in_unit l coding s u at base)
    unfolding step
    step_whole = entry_whole base (list.read at)

    pub default_bounds : {b e : ℕ} {d : Located (CarriedIn l)} {c : ℕ} → Steps (gives (yields (item b e d) c)) → d.by_default ≡ true → (b ≡ 0) × (e ≡ 2 ^ 64 - 1)
    default_bounds q = subst SteppedWhole (sym q) step_whole

    -- what the list does first, by the step
    module _ (n : ℕ) where
      pub found_as : {b e : ℕ} {d : Located (CarriedIn l)} {c : ℕ} → Steps (gives (yields (item b e d) c)) → does at base n ≡ handed (gives (item b e d)) (walk_at c base (one_more n)) (does c base (one_more n))
      found_as q = stepped_item list _ _ _ (listed_past l coding u.encoding u.endian s) (listed_ends l coding u.encoding u.endian s) (walk_at at base n) (sym q)

      pub base_as : {b c : ℕ} → Steps (gives (rebases b c)) → does at base n ≡ does c b (one_more n)
      base_as q = stepped_base list _ _ _ (listed_past l coding u.encoding u.endian s) (listed_ends l coding u.encoding u.endian s) (walk_at at base n) (sym q)

      pub nothing_as : {c : ℕ} → Steps (gives (passes c)) → does at base n ≡ does c base (one_more n)
      nothing_as q = stepped_nothing list _ _ _ (listed_past l coding u.encoding u.endian s) (listed_ends l coding u.encoding u.endian s) (walk_at at base n) (sym q)

      pub failed_as : {m : ℕ} {vs : List ℕ} {c : ℕ} → Steps (gives (fails m vs c)) → does at base n ≡ handed (refused m vs) (walk_at c base (one_more n)) (does c base (one_more n))
      failed_as q = stepped_failed list _ _ _ (listed_past l coding u.encoding u.endian s) (listed_ends l coding u.encoding u.endian s) (walk_at at base n) (sym q)

      pub refused_as : {m : ℕ} {vs : List ℕ} → Steps (refused m vs) → does at base n ≡ handed (refused m vs) (walk_at (length s) base n) (over (walk_at (length s) base n))
      refused_as q = stepped_refused list _ _ _ (listed_past l coding u.encoding u.endian s) (listed_ends l coding u.encoding u.endian s) (walk_at at base n) (sym q)

      pub end_as : Steps (gives ended) → does at base n ≡ over (pick (leb (length s) at) (walk_at at base n) (walk_at (length s) base (one_more n)))
      end_as q = stepped_end_at list _ _ _ (listed_past l coding u.encoding u.endian s) (listed_ends l coding u.encoding u.endian s) (walk_at at base n) (sym q)

  -- and what is left of a lookup then, however many entries were counted
  module _ (a : ℕ) where
    any_count : (k : Result (Found (CarriedIn l))) (at base n m : ℕ) → left a k (does at base n) ≡ left a k (does at base m)
    any_count k at base n m =
        left_uncounted a k (does at base n)
        ∙ ap (left a k) (uncounted_as_before.walk list (table_in u) u.encoding.address_size (length s) (walk_at at base n) ∙ sym (uncounted_as_before.walk list (table_in u) u.encoding.address_size (length s) (walk_at at base m)))
        ∙ sym (left_uncounted a k (does at base m))

    module _ (k : Result (Found (CarriedIn l))) (at base n : ℕ) where
      pub step_bounded_held : {b e : ℕ} {x : CarriedIn l} {c : ℕ} → Steps at base (gives (yields (item b e (record { carries = x; by_default = false })) c)) → holds a b e ≡ true → left a k (does at base n) ≡ gives (found (item b e x))
      step_bounded_held q h = bounded_held a k (found_as at base n q) h

      pub step_failed : {i : ℕ} {vs : List ℕ} {c : ℕ} → Steps at base (gives (fails i vs c)) → left a k (does at base n) ≡ refused i vs
      step_failed q = at_refusal a k (failed_as at base n q)

      pub step_refused : {i : ℕ} {vs : List ℕ} → Steps at base (refused i vs) → left a k (does at base n) ≡ refused i vs
      step_refused q = at_refusal a k (refused_as at base n q)

      pub step_end : Steps at base (gives ended) → left a k (does at base n) ≡ k
      step_end q = at_end a k (end_as at base n q)

      module _ (m : ℕ) where
        module _ {b e : ℕ} {x : CarriedIn l} {c : ℕ} where
          pub step_bounded : Steps at base (gives (yields (item b e (record { carries = x; by_default = false })) c)) → holds a b e ≡ false → left a k (does at base n) ≡ left a k (does c base m)
          step_bounded q h = bounded_not_held a k (found_as at base n q) h ∙ any_count k c base (one_more n) m

          pub step_default_held : Steps at base (gives (yields (item b e (record { carries = x; by_default = true })) c)) → holds a b e ≡ true → left a k (does at base n) ≡ left a (or_else k (gives (found (item b e x)))) (does c base m)
          step_default_held q h = default_held a k (found_as at base n q) h ∙ any_count (or_else k (gives (found (item b e x)))) c base (one_more n) m

          pub step_default : Steps at base (gives (yields (item b e (record { carries = x; by_default = true })) c)) → holds a b e ≡ false → left a k (does at base n) ≡ left a k (does c base m)
          step_default q h = default_not_held a k (found_as at base n q) h ∙ any_count k c base (one_more n) m

        pub step_base : {b c : ℕ} → Steps at base (gives (rebases b c)) → left a k (does at base n) ≡ left a k (does c b m)
        step_base {b} {c} q = ap (left a k) (base_as at base n q) ∙ any_count k c b (one_more n) m

        pub step_nothing : {c : ℕ} → Steps at base (gives (passes c)) → left a k (does at base n) ≡ left a k (does c base m)
        step_nothing {c} q = ap (left a k) (nothing_as at base n q) ∙ any_count k c base (one_more n) m

-- a lookup from a walk on is what is left of it at the start: in a location list, and in a range list
pub from_walk : (split : Bool) (s : List ℕ) (u : DwarfUnit) (a : ℕ) (w : Walk)
    → lookup_location_from split u.encoding u.endian s u.debug_addr.now u.debug_addr_base a w ≡ left a (gives not_there) (does true (dwarf split) s u w.at w.base_address w.entries)
from_walk split s u a w =
    at_first a _ ∙ ap (left a (gives not_there)) (sym (trace_carrying (list true (dwarf split) s u) (table_in u) u.encoding.address_size (length s) w))

-- what was kept first
pub kept_first : (k : Option LocationListEntry) (x : LocationListEntry)
    → told_location_found (Ok (option_or k (Some x))) ≡ or_else (told_location_found (Ok k)) (gives (found (item x.range.begin x.range.end x.«data»)))
kept_first (Some y) x = refl
kept_first None x = refl

-- for the loop over the steps
pub ruleset seeking = (from_walk, step_past, step_bounded_held, step_bounded, step_default_held, step_default, step_base, step_nothing, step_failed, step_refused, step_end, kept_first, err_from_is_err_and)

pub from_range_walk : (coding : Coding) (s : List ℕ) (u : DwarfUnit) (a : ℕ) (w : Walk)
    → lookup_range_from_unit coding s u a w ≡ left a (gives not_there) (does false coding s u w.at w.base_address w.entries)
from_range_walk coding s u a w =
    ap (lookup_in a) (trace_carrying (listed false coding u.encoding u.endian s) (table_in u) u.encoding.address_size (length s) w)
    ∙ at_first_range a (trace (with_entries (listed false coding u.encoding u.endian s)) (table_in u) u.encoding.address_size (length s) w)
    ∙ ap (left a (gives not_there)) (sym (trace_carrying (list false coding s u) (table_in u) u.encoding.address_size (length s) w))
