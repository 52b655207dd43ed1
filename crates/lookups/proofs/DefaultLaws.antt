-- Lookups in location lists: by what the list does, an entry at a time. Assumes nothing.
use Prim.Native.Nat.{ℕ, ◌-◌, ◌^◌, ◌<◌}
use mathlib.Core.Bool.{Bool, true, false, not, and-eq-true_iff}
use mathlib.Core.List.{List}
use mathlib.Core.Path.{◌≡◌, refl, sym, ap, ◌∙◌}
use native.Mathlib.Omega.{arith}
use borrow.Author.Tests.{le-leb, lt-ltb, ltb-true}
use lib.Dec.{leb, ltb}
use lib.ListN.{length}
use Rattle.section_bytes.specs.Read.{Result, gives, refused}
use Rattle.section_bytes.specs.declared.common.DebugAddrBase.{DebugAddrBase}
use Rattle.section_bytes.specs.declared.common.Encoding.{Encoding}
use Rattle.section_bytes.specs.declared.endianity.RunTimeEndian.{RunTimeEndian}
use Rattle.entries.specs.declared.RawLocListEntry.{RawLocListEntry}
use Rattle.lists.specs.Convert.{table_at, expression_of}
use Rattle.lists.specs.Walk.{locations, Item, item, Trace, over, handed, trace}
use Rattle.lists.specs.Walks.{is_default, carrying, Each}
use Rattle.lists.specs.Yields.{Unrefused}
use Rattle.lists.specs.declared.Walk.{Walk}
use Rattle.lists.proofs.Bounds.{Whole, trace_carrying, default_whole}
use Rattle.lookups.specs.Lookup.{Found, found, not_there, holds, lookup_in, only, is_bounded, or_else, location_in, found_carrying, locations_from, lookup_location_from}
use Rattle.lookups.specs.Defaults.{NoBounded, NoDefault, first_default, by_default, DefaultsLast, LocationLookups}

abbrev either : {P : Type 0} (t : Bool) → (t ≡ true → P) → (t ≡ false → P) → P
either true f g = f refl
either false f g = g refl

module _ (a : ℕ) where
  -- a lookup among the entries that a test takes, an item at a time
  module _ (p : RawLocListEntry → Bool) (b e : ℕ) (x : RawLocListEntry) (w : Walk) (t : Trace RawLocListEntry) where
    passed : p x ≡ false → lookup_in a (only p (handed (gives (item b e x)) w t)) ≡ lookup_in a (only p t)
    unfolding lookup_in
    passed d = simp d

    held : p x ≡ true → holds a b e ≡ true → lookup_in a (only p (handed (gives (item b e x)) w t)) ≡ gives (found (item b e x))
    unfolding lookup_in
    held d h = simp (d, h)

    not_held : p x ≡ true → holds a b e ≡ false → lookup_in a (only p (handed (gives (item b e x)) w t)) ≡ lookup_in a (only p t)
    unfolding lookup_in
    not_held d h = simp (d, h)

  -- without a bounded entry that holds the address nothing is refused, and there is none in the whole list; and the other way
  none_bounded : (t : Trace RawLocListEntry) → lookup_in a (only is_bounded t) ≡ gives not_there → Unrefused t × NoBounded a t
  unfolding lookup_in
  none_bounded (over w) q = (tt, tt)
  none_bounded (handed (gives (item b e x)) w t) q =
      either (is_default x)
      (λ d. let r = none_bounded t (sym (passed is_bounded b e x w t (ap not d)) ∙ q) in (r.0, ((λ k. let z : ◌≡◌ {A = ℕ} 0 1 = cc in absurd (omega arith)), r.1)))
      (λ d. either (holds a b e)
      (λ h. let p = sym (held is_bounded b e x w t (ap not d) h) ∙ q in let z : ◌≡◌ {A = ℕ} 0 1 = cc in absurd (omega arith))
      (λ h. let r = none_bounded t (sym (not_held is_bounded b e x w t (ap not d) h) ∙ q) in (r.0, ((λ k. h), r.1))))
  none_bounded (handed (refused n vs) w t) q = let z : ◌≡◌ {A = ℕ} 0 1 = cc in absurd (omega arith)

  bounded_none : (t : Trace RawLocListEntry) → Unrefused t → NoBounded a t → lookup_in a (only is_bounded t) ≡ gives not_there
  unfolding lookup_in
  bounded_none (over w) u n = refl
  bounded_none (handed (gives (item b e x)) w t) u n =
      either (is_default x) (λ d. passed is_bounded b e x w t (ap not d) ∙ bounded_none t u n.1) (λ d. not_held is_bounded b e x w t (ap not d) (n.0 (ap not d)) ∙ bounded_none t u n.1)
  bounded_none (handed (refused m vs) w t) u n = absurd u

  -- the default locations of a list are all alike, so that the first one holds the address where any does
  whole_held : (b e : ℕ) → b ≡ 0 → e ≡ 2 ^ 64 - 1 → a < 2 ^ 64 - 1 → holds a b e ≡ true
  whole_held b e f g h = simp (le-leb b a (omega arith), lt-ltb a e (omega arith))

  held_below : (b e : ℕ) → e ≡ 2 ^ 64 - 1 → holds a b e ≡ true → a < 2 ^ 64 - 1
  held_below b e g h = let k = ltb-true a e ((and-eq-true_iff (leb b a) (ltb a e)).0 h).1 in omega arith

  default_first : (t : Trace RawLocListEntry) → Each Whole t → Unrefused t → a < 2 ^ 64 - 1 → lookup_in a (only is_default t) ≡ gives (first_default t)
  unfolding lookup_in
  default_first (over w) g u h = refl
  default_first (handed (gives (item b e x)) w t) g u h =
      either (is_default x)
      (λ d. held is_default b e x w t d (whole_held b e (g.0 d).0 (g.0 d).1 h) ∙ simp d)
      (λ d. passed is_default b e x w t d ∙ default_first t g.1 u h ∙ simp d)
  default_first (handed (refused n vs) w t) g u h = absurd u

  -- what is found among the default locations is one, and the address lies below 2^64 - 1
  default_below : (t : Trace RawLocListEntry) {i : Item RawLocListEntry} → Each Whole t → lookup_in a (only is_default t) ≡ gives (found i) → (by_default (gives (found i)) ≡ true) × (a < 2 ^ 64 - 1)
  unfolding lookup_in
  default_below (over w) g q = let z : ◌≡◌ {A = ℕ} 0 1 = cc in absurd (omega arith)
  default_below (handed (gives (item b e x)) w t) {i} g q =
      either (is_default x)
      (λ d. either (holds a b e)
      (λ h. let p : gives (found (item b e x)) ≡ gives (found i) = sym (held is_default b e x w t d h) ∙ q in (ap by_default (sym p) ∙ d, held_below b e (g.0 d).1 h))
      (λ h. default_below t g.1 (sym (not_held is_default b e x w t d h) ∙ q)))
      (λ d. default_below t g.1 (sym (passed is_default b e x w t d) ∙ q))
  default_below (handed (refused n vs) w t) g q = let z : ◌≡◌ {A = ℕ} 0 1 = cc in absurd (omega arith)

  -- what is found among the bounded entries is none
  bounded_found : (t : Trace RawLocListEntry) → by_default (lookup_in a (only is_bounded t)) ≡ false
  unfolding lookup_in
  bounded_found (over w) = refl
  bounded_found (handed (gives (item b e x)) w t) =
      either (is_default x)
      (λ d. ap by_default (passed is_bounded b e x w t (ap not d)) ∙ bounded_found t)
      (λ d. either (holds a b e) (λ h. ap by_default (held is_bounded b e x w t (ap not d) h) ∙ d) (λ h. ap by_default (not_held is_bounded b e x w t (ap not d) h) ∙ bounded_found t))
  bounded_found (handed (refused n vs) w t) = refl

  -- where nothing is refused, something is found or not
  unrefused_gives : (p : RawLocListEntry → Bool) (t : Trace RawLocListEntry) → Unrefused t → (f : Found RawLocListEntry) × (lookup_in a (only p t) ≡ gives f)
  unfolding lookup_in
  unrefused_gives p (over w) u = (not_there, refl)
  unrefused_gives p (handed (gives (item b e x)) w t) u =
      either (p x)
      (λ d. either (holds a b e) (λ h. (found (item b e x), held p b e x w t d h)) (λ h. let r = unrefused_gives p t u in (r.0, not_held p b e x w t d h ∙ r.1)))
      (λ d. let r = unrefused_gives p t u in (r.0, passed p b e x w t d ∙ r.1))
  unrefused_gives p (handed (refused n vs) w t) u = absurd u

  first_whole : (t : Trace RawLocListEntry) {b e : ℕ} {x : RawLocListEntry} → Each Whole t → first_default t ≡ found (item b e x) → (b ≡ 0) × (e ≡ 2 ^ 64 - 1)
  first_whole (over w) g q = let z : ◌≡◌ {A = ℕ} 0 1 = cc in absurd (omega arith)
  first_whole (handed (gives (item c f y)) w t) {b} {e} g q =
      either (is_default y)
      (λ d. let r : found (item c f y) ≡ _ = simp d at q in let m : c ≡ b = cc in let n : f ≡ e = cc in (sym m ∙ (g.0 d).0, sym n ∙ (g.0 d).1))
      (λ d. first_whole t g.1 (simp d at q))
  first_whole (handed (refused n vs) w t) g q = first_whole t g q

  module _ (t : Trace RawLocListEntry) (g : Each Whole t) where
    only_where : {b e : ℕ} {x : RawLocListEntry} (u : Result (Found RawLocListEntry)) → lookup_in a (only is_bounded t) ≡ u → or_else u (lookup_in a (only is_default t)) ≡ gives (found (item b e x)) → is_default x ≡ true
        → Unrefused t × NoBounded a t × (first_default t ≡ found (item b e x)) × (b ≡ 0) × (e ≡ 2 ^ 64 - 1) × (a < 2 ^ 64 - 1)
    only_where (gives (found i)) p q d =
        let r = sym d ∙ ap by_default (sym q) ∙ ap by_default (sym p) ∙ bounded_found t in let z : ◌≡◌ {A = ℕ} 0 1 = cc in absurd (omega arith)
    only_where {b} {e} {x} (gives not_there) p q d =
        let n = none_bounded t p in
        let h = (default_below t g q).1 in
        let r = sym (default_first t g n.0 h) ∙ q in
        let f : first_default t ≡ found (item b e x) = cc in
        let v = first_whole t g f in
        (n.0, n.1, f, v.0, v.1, h)
    only_where (refused n vs) p q d = let z : ◌≡◌ {A = ℕ} 0 1 = cc in absurd (omega arith)

    other_none : (f : Found RawLocListEntry) → lookup_in a (only is_default t) ≡ gives f → by_default (lookup_in a (only is_default t)) ≡ false → lookup_in a (only is_default t) ≡ gives not_there
    other_none (found i) r k = let m = sym (default_below t g r).0 ∙ ap by_default (sym r) ∙ k in let z : ◌≡◌ {A = ℕ} 0 1 = cc in absurd (omega arith)
    other_none not_there r k = r

    other : (u : Result (Found RawLocListEntry)) → lookup_in a (only is_bounded t) ≡ u → by_default (or_else u (lookup_in a (only is_default t))) ≡ false → or_else u (lookup_in a (only is_default t)) ≡ u
    other (gives (found i)) p k = refl
    other (gives not_there) p k = let r = unrefused_gives is_default t (none_bounded t p).0 in other_none r.0 r.1 k
    other (refused n vs) p k = refl

    pub last : DefaultsLast a t
    unfolding location_in
    last =
        record {
          default_only = λ q d. only_where (lookup_in a (only is_bounded t)) refl q d;
          default_there = λ u n h. rw (bounded_none t u n) (default_first t g u h);
          others = λ k. other (lookup_in a (only is_bounded t)) refl k;
        }

  -- an answer that is no default location stays what it is where these come last
  before : (t : Trace RawLocListEntry) → by_default (lookup_in a t) ≡ false → or_else (lookup_in a (only is_bounded t)) (lookup_in a (only is_default t)) ≡ lookup_in a t
  unfolding lookup_in
  before (over w) k = refl
  before (handed (gives (item b e x)) w t) k =
      either (is_default x)
      (λ d. either (holds a b e)
      (λ h. let m : is_default x ≡ false = simp h at k in let z : ◌≡◌ {A = ℕ} 0 1 = cc in absurd (omega arith))
      (λ h. let m : by_default (lookup_in a t) ≡ false = simp h at k in rw (passed is_bounded b e x w t (ap not d), not_held is_default b e x w t d h) (before t m ∙ simp h)))
      (λ d. either (holds a b e)
      (λ h. rw (held is_bounded b e x w t (ap not d) h) (simp h))
      (λ h. let m : by_default (lookup_in a t) ≡ false = simp h at k in rw (not_held is_bounded b e x w t (ap not d) h, passed is_default b e x w t d) (before t m ∙ simp h)))
  before (handed (refused n vs) w t) k = refl

  no_default : (t : Trace RawLocListEntry) → NoDefault t → by_default (lookup_in a t) ≡ false
  unfolding lookup_in
  no_default (over w) n = refl
  no_default (handed (gives (item b e x)) w t) n = either (holds a b e) (λ h. rw h n.0) (λ h. rw h (no_default t n.1))
  no_default (handed (refused m vs) w t) n = refl

  expressed : (t : Trace RawLocListEntry) → found_carrying expression_of (lookup_in a t) ≡ lookup_in a (carrying expression_of t)
  unfolding lookup_in
  expressed (over w) = refl
  expressed (handed (gives (item b e x)) w t) = either (holds a b e) (λ h. rw h) (λ h. rw h (expressed t))
  expressed (handed (refused n vs) w t) = refl

module _ (split : Bool) (encoding : Encoding) (endian : RunTimeEndian) (s table : List ℕ) (tableBase : DebugAddrBase) (a : ℕ) (w : Walk) where
  same : trace (locations split encoding endian s) (table_at endian encoding tableBase table) encoding.address_size (length s) w ≡ carrying expression_of (locations_from split encoding endian s table tableBase w)
  same = trace_carrying (locations split encoding endian s) (table_at endian encoding tableBase table) encoding.address_size (length s) w

  unchanged : by_default (lookup_in a (locations_from split encoding endian s table tableBase w)) ≡ false
      → lookup_location_from split encoding endian s table tableBase a w ≡ lookup_in a (trace (locations split encoding endian s) (table_at endian encoding tableBase table) encoding.address_size (length s) w)
  unfolding location_in
  unchanged k = ap (found_carrying expression_of) (before a (locations_from split encoding endian s table tableBase w) k) ∙ expressed a (locations_from split encoding endian s table tableBase w) ∙ ap (lookup_in a) (sym same)

  pub location_lookups : LocationLookups split encoding endian s table tableBase a w
  location_lookups =
      record {
        same_walk = same;
        defaults_last = last a (locations_from split encoding endian s table tableBase w) (default_whole split encoding endian s (table_at endian encoding tableBase table) encoding.address_size w);
        as_before = unchanged;
        no_defaults = λ n. unchanged (no_default a (locations_from split encoding endian s table tableBase w) n);
      }
