-- What a lookup does not read. Assumes nothing.
use mathlib.Core.Path.{◌≡◌, refl, sym, ap, ◌∙◌}
use mathlib.Core.Bool.{Bool, true, false, ◌&&◌}
use mathlib.Core.List.{List}
use Prim.Native.Nat.{ℕ, ◌+◌, ◌≤◌, ◌<◌}
use native.Mathlib.Omega.{arith}
use lib.ListN.{length}
use Rattle.section_bytes.specs.Read.{Result, gives, refused, got, Read, pick}
use Rattle.section_bytes.specs.Error.{number}
use Rattle.section_bytes.specs.declared.error.Error.TheVariants.{UnexpectedEof}
use Rattle.section_bytes.specs.declared.common.DebugAddrBase.{DebugAddrBase}
use Rattle.section_bytes.specs.declared.common.DebugAddrIndex.{DebugAddrIndex}
use Rattle.section_bytes.specs.declared.common.Encoding.{Encoding}
use Rattle.section_bytes.specs.declared.endianity.RunTimeEndian.{RunTimeEndian}
use Rattle.section_bytes.proofs.Took.{Agree, narrow, agree_stands, Took, Stands, within}
use Rattle.entries.specs.Forms.{Raw, stop, entry}
use Rattle.entries.specs.Listed.{EntryIn, read_in}
use Rattle.entries.specs.Numbers.{Coding, dwarf}
use Rattle.entries.specs.declared.RawLocListEntry.{RawLocListEntry}
use Rattle.lists.specs.Open.{read_to, rebased}
use Rattle.lists.specs.Convert.{Turn, range, rebase, skip, convert, table_at, expression_of}
use Rattle.lists.specs.Walk.{Listing, Item, item, Trace, over, on_turn, on_read, trace, listed, bounds_in, carried_in, handed}
use Rattle.lists.specs.Walks.{is_default, carried_as}
use Rattle.lists.specs.declared.Walk.{Walk}
use Rattle.lists.proofs.WalkLaws.{trace_step, trace_ind}
use Rattle.lists.proofs.Past.{listed_took, listed_past, listed_alike}
use Rattle.lookups.specs.Lookup.{Found, found, not_there, holds, lookup_in, only, is_bounded, or_else, location_in, found_carrying, locations_from, lookup_location_from}
use Rattle.lookups.specs.Defaults.{by_default}
use Rattle.lookups.proofs.DefaultLaws.{location_lookups}

-- one of two statements, by a test
abbrev Either : Bool → Type 0 → Type 0 → Type 0
Either true A B = A
Either false A B = B

-- the first item that a test takes, or the refusal met before it
first_in : {D : Type 0} → (Item D → Bool) → Trace D → Result (Found D)
first_in p (over w) = gives not_there
first_in p (handed (gives i) w t) = pick (p i) (gives (found i)) (first_in p t)
first_in p (handed (refused n vs) w t) = refused n vs

-- that item, or that refusal, ends at m
abbrev pub FoundBy : {D : Type 0} → (Item D → Bool) → ℕ → Trace D → Type 0
FoundBy p m (over w) = ⊥
FoundBy p m (handed (gives i) w t) = Either (p i) (w.at ≡ m) (FoundBy p m t)
FoundBy p m (handed (refused n vs) w t) = w.at ≡ m

-- of either list, by whether it holds locations, whatever its items carry
module _ (l : Bool) (coding : Coding) (encoding : Encoding) (endian : RunTimeEndian) (table : DebugAddrIndex → Result ℕ) (size : ℕ) {D : Type 0} (made : EntryIn l → D) (test : Item D → Bool) where
  abbrev reading : List ℕ → Listing
  reading s = carried_as (listed l coding encoding endian s) made

  -- what a section's bytes do from a walk on
  abbrev does : List ℕ → Walk → Trace D
  does s w = trace (reading s) table size (length s) w

  module _ (m : ℕ) where
    either_before : (t : Bool) (c : ℕ) (P : Type 0) → Either t (c ≡ m) P → (P → c ≤ m) → c ≤ m
    either_before true c P q k = omega arith
    either_before false c P q k = k q

    -- the entry found lies past every place that leads to it
    turn_before : (t : Result Turn) (d : D) (w : Walk) (go : Walk → Trace D) → ((v : Walk) → v.at ≡ w.at → FoundBy test m (go v) → v.at ≤ m) → FoundBy test m (on_turn t d w go) → w.at ≤ m
    turn_before (gives (range b e)) d w go k f = either_before (test (item b e d)) w.at (FoundBy test m (go w)) f (k w refl)
    turn_before (gives (rebase b)) d w go k f = k (rebased b w) refl f
    turn_before (gives skip) d w go k f = k w refl f
    turn_before (refused n vs) d w go k f = omega arith

    read_before : (s : List ℕ) (w : Walk) (r : Read (Raw (EntryIn l))) (go : Walk → Trace D) → w.at < length s → Took (w.at + 1) w.at s s r r
        → ((v : Walk) → w.at < v.at → FoundBy test m (go v) → v.at ≤ m) → FoundBy test m (on_read (reading s) table size (length s) w r go) → w.at ≤ m
    read_before s w (gives (got (entry e) c)) go i y k f =
        let q = turn_before (convert table size w.base_address (bounds_in l e)) (made e) (read_to c w) go (λ v o. k v (omega arith)) f in omega arith
    read_before s w (gives (got stop c)) go i y k f = absurd f
    read_before s w (refused n vs) go i y k f = omega arith

    found_before : (s : List ℕ) (w : Walk) → FoundBy test m (does s w) → w.at ≤ m
    found_before s =
        trace_ind (reading s) table size (length s) (listed_past l coding encoding endian s) (λ w u. FoundBy test m u → w.at ≤ m) (λ w h f. absurd f)
        (λ w h k f. read_before s w (read_in l coding encoding endian s w.at) (does s) h (listed_took l coding encoding endian s s w.at h) k f)

    module _ (s t : List ℕ) where
      either_same : (x : Bool) (i : Item D) {u v : Result (Found D)} (P : Type 0) (c : ℕ) → Either x (c ≡ m) P → (P → u ≡ v) → pick x (gives (found i)) u ≡ pick x (gives (found i)) v
      either_same true i P c f k = refl
      either_same false i P c f k = k f

      turn_same : (r : Result Turn) (d : D) (w : Walk) (f g : Walk → Trace D) → ((v : Walk) → v.at ≡ w.at → FoundBy test m (f v) → first_in test (g v) ≡ first_in test (f v))
          → FoundBy test m (on_turn r d w f) → first_in test (on_turn r d w g) ≡ first_in test (on_turn r d w f)
      unfolding first_in
      turn_same (gives (range b e)) d w f g k h = either_same (test (item b e d)) (item b e d) (FoundBy test m (f w)) w.at h (k w refl)
      turn_same (gives (rebase b)) d w f g k h = k (rebased b w) refl h
      turn_same (gives skip) d w f g k h = k w refl h
      turn_same (refused n vs) d w f g k h = refl

      -- the same entry is read from both
      read_same : (w : Walk) (r q : Read (Raw (EntryIn l))) (f g : Walk → Trace D) → Took (w.at + 1) w.at s t r q → (Agree w.at (length s) s t → r ≡ q) → Agree w.at m s t
          → ((v : Walk) → FoundBy test m (f v) → v.at ≤ m) → ((v : Walk) → w.at < v.at → FoundBy test m (f v) → first_in test (g v) ≡ first_in test (f v))
          → FoundBy test m (on_read (reading s) table size (length s) w r f)
          → first_in test (on_read (reading t) table size (length t) w q g) ≡ first_in test (on_read (reading s) table size (length s) w r f)
      unfolding first_in
      read_same w (gives (got (entry e) c)) q f g y z j k i h =
          let n = turn_before (convert table size w.base_address (bounds_in l e)) (made e) (read_to c w) f (λ v o. k v) h in
          let o : q ≡ gives (got (entry e) c) = y.2 (agree_stands (omega arith) n y.1 j) in
          ap (λ (x : Read (Raw (EntryIn l))). first_in test (on_read (reading t) table size (length t) w x g)) o
          ∙ turn_same (convert table size w.base_address (bounds_in l e)) (made e) (read_to c w) f g (λ v u. i v (omega arith)) h
      read_same w (gives (got stop c)) q f g y z j k i h = absurd h
      read_same w (refused n vs) q f g y z j k i h =
          ap (λ (x : Read (Raw (EntryIn l))). first_in test (on_read (reading t) table size (length t) w x g)) (sym (z (narrow (omega arith) (omega arith) j)))

      -- what follows the entry found, or the refusal met before it, is not read: sections of one length that agree up to its end give
      -- the same answer
      first_alone : (w : Walk) → Agree w.at m s t → FoundBy test m (trace (reading s) table size (length s) w)
          → first_in test (trace (reading t) table size (length t) w) ≡ first_in test (trace (reading s) table size (length s) w)
      first_alone =
          trace_ind (reading s) table size (length s) (listed_past l coding encoding endian s)
          (λ w u. Agree w.at m s t → FoundBy test m u → first_in test (does t w) ≡ first_in test u) (λ w h j f. absurd f)
          (λ w h k j f.
          ap (first_in test) (trace_step (reading t) table size (length t) (listed_past l coding encoding endian t) w (omega (arith, j.size)))
          ∙ read_same w (read_in l coding encoding endian s w.at) (read_in l coding encoding endian t w.at) (does s) (does t) (listed_took l coding encoding endian s t w.at h) (listed_alike l coding encoding endian s t w.at) j
          (found_before s) (λ v o g. k v o (narrow (omega arith) (omega arith) j) g) f)

  -- a refusal other than of missing bytes, that a section's bytes give: what follows them isn't read
  module _ (s t : List ℕ) (n : ℕ) (vs : List ℕ) (other : n ≡ number UnexpectedEof → ⊥) where
    either_refused : (x : Bool) (i : Item D) {u v : Result (Found D)} → (u ≡ refused n vs → v ≡ refused n vs) → pick x (gives (found i)) u ≡ refused n vs → pick x (gives (found i)) v ≡ refused n vs
    either_refused true i k q = q
    either_refused false i k q = k q

    turn_refused : (r : Result Turn) (d : D) (w : Walk) (f g : Walk → Trace D) → ((v : Walk) → v.at ≡ w.at → first_in test (f v) ≡ refused n vs → first_in test (g v) ≡ refused n vs)
        → first_in test (on_turn r d w f) ≡ refused n vs → first_in test (on_turn r d w g) ≡ refused n vs
    unfolding first_in
    turn_refused (gives (range b e)) d w f g k q = either_refused (test (item b e d)) (item b e d) (k w refl) q
    turn_refused (gives (rebase b)) d w f g k q = k (rebased b w) refl q
    turn_refused (gives skip) d w f g k q = k w refl q
    turn_refused (refused m us) d w f g k q = q

    read_refused : (w : Walk) (r q : Read (Raw (EntryIn l))) (f g : Walk → Trace D) → Took (w.at + 1) w.at s t r q → Stands w.at (length s) s t
        → ((v : Walk) → w.at < v.at → first_in test (f v) ≡ refused n vs → first_in test (g v) ≡ refused n vs)
        → first_in test (on_read (reading s) table size (length s) w r f) ≡ refused n vs → first_in test (on_read (reading t) table size (length t) w q g) ≡ refused n vs
    unfolding first_in
    read_refused w (gives (got (entry e) c)) q f g k j i h =
        let o : q ≡ gives (got (entry e) c) = k.2 (within (omega arith) k.1 j) in
        ap (λ (x : Read (Raw (EntryIn l))). first_in test (on_read (reading t) table size (length t) w x g)) o
        ∙ turn_refused (convert table size w.base_address (bounds_in l e)) (made e) (read_to c w) f g (λ v u. i v (omega arith)) h
    read_refused w (gives (got stop c)) q f g k j i h = let z : ◌≡◌ {A = ℕ} 0 1 = cc in absurd (omega arith)
    read_refused w (refused m us) q f g k j i h =
        let e : m ≡ n = cc in
        ap (λ (x : Read (Raw (EntryIn l))). first_in test (on_read (reading t) table size (length t) w x g)) (k (λ z. other (sym e ∙ z)) j) ∙ h

    not_over : (w : Walk) → first_in {D = D} test (over w) ≡ refused n vs → ⊥
    unfolding first_in
    not_over w h = let z : ◌≡◌ {A = ℕ} 0 1 = cc in absurd (omega arith)

    first_refused : (w : Walk) → Stands w.at (length s) s t → first_in test (trace (reading s) table size (length s) w) ≡ refused n vs
        → first_in test (trace (reading t) table size (length t) w) ≡ refused n vs
    first_refused =
        trace_ind (reading s) table size (length s) (listed_past l coding encoding endian s)
        (λ w u. Stands w.at (length s) s t → first_in test u ≡ refused n vs → first_in test (does t w) ≡ refused n vs) (λ w h j q. absurd (not_over w q))
        (λ w h k j q.
        ap (first_in test) (trace_step (reading t) table size (length t) (listed_past l coding encoding endian t) w (omega (arith, j.fits)))
        ∙ read_refused w (read_in l coding encoding endian s w.at) (read_in l coding encoding endian t w.at) (does s) (does t) (listed_took l coding encoding endian s t w.at h) j
        (λ v o. k v o (within (omega arith) (omega arith) j)) q)

-- a lookup is the first item of its test
abbrev pub inside : {D : Type 0} → ℕ → Item D → Bool
inside a (item b e d) = holds a b e

inside_first : {D : Type 0} (a : ℕ) (t : Trace D) → lookup_in a t ≡ first_in (inside a) t
unfolding lookup_in first_in
inside_first a (over w) = refl
inside_first a (handed (gives (item b e d)) w t) = ap (pick (holds a b e) (gives (found (item b e d)))) (inside_first a t)
inside_first a (handed (refused n vs) w t) = refl

abbrev pub inside_of : {D : Type 0} → (D → Bool) → ℕ → Item D → Bool
inside_of p a (item b e d) = p d && holds a b e

of_item : {D : Type 0} (a : ℕ) (h : Bool) (b e : ℕ) (d : D) (w : Walk) (t : Trace D) {u : Result (Found D)} → lookup_in a t ≡ u
    → lookup_in a (pick h (handed (gives (item b e d)) w t) t) ≡ pick (h && holds a b e) (gives (found (item b e d))) u
unfolding lookup_in
of_item a true b e d w t q = ap (pick (holds a b e) (gives (found (item b e d)))) q
of_item a false b e d w t q = q

of_first : {D : Type 0} (p : D → Bool) (a : ℕ) (t : Trace D) → lookup_in a (only p t) ≡ first_in (inside_of p a) t
unfolding lookup_in first_in
of_first p a (over w) = refl
of_first p a (handed (gives (item b e d)) w t) = of_item a (p d) b e d w (only p t) (of_first p a t)
of_first p a (handed (refused n vs) w t) = refl

-- what ends at a place is found or refused
either_settled : {D : Type 0} (h : Bool) (i : Item D) (u x : Result (Found D)) (A B : Type 0) → Either h A B → (B → or_else u x ≡ u) → or_else (pick h (gives (found i)) u) x ≡ pick h (gives (found i)) u
either_settled true i u x A B f k = refl
either_settled false i u x A B f k = k f

settled : {D : Type 0} (p : Item D → Bool) (m : ℕ) (t : Trace D) (x : Result (Found D)) → FoundBy p m t → or_else (first_in p t) x ≡ first_in p t
unfolding first_in
settled p m (over w) x f = absurd f
settled p m (handed (gives i) w t) x f = either_settled (p i) i (first_in p t) x (w.at ≡ m) (FoundBy p m t) f (settled p m t x)
settled p m (handed (refused n vs) w t) x f = refl

-- in a range list, what follows the entry found, or the refusal met before it, is not read: sections of one length that agree up to its
-- end give the same answer
module _ (coding : Coding) (encoding : Encoding) (endian : RunTimeEndian) (table : DebugAddrIndex → Result ℕ) (size a : ℕ) (s t : List ℕ) (w : Walk) where
  abbrev ranged : List ℕ → Trace Unit
  ranged x = trace (listed false coding encoding endian x) table size (length x) w

  pub found_alone : (m : ℕ) → Agree w.at m s t → FoundBy (inside a) m (trace (listed false coding encoding endian s) table size (length s) w)
      → lookup_in a (trace (listed false coding encoding endian t) table size (length t) w) ≡ lookup_in a (trace (listed false coding encoding endian s) table size (length s) w)
  found_alone m j f = inside_first a (ranged t) ∙ first_alone false coding encoding endian table size (carried_in false) (inside a) m s t w j f ∙ sym (inside_first a (ranged s))

  -- a refusal other than of missing bytes does not change with what follows the bytes that give it, either
  pub refusal_alone : (n : ℕ) (vs : List ℕ) → (n ≡ number UnexpectedEof → ⊥) → Stands w.at (length s) s t
      → lookup_in a (trace (listed false coding encoding endian s) table size (length s) w) ≡ refused n vs → lookup_in a (trace (listed false coding encoding endian t) table size (length t) w) ≡ refused n vs
  refusal_alone n vs other j q =
      inside_first a (ranged t) ∙ first_refused false coding encoding endian table size (carried_in false) (inside a) s t n vs other w j (sym (inside_first a (ranged s)) ∙ q)

-- in a location list it is the bounded entry found that nothing behind is read of, whatever default locations stand before it
module _ (split : Bool) (encoding : Encoding) (endian : RunTimeEndian) (table : List ℕ) (tableBase : DebugAddrBase) (a : ℕ) (s t : List ℕ) (w : Walk) where
  abbrev located : List ℕ → Trace RawLocListEntry
  located x = locations_from split encoding endian x table tableBase w

  pub location_found_alone : (m : ℕ) → Agree w.at m s t → FoundBy (inside_of is_bounded a) m (locations_from split encoding endian s table tableBase w)
      → lookup_location_from split encoding endian t table tableBase a w ≡ lookup_location_from split encoding endian s table tableBase a w
  unfolding location_in
  location_found_alone m j f =
      let q = first_alone true (dwarf split) encoding endian (table_at endian encoding tableBase table) encoding.address_size (λ e. e) (inside_of is_bounded a) m s t w j f in
      let k : (y : Result (Found RawLocListEntry)) → or_else (lookup_in a (only is_bounded (located s))) y ≡ first_in (inside_of is_bounded a) (located s) = λ y. rw (of_first is_bounded a (located s)) (settled (inside_of is_bounded a) m (located s) y f) in
      let z : location_in a (located t) ≡ location_in a (located s) = rw (of_first is_bounded a (located t) ∙ q ∙ sym (of_first is_bounded a (located s))) (k (lookup_in a (only is_default (located t))) ∙ sym (k (lookup_in a (only is_default (located s))))) in
      ap (found_carrying expression_of) z

  pub location_refusal_alone : (n : ℕ) (vs : List ℕ) → (n ≡ number UnexpectedEof → ⊥) → Stands w.at (length s) s t
      → location_in a (locations_from split encoding endian s table tableBase w) ≡ refused n vs → location_in a (locations_from split encoding endian t table tableBase w) ≡ refused n vs
  unfolding location_in
  location_refusal_alone n vs other j q =
      let o = (location_lookups split encoding endian s table tableBase a w).defaults_last.others (ap by_default q) in
      let r = first_refused true (dwarf split) encoding endian (table_at endian encoding tableBase table) encoding.address_size (λ e. e) (inside_of is_bounded a) s t n vs other w j (sym (of_first is_bounded a (located s)) ∙ sym o ∙ q) in
      rw (of_first is_bounded a (located t) ∙ r)
