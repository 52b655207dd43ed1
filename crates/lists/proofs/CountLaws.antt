-- A walk's count is the number of entries that the definition reads before its place, and all else is as it was before walks
-- counted. Assumes nothing.
use mathlib.Core.Path.{◌≡◌, refl, ap, ◌∙◌, subst}
use mathlib.Core.Bool.{Bool, true, false}
use mathlib.Core.List.{List}
use mathlib.Core.Logic.{⊎_elim}
use Prim.Native.Nat.{ℕ, zero, suc, ◌+◌, ◌-◌, ◌^◌, ◌≤◌, ◌<◌}
use native.Mathlib.Omega.{arith}
use lib.Dec.{leb}
use Rattle.std.specs.Prelude.{min}
use lib.ListN.{length}
use borrow.Author.Tests.{le-leb, lt-leb, leb-false}
use Rattle.section_bytes.specs.Read.{Result, gives, refused, got, Read, pick}
use Rattle.section_bytes.specs.Reader.{is_size}
use Rattle.section_bytes.specs.declared.common.DebugAddrIndex.{DebugAddrIndex}
use Rattle.section_bytes.specs.declared.common.Encoding.{Encoding}
use Rattle.section_bytes.specs.declared.endianity.RunTimeEndian.{RunTimeEndian}
use Rattle.section_bytes.proofs.Order.{lt_or_le}
use Rattle.section_bytes.proofs.Took.{pick_ind}
use Rattle.tables.specs.Next.{Next}
use Rattle.entries.specs.Forms.{Raw, stop, entry}
use Rattle.entries.specs.Numbers.{Coding, dwarf, tabled}
use Rattle.lists.specs.Open.{walk_at, one_more, moved_to, read_to, rebased, opened}
use Rattle.lists.specs.Convert.{Turn, range, rebase, skip, convert}
use Rattle.lists.specs.Walk.{Listing, listed, ranges, ranges_by, locations, item, Trace, over, handed, on_turn, on_read, trace_from, trace, first, next, on_raw, next_raw, outcome, convert_raw}
use Rattle.lists.specs.Counted.{on_entry, entries_from, entries_before, left_by, left_after, Reached, by_opening, by_next, by_next_raw, by_convert_raw, Counted}
use Rattle.lists.specs.Uncounted.{uncounted, trace_uncounted, call_uncounted, outcome_uncounted, on_read_before, trace_from_before, trace_before, next_before, on_raw_before, next_raw_before, UncountedAsBefore}
use Rattle.lists.specs.declared.Walk.{Walk}
use Rattle.lists.proofs.OpenLaws.{opened_size, opened_as}
use Rattle.lists.proofs.WalkLaws.{Moved, pick_else, trace_ind}
use Rattle.lists.proofs.Past.{listed_past}

-- one more, below the highest count and there; and as the code has it
pub one_more_stays : (n : ℕ) → 2 ^ 64 - 1 ≤ n → one_more n ≡ n
unfolding one_more
one_more_stays n h = simp (le-leb _ _ h)

pub one_more_rises : (n : ℕ) → n < 2 ^ 64 - 1 → one_more n ≡ suc n
unfolding one_more
one_more_rises n h = simp (lt-leb _ _ h)

pub one_more_is : (n : ℕ) → n ≤ 2 ^ 64 - 1 → one_more n ≡ min (n + 1) (2 ^ 64 - 1)
one_more_is n h = ⊎_elim (λ p. one_more_rises n p ∙ omega arith) (λ p. one_more_stays n p ∙ omega arith) (lt_or_le n (2 ^ 64 - 1))

module _ (l : Listing) (len : ℕ) (past : (at : ℕ) → at < len → Moved at len (l.read at)) where
  entry_cong : (at : ℕ) (r : Read (Raw l.Entry)) (f g : ℕ → ℕ) → Moved at len r → ((c : ℕ) → at < c → f c ≡ g c) → on_entry r f ≡ on_entry r g
  entry_cong at (gives (got (entry e) c)) f g p h = ap suc (h c p.0)
  entry_cong at (gives (got stop c)) f g p h = refl
  entry_cong at (refused n vs) f g p h = refl

  -- more fuel changes nothing, once there is as much as there are bytes between
  enough_entries : (n m at to : ℕ) → to ≤ len → to ≤ at + n → to ≤ at + m → entries_from l n at to ≡ entries_from l m at to
  unfolding entries_from
  enough_entries zero zero at to t h k = refl
  enough_entries zero (suc m) at to t h k = let q : to ≤ at = omega arith in simp (le-leb _ _ q)
  enough_entries (suc n) zero at to t h k = let q : to ≤ at = omega arith in simp (le-leb _ _ q)
  enough_entries (suc n) (suc m) at to t h k =
      pick_else (leb to at) 0 (λ f.
      entry_cong at (l.read at) _ _ (past at (omega (arith, leb-false to at f))) (λ c d. enough_entries n m c to t (omega arith) (omega arith)))

  none_before : (at to : ℕ) → to ≤ len → to ≤ at → entries_before l at to ≡ 0
  unfolding entries_from
  none_before at to t h = enough_entries to zero at to t (omega arith) (omega arith)

  entry_before : (at to : ℕ) → to ≤ len → at < to → entries_before l at to ≡ on_entry (l.read at) (λ c. entries_before l c to)
  unfolding entries_from
  entry_before at to t h = enough_entries to (suc to) at to t (omega arith) (omega arith) ∙ simp (lt-leb _ _ h)

  -- each entry takes a byte
  entry_room : (at to : ℕ) (r : Read (Raw l.Entry)) (f : ℕ → ℕ) → at < to → Moved at len r → ((c : ℕ) → to ≤ c → f c ≡ 0) → ((c : ℕ) → c ≤ to → c + f c ≤ to) → at + on_entry r f ≤ to
  entry_room at to (gives (got (entry e) c)) f h p y z =
      ⊎_elim
      (λ k. let q = z c (omega arith) in omega (arith, p.0))
      (λ k. let q = y c k in omega arith)
      (lt_or_le c to)
  entry_room at to (gives (got stop c)) f h p y z = omega arith
  entry_room at to (refused n vs) f h p y z = omega arith

  past_none : (to n c : ℕ) → to ≤ c → entries_from l n c to ≡ 0
  unfolding entries_from
  past_none to zero c d = refl
  past_none to (suc n) c d = simp (le-leb _ _ d)

  from_room : (n at to : ℕ) → to ≤ len → at ≤ to → at + entries_from l n at to ≤ to
  unfolding entries_from
  from_room zero at to t h = omega arith
  from_room (suc n) at to t h =
      pick_ind (λ k. at + k ≤ to) (leb to at) (λ _. omega arith)
      (λ e. let k = leb-false to at e in
      entry_room at to (l.read at) (λ c. entries_from l n c to) k (past at (omega arith))
      (past_none to n)
      (λ c d. from_room n c to t d))

  -- what is kept up by every call: the entries before any place from the walk's on are those counted and those from the walk to there
  record Meets (offset : ℕ) (w : Walk) : Type 0 where
    after : offset ≤ w.at
    inside : w.at ≤ len
    onward : len < 2 ^ 64 → (to : ℕ) → w.at ≤ to → to ≤ len → entries_before l offset to ≡ w.entries + entries_before l w.at to

  module _ (offset : ℕ) where
    meets_exact : (w : Walk) → Meets offset w → len < 2 ^ 64 → w.entries ≡ entries_before l offset w.at
    meets_exact w m b = omega (arith, m.onward b w.at (omega arith) m.inside, none_before w.at w.at m.inside (omega arith))

    meets_room : (w : Walk) → Meets offset w → offset + entries_before l offset w.at ≤ w.at
    meets_room w m = from_room w.at offset w.at m.inside m.after

    meets_rises : (w : Walk) → Meets offset w → w.at < len → len < 2 ^ 64 → one_more w.entries ≡ suc w.entries
    meets_rises w m h b = one_more_rises w.entries (omega (arith, meets_exact w m b, meets_room w m))

    meets_rebased : (w : Walk) (base : ℕ) → Meets offset w → Meets offset (rebased base w)
    meets_rebased w base m = record { after = m.after; inside = m.inside; onward = m.onward }

    module _ (w : Walk) (m : Meets offset w) (h : w.at < len) where
      meets_entry : {e : l.Entry} {c : ℕ} → l.read w.at ≡ gives (got (entry e) c) → Moved w.at len (gives (got (entry e) c)) → Meets offset (read_to c w)
      meets_entry {e} {c} q p =
          record {
            after = omega (arith, m.after, p.0);
            inside = p.1;
            onward = λ b to k t.
                let x = m.onward b to (omega (arith, p.0)) t in
                let y : entries_before l w.at to ≡ suc (entries_before l c to) = entry_before w.at to t (omega (arith, p.0)) ∙ ap (λ (r : Read (Raw l.Entry)). on_entry r (λ c. entries_before l c to)) q in
                let z = meets_rises w m h b in
                omega arith;
          }

      -- of an emptied walk: nothing is read from the section's end on
      emptied : (n k : ℕ) → (len < 2 ^ 64 → entries_before l w.at len ≡ k) → (len < 2 ^ 64 → n ≡ w.entries + k) → Meets offset (walk_at len w.base_address n)
      emptied n k f g =
          record {
            after = omega (arith, m.after);
            inside = omega arith;
            onward = λ b to i j.
                let o : to ≡ len = omega arith in
                let x = m.onward b len (omega arith) (omega arith) in
                let y = none_before len len (omega arith) (omega arith) in
                let u = f b in
                let v = g b in
                rw o (omega arith);
          }

      meets_end : {c : ℕ} → l.read w.at ≡ gives (got stop c) → Meets offset (read_to len w)
      meets_end q =
          emptied (one_more w.entries) 1
          (λ b. entry_before w.at len (omega arith) h ∙ ap (λ (r : Read (Raw l.Entry)). on_entry r (λ c. entries_before l c len)) q)
          (λ b. let z = meets_rises w m h b in omega arith)

      meets_refused : {n : ℕ} {vs : List ℕ} → l.read w.at ≡ refused n vs → Meets offset (moved_to len w)
      meets_refused q =
          emptied w.entries 0
          (λ b. entry_before w.at len (omega arith) h ∙ ap (λ (r : Read (Raw l.Entry)). on_entry r (λ c. entries_before l c len)) q)
          (λ b. omega arith)

    -- of each walk in what a list does
    abbrev AllMeet : {D : Type 0} → Trace D → Type 0
    AllMeet (over w) = Meets offset w
    AllMeet (handed r w t) = Meets offset w × AllMeet t

    first_meets : {D : Type 0} (t : Trace D) → AllMeet t → Meets offset (left_by (first t))
    first_meets (over w) m = m
    first_meets (handed r w t) m = m.0

    module _ (table : DebugAddrIndex → Result ℕ) (size : ℕ) where
      turn_meets : (t : Result Turn) (d : l.Carried) (w : Walk) (go : Walk → Trace l.Carried) → Meets offset w → ((v : Walk) → v.at ≡ w.at → Meets offset v → AllMeet (go v)) → AllMeet (on_turn t d w go)
      turn_meets (gives (range b e)) d w go m k = (m, k w refl m)
      turn_meets (gives (rebase b)) d w go m k = k (rebased b w) refl (meets_rebased w b m)
      turn_meets (gives skip) d w go m k = k w refl m
      turn_meets (refused n vs) d w go m k = (m, k w refl m)

      read_meets : (w : Walk) (r : Read (Raw l.Entry)) (go : Walk → Trace l.Carried) → w.at < len → l.read w.at ≡ r → Moved w.at len r → Meets offset w → ((v : Walk) → w.at < v.at → Meets offset v → AllMeet (go v))
          → AllMeet (on_read l table size len w r go)
      read_meets w (gives (got (entry e) c)) go h q p m k =
          turn_meets (convert table size w.base_address (l.bounds_of e)) (l.carried e) (read_to c w) go (meets_entry w m h q p) (λ v f. k v (omega (arith, p.0)))
      read_meets w (gives (got stop c)) go h q p m k = meets_end w m h q
      read_meets w (refused n vs) go h q p m k = let z = meets_refused w m h q in (z, z)

      trace_meets : (w : Walk) → Meets offset w → AllMeet (trace l table size len w)
      trace_meets =
          trace_ind l table size len past (λ w t. Meets offset w → AllMeet t) (λ w h m. m)
          (λ w h k m. read_meets w (l.read w.at) (λ v. trace l table size len v) h refl (past w.at h) m (λ v d. k v d))

      next_meets : (w : Walk) → is_size size ≡ true → Meets offset w → Meets offset (left_by (next l table size len w))
      unfolding next
      next_meets w s m = rw s (first_meets (trace l table size len w) (trace_meets w m))

      outcome_meets : (w : Walk) (d : l.Carried) (t : Result Turn) → Meets offset w → Meets offset (left_after (outcome w d t))
      outcome_meets w d (gives (range b e)) m = m
      outcome_meets w d (gives (rebase b)) m = meets_rebased w b m
      outcome_meets w d (gives skip) m = m
      outcome_meets w d (refused n vs) m = m

      convert_meets : (w : Walk) (e : l.Entry) → is_size size ≡ true → Meets offset w → Meets offset (left_after (convert_raw l table size w e))
      unfolding convert_raw
      convert_meets w e s m = rw s (outcome_meets w (l.carried e) (convert table size w.base_address (l.bounds_of e)) m)

    raw_meets_of : (w : Walk) (r : Read (Raw l.Entry)) → w.at < len → l.read w.at ≡ r → Moved w.at len r → Meets offset w → Meets offset (left_by (on_raw len w r))
    raw_meets_of w (gives (got (entry e) c)) h q p m = meets_entry w m h q p
    raw_meets_of w (gives (got stop c)) h q p m = meets_end w m h q
    raw_meets_of w (refused n vs) h q p m = meets_refused w m h q

    raw_meets : (size : ℕ) (w : Walk) → is_size size ≡ true → Meets offset w → Meets offset (left_by (next_raw l size len w))
    unfolding next_raw
    raw_meets size w s m =
        rw s
        (pick_ind (λ (x : Next l.Entry Walk). Meets offset (left_by x)) (leb len w.at) (λ _. m)
        (λ e. let h = leb-false len w.at e in raw_meets_of w (l.read w.at) h refl (past w.at h) m))

-- of the walks of a list
module _ (encoding : Encoding) (s : List ℕ) (l : Listing) (offset : ℕ) (past : (at : ℕ) → at < length s → Moved at (length s) (l.read at)) where
  opened_meets : (base : ℕ) {w : Walk} → opened encoding s offset base ≡ gives w → Meets l (length s) past offset w
  opened_meets base q =
      let k = opened_as encoding s offset base q in
      subst (Meets l (length s) past offset) k.0 (record { after = omega arith; inside = k.1; onward = λ b to h j. omega arith })

  reached_size : {w : Walk} → Reached encoding s l offset w → is_size encoding.address_size ≡ true
  reached_size (by_opening base q) = opened_size encoding s offset base q
  reached_size (by_next table w r) = reached_size r
  reached_size (by_next_raw w r) = reached_size r
  reached_size (by_convert_raw table e w r) = reached_size r

  reached_meets : {w : Walk} → Reached encoding s l offset w → Meets l (length s) past offset w
  reached_meets (by_opening base q) = opened_meets base q
  reached_meets (by_next table w r) = next_meets l (length s) past offset table encoding.address_size w (reached_size r) (reached_meets r)
  reached_meets (by_next_raw w r) = raw_meets l (length s) past offset encoding.address_size w (reached_size r) (reached_meets r)
  reached_meets (by_convert_raw table e w r) = convert_meets l (length s) past offset table encoding.address_size w e (reached_size r) (reached_meets r)

  counted_of : Counted encoding s l offset
  counted_of =
      record {
        exact = λ b r. meets_exact l (length s) past offset _ (reached_meets r) b;
        fits = λ r. let m = reached_meets r in (meets_room l (length s) past offset _ m, m.inside);
      }

-- with the counts taken out, all is as before
pub pick_both : {A B : Type 0} (f : A → B) (t : Bool) {x u : A} {y v : B} → f x ≡ y → f u ≡ v → f (pick t x u) ≡ pick t y v
pick_both f true p q = p
pick_both f false p q = q

first_uncounted : {D : Type 0} (t : Trace D) → call_uncounted (first t) ≡ first (trace_uncounted t)
first_uncounted (over w) = refl
first_uncounted (handed r w t) = refl

module _ (l : Listing) (table : DebugAddrIndex → Result ℕ) (size len : ℕ) where
  turn_uncounted : (t : Result Turn) (d : l.Carried) (w : Walk) (f g : Walk → Trace l.Carried) → ((v : Walk) → trace_uncounted (f v) ≡ g (uncounted v))
      → trace_uncounted (on_turn t d w f) ≡ on_turn t d (uncounted w) g
  turn_uncounted (gives (range b e)) d w f g h = ap (handed (gives (item b e d)) (uncounted w)) (h w)
  turn_uncounted (gives (rebase b)) d w f g h = h (rebased b w)
  turn_uncounted (gives skip) d w f g h = h w
  turn_uncounted (refused n vs) d w f g h = ap (handed (refused n vs) (uncounted w)) (h w)

  read_uncounted : (w : Walk) (r : Read (Raw l.Entry)) (f g : Walk → Trace l.Carried) → ((v : Walk) → trace_uncounted (f v) ≡ g (uncounted v))
      → trace_uncounted (on_read l table size len w r f) ≡ on_read_before l table size len (uncounted w) r g
  read_uncounted w (gives (got (entry e) c)) f g h = turn_uncounted (convert table size w.base_address (l.bounds_of e)) (l.carried e) (read_to c w) f g h
  read_uncounted w (gives (got stop c)) f g h = refl
  read_uncounted w (refused n vs) f g h = refl

  from_uncounted : (n : ℕ) (w : Walk) → trace_uncounted (trace_from l table size len n w) ≡ trace_from_before l table size len n (uncounted w)
  unfolding trace_from trace_from_before
  from_uncounted zero w = refl
  from_uncounted (suc n) w =
      pick_both trace_uncounted (leb len w.at) refl
      (read_uncounted w (l.read w.at) (trace_from l table size len n) (trace_from_before l table size len n) (from_uncounted n))

  pub trace_uncounted_lem : (w : Walk) → trace_uncounted (trace l table size len w) ≡ trace_before l table size len (uncounted w)
  unfolding trace
  trace_uncounted_lem w = from_uncounted len w

  next_uncounted : (w : Walk) → call_uncounted (next l table size len w) ≡ next_before l table size len (uncounted w)
  unfolding next
  next_uncounted w = pick_both call_uncounted (is_size size) (first_uncounted (trace l table size len w) ∙ ap first (trace_uncounted_lem w)) refl

module _ (l : Listing) (table : DebugAddrIndex → Result ℕ) (size : ℕ) where
  outcome_uncounted_lem : (w : Walk) (d : l.Carried) (t : Result Turn) → outcome_uncounted (outcome w d t) ≡ outcome (uncounted w) d t
  outcome_uncounted_lem w d (gives (range b e)) = refl
  outcome_uncounted_lem w d (gives (rebase b)) = refl
  outcome_uncounted_lem w d (gives skip) = refl
  outcome_uncounted_lem w d (refused n vs) = refl

  convert_uncounted : (w : Walk) (e : l.Entry) → outcome_uncounted (convert_raw l table size w e) ≡ convert_raw l table size (uncounted w) e
  unfolding convert_raw
  convert_uncounted w e = pick_both outcome_uncounted (is_size size) (outcome_uncounted_lem w (l.carried e) (convert table size w.base_address (l.bounds_of e))) refl

module _ (l : Listing) (size len : ℕ) where
  on_raw_uncounted : (w : Walk) (r : Read (Raw l.Entry)) → call_uncounted (on_raw len w r) ≡ on_raw_before len (uncounted w) r
  on_raw_uncounted w (gives (got (entry e) c)) = refl
  on_raw_uncounted w (gives (got stop c)) = refl
  on_raw_uncounted w (refused n vs) = refl

  raw_uncounted : (w : Walk) → call_uncounted (next_raw l size len w) ≡ next_raw_before l size len (uncounted w)
  unfolding next_raw
  raw_uncounted w = pick_both call_uncounted (is_size size) (pick_both call_uncounted (leb len w.at) refl (on_raw_uncounted w (l.read w.at))) refl

pub uncounted_as_before : UncountedAsBefore
uncounted_as_before = record { walk = trace_uncounted_lem; call = next_uncounted; raw = raw_uncounted; conversion = convert_uncounted }

-- for the two lists
module _ (encoding : Encoding) (endian : RunTimeEndian) (s : List ℕ) (offset : ℕ) where
  pub listed_counted : (l : Bool) (coding : Coding) → Counted encoding s (listed l coding encoding endian s) offset
  listed_counted l coding = counted_of encoding s (listed l coding encoding endian s) offset (listed_past l coding encoding endian s)

  pub ranges_counted : Counted encoding s (ranges encoding endian s) offset
  ranges_counted = listed_counted false (dwarf false)

  pub ranges_by_counted : (kinds : List ℕ) → Counted encoding s (ranges_by kinds encoding endian s) offset
  ranges_by_counted kinds = listed_counted false (tabled kinds)

  pub locations_counted : (split : Bool) → Counted encoding s (locations split encoding endian s) offset
  locations_counted split = listed_counted true (dwarf split)
