-- The count of a walk that profile calls, too, carry on: ordinary calls reach it, or a profile call emptied it and counted the entry that
-- it refused. Assumes nothing.
use mathlib.Core.Path.{◌≡◌, refl, sym, ap, ◌∙◌, subst}
use mathlib.Core.Bool.{Bool, true, false}
use mathlib.Core.List.{List}
use mathlib.Core.Logic.{◌⊎◌, inl, inr, ⊎_elim}
use Prim.Native.Nat.{ℕ, zero, suc, ◌^◌, ◌≤◌, ◌<◌}
use native.Mathlib.Omega.{arith}
use lib.Dec.{leb}
use lib.ListN.{length}
use borrow.Author.Tests.{le-leb, lt-leb, leb-false}
use Rattle.std.specs.Prelude.{Err}
use Rattle.std.specs.declared.result.Result.{Result as Answer}
use Rattle.section_bytes.specs.Read.{Result, gives, refused, got, Read, pick}
use Rattle.section_bytes.specs.Reader.{is_size}
use Rattle.section_bytes.specs.declared.common.DebugAddrIndex.{DebugAddrIndex}
use Rattle.section_bytes.specs.declared.common.Encoding.{Encoding}
use Rattle.section_bytes.specs.declared.endianity.RunTimeEndian.{RunTimeEndian}
use Rattle.section_bytes.specs.declared.error.Error.{Error}
use Rattle.section_bytes.proofs.Took.{pick_ind}
use Rattle.entries.specs.Forms.{Raw, stop, entry}
use Rattle.entries.specs.Numbers.{Coding}
use Rattle.entries.specs.Padded.{padded_in}
use Rattle.lists.specs.Convert.{Turn, range, rebase, skip, convert}
use Rattle.lists.specs.Counted as ordinary
use Rattle.lists.specs.Counted.{left_by, left_after, Reached, Counted}
use Rattle.lists.specs.Open.{read_to, rebased}
use Rattle.lists.specs.Walk.{Listing, listed, first, next, next_raw, Outcome, outcome, convert_raw}
use Rattle.lists.specs.declared.Walk.{Walk}
use Rattle.lists.proofs.CountLaws.{listed_counted}
use Rattle.lists.proofs.OpenLaws.{opened_size}
use Rattle.lists.proofs.Past.{listed_past}
use Rattle.lists.proofs.WalkLaws as walk
use Rattle.lists.proofs.WalkLaws.{Moved, trace_over}
use Rattle.profile.specs.Carried.{CarriedOn, by_opening, by_next, by_next_raw, by_convert_raw, by_profile, CountsWith, EmptiedAt, CountedInProfile}
use Rattle.profile.specs.Profile.{kept, of_read, profile_next}
use Rattle.profile.specs.Profiled.{behind_turn, behind_read, behind_one, behind, held_at}
use Rattle.profile.proofs.ProfileLaws.{profile_over, next_first}
use Rattle.profile.proofs.UpToLaws.{every_profile}

-- what is one of the three is an entry that was read
broken_read : (l : Listing) (padded : ℕ → Bool) (table : DebugAddrIndex → Result ℕ) (size : ℕ) (w : Walk) (r : Read (Raw l.Entry)) (x : Error)
    → of_read l padded table size w r ≡ Err x → (e : l.Entry) × ((c : ℕ) × (r ≡ gives (got (entry e) c)))
broken_read l padded table size w (gives (got (entry e) c)) x h = (e, (c, refl))
broken_read l padded table size w (gives (got stop c)) x h = let z : ◌≡◌ {A = ℕ} 0 1 = cc in absurd (omega arith)
broken_read l padded table size w (refused n vs) x h = let z : ◌≡◌ {A = ℕ} 0 1 = cc in absurd (omega arith)

broken_before : (len at : ℕ) (h : Answer Unit Error) (x : Error) → pick (leb len at) kept h ≡ Err x → (at < len) × (h ≡ Err x)
broken_before len at h x = by (leb len at) refl
  where
    by : (b : Bool) → leb len at ≡ b → pick b kept h ≡ Err x → (at < len) × (h ≡ Err x)
    by true e q = let z : ◌≡◌ {A = ℕ} 0 1 = cc in absurd (omega arith)
    by false e q = (leb-false len at e, q)

-- the walk that a raw call leaves at an entry
raw_left : (l : Listing) (size len : ℕ) (w : Walk) {e : l.Entry} {c : ℕ} → is_size size ≡ true → w.at < len → l.read w.at ≡ gives (got (entry e) c)
    → left_by (next_raw l size len w) ≡ read_to c w
unfolding next_raw
raw_left l size len w i h q = simp (i, lt-leb _ _ h, q)

-- a converted entry leaves the walk, or another base address in it
convert_keeps : (l : Listing) (table : DebugAddrIndex → Result ℕ) (size : ℕ) (P : Walk → Type 0) → ((b : ℕ) (v : Walk) → P v → P (rebased b v)) → (e : l.Entry) (w : Walk) → P w
    → P (left_after (convert_raw l table size w e))
unfolding convert_raw
convert_keeps l table size P keeps e w p =
    pick_ind (λ (o : Outcome l.Carried). P (left_after o)) (is_size size) (λ _. of (convert table size w.base_address (l.bounds_of e))) (λ _. p)
  where
    of : (t : Result Turn) → P (left_after (outcome w (l.carried e) t))
    of (gives (range b f)) = p
    of (gives (rebase b)) = keeps b w p
    of (gives skip) = p
    of (refused n vs) = p

module _ (encoding : Encoding) (s : List ℕ) (l : Listing) (padded : ℕ → Bool) (offset : ℕ) where
  abbrev size : ℕ
  size = encoding.address_size

  reached_size : {w : Walk} → Reached encoding s l offset w → is_size size ≡ true
  reached_size (ordinary.by_opening base q) = opened_size encoding s offset base q
  reached_size (ordinary.by_next table w r) = reached_size r
  reached_size (ordinary.by_next_raw w r) = reached_size r
  reached_size (ordinary.by_convert_raw table e w r) = reached_size r

  -- ordinary calls go from entry to entry, too: a raw call, and a conversion
  module _ (table : DebugAddrIndex → Result ℕ) where
    converts : (w : Walk) (e : l.Entry) → is_size size ≡ true → left_after (convert_raw l table size w e) ≡ behind_turn (convert table size w.base_address (l.bounds_of e)) w
    unfolding convert_raw
    converts w e i = rw i (of (convert table size w.base_address (l.bounds_of e)))
      where
        of : (t : Result Turn) → left_after (outcome w (l.carried e) t) ≡ behind_turn t w
        of (gives (range b f)) = refl
        of (gives (rebase b)) = refl
        of (gives skip) = refl
        of (refused n vs) = refl

    read_reached : (w : Walk) (r : Read (Raw l.Entry)) → w.at < length s → l.read w.at ≡ r → Reached encoding s l offset w → Reached encoding s l offset (behind_read l table size w r)
    read_reached w (gives (got (entry e) c)) h q p =
        let i = reached_size p in
        subst (Reached encoding s l offset) (converts (read_to c w) e i)
        (ordinary.by_convert_raw table e (read_to c w) (subst (Reached encoding s l offset) (raw_left l size (length s) w i h q) (ordinary.by_next_raw w p)))
    read_reached w (gives (got stop c)) h q p = p
    read_reached w (refused n vs) h q p = p

    one_reached : (w : Walk) → Reached encoding s l offset w → Reached encoding s l offset (behind_one l table size (length s) w)
    one_reached w p =
        pick_ind (Reached encoding s l offset) (leb (length s) w.at) (λ _. p)
        (λ e. read_reached w (l.read w.at) (leb-false (length s) w.at e) refl p)

    behind_reached : (n : ℕ) (w : Walk) → Reached encoding s l offset w → Reached encoding s l offset (behind l table size (length s) n w)
    unfolding behind
    behind_reached zero w p = p
    behind_reached (suc n) w p = behind_reached n (behind_one l table size (length s) w) (one_reached w p)

  -- the entry that is refused is counted as by a raw call
  module _ (counted : Counted encoding s l offset) (b : length s < 2 ^ 64) where
    counts_with : (w : Walk) (table : DebugAddrIndex → Result ℕ) (x : Error) → Reached encoding s l offset w → held_at l padded table size (length s) w ≡ Err x
        → CountsWith l offset w.at (read_to (length s) w).entries
    counts_with w table x p q =
        let k = broken_before (length s) w.at (of_read l padded table size w (l.read w.at)) x q in
        let r = broken_read l padded table size w (l.read w.at) x k.1 in
        let v = raw_left l size (length s) w (reached_size p) k.0 r.1.1 in
        record {
          there = r.0;
          end = r.1.0;
          read = r.1.1;
          as_many = counted.exact b (subst (Reached encoding s l offset) v (ordinary.by_next_raw w p));
        }

    emptied_at : (w : Walk) (table : DebugAddrIndex → Result ℕ) (x : Error) → Reached encoding s l offset w → held_at l padded table size (length s) w ≡ Err x
        → EmptiedAt encoding s l padded offset (read_to (length s) w)
    emptied_at w table x p q = record { place = refl; met = w; reached = p; table = table; refused = x; stands = q; counted = counts_with w table x p q }

  emptied_rebased : (base : ℕ) (w : Walk) → EmptiedAt encoding s l padded offset w → EmptiedAt encoding s l padded offset (rebased base w)
  emptied_rebased base w m = record { place = m.place; met = m.met; reached = m.reached; table = m.table; refused = m.refused; stands = m.stands; counted = m.counted }

  -- a walk of them is one of the ordinary calls, or was emptied; then each call leaves its place and its count
  module _ (past : (at : ℕ) → at < length s → Moved at (length s) (l.read at)) (counted : Counted encoding s l offset) (b : length s < 2 ^ 64) where
    abbrev Either : Walk → Type 0
    Either w = Reached encoding s l offset w ⊎ EmptiedAt encoding s l padded offset w

    stays : {w v : Walk} → w ≡ v → EmptiedAt encoding s l padded offset v → Either w
    stays e m = inr (subst (EmptiedAt encoding s l padded offset) (sym e) m)

    module _ (w : Walk) (m : EmptiedAt encoding s l padded offset w) where
      over_next : (table : DebugAddrIndex → Result ℕ) → left_by (next l table size (length s) w) ≡ w
      over_next table =
          ap left_by (walk.next_first l table size (length s) w (reached_size m.reached) ∙ ap first (trace_over l table size (length s) past w (omega (arith, m.place))))

      over_raw : left_by (next_raw l size (length s) w) ≡ w
      unfolding next_raw
      over_raw = let h : length s ≤ w.at = omega (arith, m.place) in simp (reached_size m.reached, le-leb _ _ h)

      over_profile : (table : DebugAddrIndex → Result ℕ) → left_by (profile_next l padded table size (length s) w) ≡ w
      over_profile table =
          ap left_by (next_first l padded table size (length s) w (reached_size m.reached) ∙ ap first (profile_over l padded table size (length s) past w (omega (arith, m.place))))

    profile_either : (table : DebugAddrIndex → Result ℕ) (w : Walk) → Reached encoding s l offset w → Either (left_by (profile_next l padded table size (length s) w))
    profile_either table w p =
        ⊎_elim
        (λ e. inl (subst (Reached encoding s l offset) (ap left_by (sym e)) (ordinary.by_next table w p)))
        (λ f. let n = f.0 in stays (ap left_by f.1.1.1) (emptied_at counted b (behind l table size (length s) n w) table f.1.0 (behind_reached table n w p) f.1.1.0.stands))
        ((every_profile l padded table size (length s) past).call (reached_size p) w)

    either : {w : Walk} → CarriedOn encoding s l padded offset w → Either w
    either (by_opening base q) = inl (ordinary.by_opening base q)
    either (by_next table w r) = ⊎_elim (λ p. inl (ordinary.by_next table w p)) (λ m. stays (over_next w m table) m) (either r)
    either (by_next_raw w r) = ⊎_elim (λ p. inl (ordinary.by_next_raw w p)) (λ m. stays (over_raw w m) m) (either r)
    either (by_convert_raw table e w r) =
        ⊎_elim (λ p. inl (ordinary.by_convert_raw table e w p))
        (λ m. inr (convert_keeps l table size (EmptiedAt encoding s l padded offset) emptied_rebased e w m))
        (either r)
    either (by_profile table w r) = ⊎_elim (profile_either table w) (λ m. stays (over_profile w m table) m) (either r)

  pub counted_in_profile : ((at : ℕ) → at < length s → Moved at (length s) (l.read at)) → Counted encoding s l offset → CountedInProfile encoding s l padded offset
  counted_in_profile past counted =
      record {
        exact = λ b r. ⊎_elim (λ p. inl (p, counted.exact b p)) (λ m. inr m) (either past counted b r);
        names = λ b {v} p table n x q. counts_with counted b (behind l table size (length s) n v) table x (behind_reached table n v p) q;
      }

-- for the two lists
pub listed_counted_in_profile : (l : Bool) (coding : Coding) (encoding : Encoding) (endian : RunTimeEndian) (s : List ℕ) (offset : ℕ)
    → CountedInProfile encoding s (listed l coding encoding endian s) (padded_in l coding encoding endian s) offset
listed_counted_in_profile l coding encoding endian s offset =
    counted_in_profile encoding s (listed l coding encoding endian s) (padded_in l coding encoding endian s) offset (listed_past l coding encoding endian s)
    (listed_counted encoding endian s offset l coding)
