-- What holds of every profile walk, over the definitions: it is the ordinary walk up to the first of the three. Assumes nothing.
use mathlib.Core.Path.{◌≡◌, refl, sym, ap, ◌∙◌}
use mathlib.Core.Bool.{Bool, true, false}
use mathlib.Core.List.{List}
use mathlib.Core.Logic.{◌⊎◌, inl, inr, ⊎_elim}
use Prim.Native.Nat.{ℕ, zero, suc, ◌+◌, ◌≤◌, ◌<◌}
use native.Mathlib.Omega.{arith}
use lib.Dec.{leb}
use lib.ListN.{length}
use borrow.Author.Tests.{le-leb, lt-leb, leb-false}
use Rattle.std.specs.Prelude.{Ok, Err}
use Rattle.std.specs.declared.result.Result.{Result as Answer}
use Rattle.section_bytes.specs.Error.{refusal}
use Rattle.section_bytes.specs.Read.{Result, gives, refused, got, Read, pick}
use Rattle.section_bytes.specs.Reader.{is_size}
use Rattle.section_bytes.specs.declared.common.DebugAddrIndex.{DebugAddrIndex}
use Rattle.section_bytes.specs.declared.common.Encoding.{Encoding}
use Rattle.section_bytes.specs.declared.endianity.RunTimeEndian.{RunTimeEndian}
use Rattle.section_bytes.specs.declared.error.Error.{Error}
use Rattle.section_bytes.proofs.Order.{lt_or_le}
use Rattle.tables.specs.Next.{hands}
use Rattle.entries.specs.Forms.{Raw, stop, entry}
use Rattle.entries.specs.Numbers.{Coding}
use Rattle.entries.specs.Padded.{padded_in}
use Rattle.lists.specs.Open.{moved_to, read_to, rebased}
use Rattle.lists.specs.Convert.{Turn, range, rebase, skip, convert}
use Rattle.lists.specs.Walk.{Listing, listed, Trace, over, handed, on_turn, on_read, trace, first, next}
use Rattle.lists.specs.declared.Walk.{Walk}
use Rattle.lists.proofs.WalkLaws as ordinary
use Rattle.lists.proofs.WalkLaws.{Moved, trace_over, trace_step}
use Rattle.lists.proofs.Past.{listed_past}
use Rattle.profile.specs.Profile.{kept, of_read, unless, profile, profile_next}
use Rattle.profile.specs.Profiled.{behind_turn, behind_read, behind_one, behind, turn_then, read_then, one_then, given_then, held_at, held_behind, KeptBefore, FirstBroken, emptied_behind, HandsInProfile, EveryProfile}
use Rattle.profile.proofs.ProfileLaws.{profile_over, profile_step, profile_ind, next_first}

-- an entry keeps to the profile, or is one of the three
held_or : (x : Answer Unit Error) → (x ≡ kept) ⊎ ((y : Error) × (x ≡ Err y))
held_or (Ok x) = inl refl
held_or (Err y) = inr (y, refl)

turn_then_lem : {D : Type 0} (t : Result Turn) (d : D) (w : Walk) (go : Walk → Trace D) → on_turn t d w go ≡ turn_then t d w (go (behind_turn t w))
turn_then_lem (gives (range b e)) d w go = refl
turn_then_lem (gives (rebase b)) d w go = refl
turn_then_lem (gives skip) d w go = refl
turn_then_lem (refused n vs) d w go = refl

turn_at : (t : Result Turn) (w : Walk) → (behind_turn t w).at ≡ w.at
turn_at (gives (range b e)) w = refl
turn_at (gives (rebase b)) w = refl
turn_at (gives skip) w = refl
turn_at (refused n vs) w = refl

-- what an entry hands out comes first, whatever follows; or it hands out nothing
abbrev Gives : {D : Type 0} → (Trace D → Trace D) → Type 0
Gives {D} f = ((t u : Trace D) → first (f t) ≡ first (f u)) ⊎ ((t : Trace D) → f t ≡ t)

turn_gives : {D : Type 0} (t : Result Turn) (d : D) (w : Walk) → Gives (turn_then t d w)
turn_gives (gives (range b e)) d w = inl (λ _ _. refl)
turn_gives (gives (rebase b)) d w = inr (λ _. refl)
turn_gives (gives skip) d w = inr (λ _. refl)
turn_gives (refused n vs) d w = inl (λ _ _. refl)

-- the ordinary walk an entry at a time
module _ (l : Listing) (table : DebugAddrIndex → Result ℕ) (size len : ℕ) where
  read_then_lem : (w : Walk) (r : Read (Raw l.Entry)) (go : Walk → Trace l.Carried) → go w ≡ on_read l table size len w r go → go w ≡ read_then l table size w r (go (behind_read l table size w r))
  read_then_lem w (gives (got (entry e) c)) go h = h ∙ turn_then_lem (convert table size w.base_address (l.bounds_of e)) (l.carried e) (read_to c w) go
  read_then_lem w (gives (got stop c)) go h = refl
  read_then_lem w (refused n vs) go h = refl

  one_then_lem : (w : Walk) (go : Walk → Trace l.Carried) → (w.at < len → go w ≡ on_read l table size len w (l.read w.at) go) → go w ≡ one_then l table size len w (go (behind_one l table size len w))
  one_then_lem w go h = by (leb len w.at) (behind_read l table size w (l.read w.at)) (λ q. read_then_lem w (l.read w.at) go (h (leb-false len w.at q)))
    where
      by : (b : Bool) (v : Walk) → (b ≡ false → go w ≡ read_then l table size w (l.read w.at) (go v))
          → go w ≡ pick b (go (pick b w v)) (read_then l table size w (l.read w.at) (go (pick b w v)))
      by true v k = refl
      by false v k = k refl

  -- what goes so from each entry where K holds goes so from the first n, where it holds of these
  given_then_lem : (K : Walk → Type 0) (go : Walk → Trace l.Carried) → ((w : Walk) → K w → go w ≡ one_then l table size len w (go (behind_one l table size len w)))
      → (n : ℕ) (w : Walk) → ((k : ℕ) → k < n → K (behind l table size len k w)) → go w ≡ given_then l table size len n w (go (behind l table size len n w))
  unfolding behind given_then
  given_then_lem K go one zero w h = refl
  given_then_lem K go one (suc n) w h =
      one w (h 0 (omega arith)) ∙ ap (one_then l table size len w) (given_then_lem K go one n (behind_one l table size len w) (λ k p. h (suc k) (omega arith)))

  one_gives : (w : Walk) → Gives (one_then l table size len w)
  one_gives w = of (leb len w.at) (l.read w.at)
    where
      of : (b : Bool) (r : Read (Raw l.Entry)) → Gives (λ (t : Trace l.Carried). pick b t (read_then l table size w r t))
      of true r = inr (λ _. refl)
      of false (gives (got (entry e) c)) = turn_gives (convert table size w.base_address (l.bounds_of e)) (l.carried e) (read_to c w)
      of false (gives (got stop c)) = inr (λ _. refl)
      of false (refused n vs) = inr (λ _. refl)

  given_gives : (n : ℕ) (w : Walk) → Gives (given_then l table size len n w)
  unfolding given_then
  given_gives zero w = inr (λ _. refl)
  given_gives (suc n) w =
      ⊎_elim (λ h. inl (λ t u. h (given_then l table size len n (behind_one l table size len w) t) (given_then l table size len n (behind_one l table size len w) u)))
      (λ h.
      ⊎_elim
      (λ k. inl (λ t u. ap first (h (given_then l table size len n (behind_one l table size len w) t)) ∙ k t u ∙ sym (ap first (h (given_then l table size len n (behind_one l table size len w) u)))))
      (λ k. inr (λ t. h (given_then l table size len n (behind_one l table size len w) t) ∙ k t))
      (given_gives n (behind_one l table size len w)))
      (one_gives w)

  -- an entry moves the walk; what is none is the same whatever would follow
  moves_or : (w : Walk) (r : Read (Raw l.Entry)) → Moved w.at len r
      → (w.at < (behind_read l table size w r).at) ⊎ ((f g : Walk → Trace l.Carried) → on_read l table size len w r f ≡ on_read l table size len w r g)
  moves_or w (gives (got (entry e) c)) p = inl (omega (arith, p.0, turn_at (convert table size w.base_address (l.bounds_of e)) (read_to c w)))
  moves_or w (gives (got stop c)) p = inr (λ _ _. refl)
  moves_or w (refused n vs) p = inr (λ _ _. refl)

  behind_as : (w : Walk) → w.at < len → behind_one l table size len w ≡ behind_read l table size w (l.read w.at)
  behind_as w h = simp (lt-leb _ _ h)

-- the first of the three
module _ (l : Listing) (padded : ℕ → Bool) (table : DebugAddrIndex → Result ℕ) (size len : ℕ) where
  first_here : (w : Walk) (x : Error) → held_at l padded table size len w ≡ Err x → FirstBroken l padded table size len 0 w x
  unfolding behind
  first_here w x q = record { before = λ k p. absurd (omega arith); stands = q }

  first_later : (n : ℕ) (w : Walk) (x : Error) → held_at l padded table size len w ≡ kept → FirstBroken l padded table size len n (behind_one l table size len w) x
      → FirstBroken l padded table size len (suc n) w x
  unfolding behind
  first_later n w x k h = record { before = kept; stands = h.stands }
    where
      kept : KeptBefore l padded table size len (suc n) w
      kept zero p = k
      kept (suc m) p = h.before m (omega arith)

  none_past : (n : ℕ) (w : Walk) (x : Error) → held_behind l padded table size len n w ≡ Err x
      → (m : ℕ) × (m ≤ n) × ((y : Error) × FirstBroken l padded table size len m w y)
  unfolding behind
  none_past zero w x q = (0, omega arith, (x, first_here w x q))
  none_past (suc n) w x q =
      ⊎_elim
      (λ k. let h = none_past n (behind_one l table size len w) x q in (suc h.0, omega (arith, h.1), (h.2.0, first_later h.0 w h.2.0 k h.2.1)))
      (λ k. (0, omega arith, (k.0, first_here w k.0 k.1)))
      (held_or (held_at l padded table size len w))

  held_as : (w : Walk) → w.at < len → held_at l padded table size len w ≡ of_read l padded table size w (l.read w.at)
  held_as w h = simp (lt-leb _ _ h)

  held_over : (w : Walk) → len ≤ w.at → held_at l padded table size len w ≡ kept
  held_over w h = simp (le-leb _ _ h)

module _ (l : Listing) (padded : ℕ → Bool) (table : DebugAddrIndex → Result ℕ) (size len : ℕ) (past : (at : ℕ) → at < len → Moved at len (l.read at)) where
  turn_hands : (t : Result Turn) (d : l.Carried) (w : Walk) → ((v : Walk) → v.at ≡ w.at → HandsInProfile l padded table size len (profile l padded table size len v))
      → HandsInProfile l padded table size len (on_turn t d w (λ v. profile l padded table size len v))
  turn_hands (gives (range b e)) d w h = refl
  turn_hands (gives (rebase b)) d w h = h (rebased b w) refl
  turn_hands (gives skip) d w h = h w refl
  turn_hands (refused n vs) d w h = refl

  read_hands : (w : Walk) (r : Read (Raw l.Entry)) (x : Answer Unit Error) → Moved w.at len r
      → ((v : Walk) → w.at < v.at → HandsInProfile l padded table size len (profile l padded table size len v))
      → HandsInProfile l padded table size len (unless x (read_to len w) (on_read l table size len w r (λ v. profile l padded table size len v)))
  read_hands w r (Err x) p h = profile_over l padded table size len past (read_to len w) (omega arith)
  read_hands w (gives (got (entry e) c)) kept p h =
      turn_hands (convert table size w.base_address (l.bounds_of e)) (l.carried e) (read_to c w) (λ v q. h v (omega (arith, p.0)))
  read_hands w (gives (got stop c)) kept p h = profile_over l padded table size len past (read_to len w) (omega arith)
  read_hands w (refused n vs) kept p h = profile_over l padded table size len past (moved_to len w) (omega arith)

  hands_out : (w : Walk) → HandsInProfile l padded table size len (profile l padded table size len w)
  hands_out w =
      profile_ind l padded table size len past (λ _ t. HandsInProfile l padded table size len t)
      (profile_over l padded table size len past)
      (λ v p h. read_hands v (l.read v.at) (of_read l padded table size v (l.read v.at)) (past v.at p) h) w

  -- by what stands where the walk does
  held_step : (w : Walk) (x : Answer Unit Error) → w.at < len → held_at l padded table size len w ≡ x
      → profile l padded table size len w ≡ unless x (read_to len w) (on_read l table size len w (l.read w.at) (λ v. profile l padded table size len v))
  held_step w x h k =
      profile_step l padded table size len past w h
      ∙ ap (λ (y : Answer Unit Error). unless y (read_to len w) (on_read l table size len w (l.read w.at) (λ v. profile l padded table size len v))) (sym (held_as l padded table size len w h) ∙ k)

  broken_at : (w : Walk) (x : Error) → held_at l padded table size len w ≡ Err x → profile l padded table size len w ≡ handed (refusal x) (read_to len w) (over (read_to len w))
  broken_at w x q =
      ⊎_elim (λ h. held_step w (Err x) h q)
      (λ h. let k = held_over l padded table size len w h in let z : ◌≡◌ {A = ℕ} 0 1 = cc in absurd (omega arith))
      (lt_or_le w.at len)

  kept_one : (w : Walk) → held_at l padded table size len w ≡ kept → profile l padded table size len w ≡ one_then l table size len w (profile l padded table size len (behind_one l table size len w))
  kept_one w k = one_then_lem l table size len w (λ v. profile l padded table size len v) (λ h. held_step w kept h k)

  trace_one : (w : Walk) → trace l table size len w ≡ one_then l table size len w (trace l table size len (behind_one l table size len w))
  trace_one w = one_then_lem l table size len w (λ v. trace l table size len v) (trace_step l table size len past w)

  ordinary_goes : (n : ℕ) (w : Walk) → trace l table size len w ≡ given_then l table size len n w (trace l table size len (behind l table size len n w))
  ordinary_goes n w = given_then_lem l table size len (λ _. Unit) (λ v. trace l table size len v) (λ v _. trace_one v) n w (λ _ _. tt)

  up_to : (n : ℕ) (w : Walk) → KeptBefore l padded table size len n w
      → profile l padded table size len w ≡ given_then l table size len n w (profile l padded table size len (behind l table size len n w))
  up_to n w = given_then_lem l table size len (λ v. held_at l padded table size len v ≡ kept) (λ v. profile l padded table size len v) kept_one n w

  broken : (n : ℕ) (w : Walk) (x : Error) → FirstBroken l padded table size len n w x
      → profile l padded table size len w ≡ given_then l table size len n w (handed (refusal x) (emptied_behind l table size len n w) (over (emptied_behind l table size len n w)))
  broken n w x h = up_to n w h.before ∙ ap (given_then l table size len n w) (broken_at (behind l table size len n w) x h.stands)

  -- a list is the ordinary one, or has a first of the three
  abbrev SameOrFirst : Walk → Type 0
  SameOrFirst w = (profile l padded table size len w ≡ trace l table size len w) ⊎ ((n : ℕ) × ((x : Error) × FirstBroken l padded table size len n w x))

  over_same : (w : Walk) → len ≤ w.at → SameOrFirst w
  over_same w h = inl (profile_over l padded table size len past w h ∙ sym (trace_over l table size len past w h))

  later : (w : Walk) → held_at l padded table size len w ≡ kept → SameOrFirst (behind_one l table size len w) → SameOrFirst w
  later w k h =
      ⊎_elim (λ e. inl (kept_one w k ∙ ap (one_then l table size len w) e ∙ sym (trace_one w)))
      (λ b. inr (suc b.0, (b.1.0, first_later l padded table size len b.0 w b.1.0 k b.1.1)))
      h

  kept_same : (w : Walk) → w.at < len → held_at l padded table size len w ≡ kept → ((v : Walk) → w.at < v.at → SameOrFirst v) → SameOrFirst w
  kept_same w p k h =
      ⊎_elim (λ d. later w k (rw (behind_as l table size len w p) (h (behind_read l table size w (l.read w.at)) d)))
      (λ s. inl (held_step w kept p k ∙ s (λ v. profile l padded table size len v) (λ v. trace l table size len v) ∙ sym (trace_step l table size len past w p)))
      (moves_or l table size len w (l.read w.at) (past w.at p))

  from_same : (n : ℕ) (w : Walk) → len ≤ w.at + n → SameOrFirst w
  from_same zero w h = over_same w (omega arith)
  from_same (suc n) w h =
      ⊎_elim
      (λ p.
      ⊎_elim (λ k. kept_same w p k (λ v d. from_same n v (omega arith)))
      (λ q. inr (0, (q.0, first_here l padded table size len w q.0 q.1)))
      (held_or (held_at l padded table size len w)))
      (over_same w)
      (lt_or_le w.at len)

  same_or_first : (w : Walk) → SameOrFirst w
  same_or_first w = from_same len w (omega arith)

  same : (w : Walk) → ((n : ℕ) → held_behind l padded table size len n w ≡ kept) → profile l padded table size len w ≡ trace l table size len w
  same w h =
      ⊎_elim (λ e. e)
      (λ b. let k = h b.0 in let q = b.1.1.stands in let z : ◌≡◌ {A = ℕ} 0 1 = cc in absurd (omega arith))
      (same_or_first w)

  call : is_size size ≡ true → (w : Walk)
      → (profile_next l padded table size len w ≡ next l table size len w)
      ⊎ ((n : ℕ) × ((x : Error) × (FirstBroken l padded table size len n w x × (profile_next l padded table size len w ≡ hands (refusal x) (emptied_behind l table size len n w)))))
  call i w =
      let q = sym (ordinary.next_first l table size len w i) in
      ⊎_elim (λ e. inl (next_first l padded table size len w i ∙ ap first e ∙ q))
      (λ b.
      let n = b.0 in
      let p = next_first l padded table size len w i ∙ ap first (broken n w b.1.0 b.1.1) in
      let v = emptied_behind l table size len n w in
      let t : Trace l.Carried = handed (refusal b.1.0) v (over v) in
      ⊎_elim (λ g. inl (p ∙ g t (trace l table size len (behind l table size len n w)) ∙ ap first (sym (ordinary_goes n w)) ∙ q))
      (λ g. inr (n, (b.1.0, (b.1.1, p ∙ ap first (g t)))))
      (given_gives l table size len n w))
      (same_or_first w)

  pub every_profile : EveryProfile l padded table size len
  every_profile =
      record {
        hands_out = hands_out;
        ordinary = ordinary_goes;
        up_to = up_to;
        broken = broken;
        same = same;
        none_past = none_past l padded table size len;
        call = call;
      }

-- for the two lists
pub listed_profile : (l : Bool) (coding : Coding) (encoding : Encoding) (endian : RunTimeEndian) (s : List ℕ) (table : DebugAddrIndex → Result ℕ) (size : ℕ)
    → EveryProfile (listed l coding encoding endian s) (padded_in l coding encoding endian s) table size (length s)
listed_profile l coding encoding endian s table size =
    every_profile (listed l coding encoding endian s) (padded_in l coding encoding endian s) table size (length s) (listed_past l coding encoding endian s)
