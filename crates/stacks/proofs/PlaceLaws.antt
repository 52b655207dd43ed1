-- Addresses in ascending order by their places: the search among them, and the places that wait. Assumes nothing.
use Prim.Native.Nat.{ℕ, zero, suc, ◌+◌, ◌-◌, ◌*◌, ◌^◌, ◌≤◌, ◌<◌}
use native.Mathlib.Omega.{arith}
use native.Mathlib.Numerals.{add-one}
use mathlib.Core.Bool.{Bool, true, false, ◌&&◌}
use mathlib.Core.List.{List, [], ◌∷◌, ◌++◌}
use mathlib.Core.Logic.{◌⊎◌, inl, inr, ⊎_elim}
use mathlib.Core.Path.{◌≡◌, refl, sym, ap, ◌∙◌}
use lib.Dec.{leb, ltb}
use lib.ListN.{length, set, drop, replicate, length-set, get_or-replicate}
use lib.Seq.{sets, sets-eq, get_or-set_same, get_or-set_other}
use borrow.Author.Tests.{le-leb, leb-true, leb-false, lt-ltb, le-ltb}
use Rattle.std.specs.List.{IsAllAdjacentAnswer}
use Rattle.section_bytes.specs.Read.{pick}
use Rattle.section_bytes.proofs.Order.{lt_or_le}
use Rattle.stacks.specs.Ascending.{ascends}
use Rattle.stacks.specs.Places.{at, Ascending, padded, Less, FirstAt, Between, Done, Hops}

pub same_or_not : (m i : ℕ) → (m ≡ i) ⊎ (m ≡ i → ⊥)
same_or_not m i = ⊎_elim (λ h. inr (λ e. omega arith)) (λ h. ⊎_elim (λ k. inr (λ e. omega arith)) (λ k. inl (omega arith)) (lt_or_le i m)) (lt_or_le m i)

-- the number at a place that was set, and at another
module _ (l : List ℕ) (i x m : ℕ) where
  pub at_same : i < length l → m ≡ i → at (set l i x) m ≡ x
  at_same h e = ap (λ (q : ℕ). at (set l i x) q) e ∙ get_or-set_same l i x 0 h

  pub at_other : (m ≡ i → ⊥) → at (set l i x) m ≡ at l m
  at_other h = get_or-set_other l i m x 0 h

-- the search
pub less_times : (r w x y : ℕ) → Less r x y → r * w ≤ w
less_times r w x y (inl h) = let e : r * w ≡ 1 * w = ap (λ (k : ℕ). k * w) h.0 in omega arith
less_times r w x y (inr h) = let e : r * w ≡ 0 * w = ap (λ (k : ℕ). k * w) h.0 in omega arith

pub less_one : {r x y : ℕ} → Less r x y → r ≤ 1
less_one (inl h) = omega (arith, h.0)
less_one (inr h) = omega (arith, h.0)

module _ (a : List ℕ) (x : ℕ) (up : Ascending a) where
  pub halved : (k w r : ℕ) → 0 < w → Between a x k (w + w - 1) → Less r (at a (k + w - 1)) x → Between a x (k + r * w) (w - 1)
  halved k w r p h (inl l) =
      let e : r * w ≡ 1 * w = ap (λ (j : ℕ). j * w) l.0 in
      record {
        most = omega (arith, h.most);
        below = λ i q. let o = up i (k + w - 1) (omega arith) (omega (arith, h.most)) in omega (arith, l.1);
        from = λ i q s. h.from i (omega arith) s;
      }
  halved k w r p h (inr l) =
      let e : r * w ≡ 0 * w = ap (λ (j : ℕ). j * w) l.0 in
      record {
        most = omega (arith, h.most);
        below = λ i q. h.below i (omega arith);
        from = λ i q s. let o = up (k + w - 1) i (omega arith) (omega arith) in omega (arith, l.1);
      }

  pub at_start : Between a x 0 63
  at_start = record { most = omega arith; below = λ i q. absurd (omega arith); from = λ i q s. absurd (omega arith) }

  pub at_last : (k r : ℕ) → Between a x k 0 → Less r (at a k) x → FirstAt a x (k + r)
  at_last k r h (inl l) =
      let o : k ≡ 63 = ⊎_elim (λ q. let y = h.from k (omega arith) q in absurd (omega (arith, l.1))) (λ q. omega (arith, h.most)) (lt_or_le k 63) in
      record {
        most = omega (arith, l.0);
        below = λ i q. ⊎_elim (λ s. h.below i s) (λ s. let e : at a i ≡ at a k = ap (at a) (omega (arith, l.0)) in omega (arith, l.1)) (lt_or_le i k);
        from = λ i q s. absurd (omega (arith, l.0));
      }
  at_last k r h (inr l) =
      record {
        most = omega (arith, l.0, h.most);
        below = λ i q. h.below i (omega (arith, l.0));
        from = λ i q s. let o = up k i (omega (arith, l.0)) s in omega (arith, l.1);
      }

-- the order of the addresses
both : (x y : Bool) → (x && y) ≡ true → (x ≡ true) × (y ≡ true)
both true y q = (refl, q)
both false y q = let z : ◌≡◌ {A = ℕ} 0 1 = cc in absurd (omega arith)

-- what ascends, ascends from place to place
pub ascending_in : (l : List ℕ) → ascends l ≡ true → (i j : ℕ) → i ≤ j → j < length l → at l i ≤ at l j
unfolding ascends
ascending_in [] q i j h k = absurd (omega arith)
ascending_in (a ∷ []) q zero zero h k = omega arith
ascending_in (a ∷ []) q zero (suc j) h k = absurd (omega arith)
ascending_in (a ∷ []) q (suc i) j h k = absurd (omega arith)
ascending_in (a ∷ b ∷ l) q zero zero h k = omega arith
ascending_in (a ∷ b ∷ l) q zero (suc j) h k =
    let y = both (leb a b) (ascends (b ∷ l)) q in
    let o = leb-true a b y.0 in let p = ascending_in (b ∷ l) y.1 0 j (omega arith) (omega arith) in omega arith
ascending_in (a ∷ b ∷ l) q (suc i) zero h k = absurd (omega arith)
ascending_in (a ∷ b ∷ l) q (suc i) (suc j) h k = ascending_in (b ∷ l) (both (leb a b) (ascends (b ∷ l)) q).1 i j (omega arith) (omega arith)

pub ascends_all : (l : List ℕ) → ((i : ℕ) → suc i < length l → at l i ≤ at l (suc i)) → ascends l ≡ true
unfolding ascends
ascends_all [] h = refl
ascends_all (a ∷ []) h = refl
ascends_all (a ∷ b ∷ l) h = rw (le-leb a b (h 0 (omega arith))) (ascends_all (b ∷ l) (λ i k. h (suc i) (omega arith)))

not_true : (t : Bool) → (t ≡ true → ⊥) → t ≡ false
not_true true h = absurd (h refl)
not_true false h = refl

pub ascends_not : (l : List ℕ) (i : ℕ) → suc i < length l → at l (suc i) < at l i → ascends l ≡ false
ascends_not l i h k = not_true (ascends l) (λ q. let o = ascending_in l q i (suc i) (omega arith) h in omega arith)

-- what the library's test of the order answers
pub sorted_is : (l : List ℕ) (r : Bool) → IsAllAdjacentAnswer (λ x y b. b ≡ leb x y) l r → ascends l ≡ r
sorted_is l true h = ascends_all l (λ i k. leb-true (at l i) (at l (suc i)) (rw (← add-one i) (sym (h i 0 (omega arith)))))
sorted_is l false h = ascends_not l h.0 (omega (arith, h.1)) (leb-false (at l h.0) (at l (suc h.0)) (rw (← add-one h.0) (sym (h.2 0))))

-- numbers put over a list from a place on
sets_before : (vs l : List ℕ) (k i : ℕ) → i < k → at (sets l k vs) i ≡ at l i
sets_before [] l k i h = refl
sets_before (v ∷ vs) l k i h = sets_before vs (set l k v) (suc k) i (omega arith) ∙ at_other l k v i (λ e. omega arith)

sets_behind : (vs l : List ℕ) (k i : ℕ) → k + length vs ≤ i → at (sets l k vs) i ≡ at l i
sets_behind [] l k i h = refl
sets_behind (v ∷ vs) l k i h = sets_behind vs (set l k v) (suc k) i (omega arith) ∙ at_other l k v i (λ e. omega arith)

sets_inside : (vs l : List ℕ) (k i : ℕ) → k + length vs ≤ length l → i < length vs → at (sets l k vs) (k + i) ≡ at vs i
sets_inside [] l k i h q = absurd (omega arith)
sets_inside (v ∷ vs) l k zero h q = sets_before vs (set l k v) (suc k) (k + 0) (omega arith) ∙ at_same l k v (k + 0) (omega arith) (omega arith)
sets_inside (v ∷ vs) l k (suc i) h q =
    ap (λ (j : ℕ). at (sets (set l k v) (suc k) vs) j) (omega arith) ∙ sets_inside vs (set l k v) (suc k) i (let y = length-set l k v in omega arith) (omega arith)

module _ (l : List ℕ) (few : length l ≤ 64) where
  -- the copy
  pub padded_is : l ++ drop (length l) (replicate 64 (2 ^ 64 - 1)) ≡ padded l
  padded_is =
      let e : length l ≡ 0 + length l = omega arith in
      ap (λ (n : ℕ). l ++ drop n (replicate 64 (2 ^ 64 - 1))) e ∙ sym (sets-eq l (replicate 64 (2 ^ 64 - 1)) 0 (omega arith))

  pub padded_in : (i : ℕ) → i < length l → at (padded l) i ≡ at l i
  padded_in i h = ap (at (padded l)) (omega arith) ∙ sets_inside l (replicate 64 (2 ^ 64 - 1)) 0 i (omega arith) h

  pub padded_behind : (i : ℕ) → length l ≤ i → i < 64 → at (padded l) i ≡ 2 ^ 64 - 1
  padded_behind i h k = sets_behind l (replicate 64 (2 ^ 64 - 1)) 0 i (omega arith) ∙ get_or-replicate 64 i (2 ^ 64 - 1) 0 k

  pub padded_ascending : ((i : ℕ) → at l i ≤ 2 ^ 64 - 1) → ascends l ≡ true → Ascending (padded l)
  padded_ascending small up i j h k =
      ⊎_elim
      (λ p. let x = padded_in j p in let y = padded_in i (omega arith) in let o = ascending_in l up i j h p in omega arith)
      (λ p. let x = padded_behind j p k in ⊎_elim (λ q. let y = padded_in i q in let o = small i in omega arith) (λ q. let y = padded_behind i q (omega arith) in omega arith) (lt_or_le i (length l)))
      (lt_or_le j (length l))

-- from one place that has its answer to the next
pub hopped : {next : List ℕ} {low i : ℕ} → Hops next → ((m : ℕ) → low ≤ m → m < i → Done next m) → (m : ℕ) → low ≤ m → m < at next i → Done next m
hopped {next} {low} {i} h p m l k = ⊎_elim (λ o. p m l o) (λ o. h.over i m o k) (lt_or_le m i)

-- the address at a place, or the highest
module _ (a : List ℕ) (i e : ℕ) {r : ℕ} (is : r ≡ pick (ltb i 64) (at a i) (2 ^ 64 - 1)) where
  in_place : i < 64 → r ≡ at a i
  in_place h = is ∙ ap (λ (b : Bool). pick b (at a i) (2 ^ 64 - 1)) (lt-ltb i 64 h)

  behind_all : 64 ≤ i → r ≡ 2 ^ 64 - 1
  behind_all h = is ∙ ap (λ (b : Bool). pick b (at a i) (2 ^ 64 - 1)) (le-ltb i 64 h)

  pub above_met : e ≤ 2 ^ 64 - 1 → r < e → (i < 64) × (at a i < e)
  above_met h l = ⊎_elim (λ k. let y = in_place k in (k, omega arith)) (λ k. let y = behind_all k in absurd (omega arith)) (lt_or_le i 64)

  pub above_not_met : e ≤ r → i < 64 → e ≤ at a i
  above_not_met l k = let y = in_place k in omega arith
