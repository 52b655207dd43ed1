-- A LEB128 number that is read moves on, stays in the section, leans on no byte outside those it took, and is below 2^64: by
-- induction over the bytes left. Assumes nothing.
use Rattle.std.proofs.Common.{◌≡◌, ℕ, ◌+◌, ◌-◌, ◌*◌, ◌^◌, ◌<◌, ◌≤◌, true, false, ◌&&◌, eqb, ltb, ◌⊎◌, List, [], ◌∷◌, length, get_or, drop, sym, refl, ap, ◌∙◌, subst, inl, inr, ⊎_elim, eq-or-lt_of_le, add-one, arith, length-drop, drop-cons, pow_mono, pow-add, ltb-false, ltb-true, eq-eqb}
use Rattle.section_bytes.specs.Read.{gives, refused, got, Read}
use Rattle.section_bytes.specs.Error.{refusal}
use Rattle.section_bytes.specs.Leb128.{below, unsigned_from, unsigned}
use Rattle.section_bytes.specs.declared.error.Error.TheVariants.{BadUnsignedLeb128}
use Rattle.section_bytes.proofs.Took.{Stands, within, Took, pick_ind}

-- what the definition says of a byte that may stand at its place: the last one, and one that another follows
module _ (b k i : ℕ) (bs : List ℕ) (e : (eqb k 9 && ltb 1 b) ≡ false) where
  last_is : ltb b 128 ≡ true → unsigned_from k (b ∷ bs) i ≡ gives (got b (i + 1))
  unfolding unsigned_from
  last_is f = rw (e, f)

  more_is : ltb b 128 ≡ false → unsigned_from k (b ∷ bs) i ≡ below b (unsigned_from (k + 1) bs (i + 1))
  unfolding unsigned_from
  more_is f = rw (e, f)

-- and of one that may not
bad_is : (b k i : ℕ) (bs : List ℕ) → (eqb k 9 && ltb 1 b) ≡ true → unsigned_from k (b ∷ bs) i ≡ refusal BadUnsignedLeb128
unfolding unsigned_from
bad_is b k i bs e = rw e

module _ (s t : List ℕ) where
  -- the same byte stands first in the other section
  there : (i c k b : ℕ) → i < length s → i < c → get_or s i 0 ≡ b → Stands i c s t
      → unsigned_from k (drop i t) i ≡ unsigned_from k (b ∷ drop (i + 1) t) i
  there i c k b h l e a =
      let q : i < length t = omega (arith, a.fits) in
      let x : get_or t i 0 ≡ b = sym (a.same i (omega arith) l) ∙ e in
      rw (drop-cons t i 0 q, x, add-one i)

  below_took : (i b : ℕ) (r q p : Read ℕ) → i < length s → Took (i + 1 + 1) (i + 1) s t r q → ((c : ℕ) → i < c → Stands i c s t → p ≡ below b q)
      → Took (i + 1) i s t (below b r) p
  below_took i b (gives (got v c)) q p w h k =
      (omega arith, h.1, λ a. k c (omega arith) a ∙ ap (below b) (h.2 (within (omega arith) (omega arith) a)))
  below_took i b (refused n vs) q p w h k = λ z a. k (length s) w a ∙ ap (below b) (h z (within (omega arith) (omega arith) a))

  from_took : (l : List ℕ) (i k : ℕ) → drop i s ≡ l → i + length l ≡ length s
      → Took (i + 1) i s t (unsigned_from k l i) (unsigned_from k (drop i t) i)
  unfolding unsigned_from
  from_took [] i k d h = λ z a. absurd (z refl)
  from_took (b ∷ bs) i k d h =
      let w : i < length s = omega arith in
      let g = drop-cons s i 0 w in
      let e : get_or s i 0 ≡ b = cc in
      let m : drop (i + 1) s ≡ bs = rw (add-one i) (cc) in
      pick_ind (λ r. Took (i + 1) i s t r (unsigned_from k (drop i t) i)) (eqb k 9 && ltb 1 b)
      (λ x z a. there i (length s) k b w w e a ∙ bad_is b k i (drop (i + 1) t) x)
      (λ x. pick_ind (λ r. Took (i + 1) i s t r (unsigned_from k (drop i t) i)) (ltb b 128)
      (λ y. (omega arith, omega arith, λ a. there i (i + 1) k b w (omega arith) e a ∙ last_is b k i (drop (i + 1) t) x y))
      (λ y. below_took i b (unsigned_from (k + 1) bs (i + 1)) (unsigned_from (k + 1) (drop (i + 1) t) (i + 1)) (unsigned_from k (drop i t) i) w
      (from_took bs (i + 1) (k + 1) m (omega arith)) (λ c u a. there i c k b w u e a ∙ more_is b k i (drop (i + 1) t) x y)))

pub unsigned_took : (s t : List ℕ) (at : ℕ) → at ≤ length s → Took (at + 1) at s t (unsigned s at) (unsigned t at)
unfolding unsigned
unsigned_took s t at h = from_took s t (drop at s) at 0 refl (simp length-drop (omega arith))

-- if there is a number, it is below 2 ^ w
abbrev Fits : ℕ → Read ℕ → Type 0
Fits w (gives (got v c)) = v < 2 ^ w
Fits w (refused n vs) = Unit

below_fits : (b w : ℕ) (r : Read ℕ) → Fits w r → Fits (w + 7) (below b r)
below_fits b w (gives (got v c)) h = rw (pow-add 2 w 7) (omega arith)
below_fits b w (refused n vs) h = tt

-- a byte that is not refused is no tenth byte, or is at most 1
few : (k b : ℕ) → k ≤ 9 → (eqb k 9 && ltb 1 b) ≡ false → (b ≤ 1) ⊎ (k ≤ 8)
few k b h e = ⊎_elim (λ u. inl (ltb-false 1 b (rw (eq-eqb k 9 u) at e))) (λ u. inr (omega arith)) (eq-or-lt_of_le h)

-- the k-th byte first, what is left fits the bits left
from_fits : (l : List ℕ) (i k : ℕ) → k ≤ 9 → Fits (64 - 7 * k) (unsigned_from k l i)
unfolding unsigned_from
from_fits [] i k h = tt
from_fits (b ∷ bs) i k h =
    pick_ind (Fits (64 - 7 * k)) (eqb k 9 && ltb 1 b) (λ x. tt)
    (λ x. pick_ind (Fits (64 - 7 * k)) (ltb b 128)
    (λ y. ⊎_elim (λ u. omega (arith, pow_mono {i = 1} {j = 64 - 7 * k} (omega arith))) (λ u. omega (arith, ltb-true b 128 y, pow_mono {i = 7} {j = 64 - 7 * k} (omega arith)))
    (few k b h x))
    (λ y. let u : k ≤ 8 = ⊎_elim (λ u. omega (arith, ltb-false b 128 y)) (λ u. u) (few k b h x) in
    let w : 64 - 7 * k ≡ 64 - 7 * (k + 1) + 7 = omega arith in
    rw w (below_fits b (64 - 7 * (k + 1)) (unsigned_from (k + 1) bs (i + 1)) (from_fits bs (i + 1) (k + 1) (omega arith)))))

pub unsigned_lt : (s : List ℕ) (at : ℕ) {v c : ℕ} → unsigned s at ≡ gives (got v c) → v < 2 ^ 64
unfolding unsigned
unsigned_lt s at e = subst (Fits 64) e (from_fits (drop at s) at 0 (omega arith))
