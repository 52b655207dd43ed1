-- A table of kind numbers as the code looks through it, a byte at a time. Assumes nothing.
use mathlib.Core.Path.{◌≡◌, refl, sym, ap, subst, ◌∙◌}
use mathlib.Core.Logic.{◌⊎◌, inl, inr, ⊎_elim}
use mathlib.Core.Bool.{Bool, true, false, ◌&&◌, or-true, and-false, and-eq-true_iff}
use mathlib.Core.List.{List, ◌∷◌}
use Prim.Native.Nat.{ℕ, zero, suc, ◌+◌, ◌≤◌, ◌<◌}
use native.Mathlib.Numerals.{add-one}
use native.Mathlib.Omega.{arith}
use lib.Dec.{eqb, ltb, leb}
use lib.ListN.{length, get_or, set, drop, length-set, drop_of_length-le}
use lib.Seq.{drop-cons, get_or-set_same, get_or-set_other}
use borrow.Author.Tests.{leb-true, eqb-true, eqb-false, lt-ltb, le-ltb, le-leb, eq-eqb, ne_eqb}
use Rattle.section_bytes.proofs.Order.{lt_or_le}
use Rattle.entries.specs.Numbers.{are_numbers, codes_of, none_twice}

pub same_or_other : (a b : ℕ) → (a ≡ b) ⊎ (a ≡ b → ⊥)
same_or_other a b = by (eqb a b) refl
  where
    by : (t : Bool) → eqb a b ≡ t → (a ≡ b) ⊎ (a ≡ b → ⊥)
    by true e = inl (eqb-true a b e)
    by false e = inr (eqb-false a b e)

-- a byte at the front
pub number_front : (b : ℕ) (t : List ℕ) → (b < 8) ⊎ (b ≡ 255) → are_numbers (b ∷ t) ≡ are_numbers t
unfolding are_numbers
number_front b t (inl h) = simp (lt-ltb b 8 h)
number_front b t (inr e) = simp (eq-eqb b 255 e, or-true)

pub none_front : (b : ℕ) (t : List ℕ) → 8 ≤ b → (b ≡ 255 → ⊥) → are_numbers (b ∷ t) ≡ false
unfolding are_numbers
none_front b t h n = simp (le-ltb b 8 h, ne_eqb b 255 n)

pub code_front : (k b : ℕ) (t : List ℕ) → b ≡ k → codes_of k (b ∷ t) ≡ suc (codes_of k t)
unfolding codes_of
code_front k b t e = simp (eq-eqb b k e)

pub other_front : (k b : ℕ) (t : List ℕ) → (b ≡ k → ⊥) → codes_of k (b ∷ t) ≡ codes_of k t
unfolding codes_of
other_front k b t n = simp (ne_eqb b k n)

-- the byte at a place
module _ (t : List ℕ) (i : ℕ) (h : i < length t) where
  from_here : drop i t ≡ get_or t i 0 ∷ drop (i + 1) t
  from_here = rw add-one (drop-cons t i 0 h)

  number_here : (get_or t i 0 < 8) ⊎ (get_or t i 0 ≡ 255) → are_numbers (drop i t) ≡ are_numbers (drop (i + 1) t)
  number_here p = ap are_numbers from_here ∙ number_front (get_or t i 0) (drop (i + 1) t) p

  none_here : 8 ≤ get_or t i 0 → (get_or t i 0 ≡ 255 → ⊥) → are_numbers (drop i t) ≡ false
  none_here p n = ap are_numbers from_here ∙ none_front (get_or t i 0) (drop (i + 1) t) p n

  code_here : (k : ℕ) → get_or t i 0 ≡ k → codes_of k (drop i t) ≡ suc (codes_of k (drop (i + 1) t))
  code_here k e = ap (codes_of k) from_here ∙ code_front k (get_or t i 0) (drop (i + 1) t) e

  other_here : (k : ℕ) → (get_or t i 0 ≡ k → ⊥) → codes_of k (drop i t) ≡ codes_of k (drop (i + 1) t)
  other_here k n = ap (codes_of k) from_here ∙ other_front k (get_or t i 0) (drop (i + 1) t) n

-- past the end
module _ (t : List ℕ) (i : ℕ) (h : length t ≤ i) where
  numbers_end : are_numbers (drop i t) ≡ true
  unfolding are_numbers
  numbers_end = ap are_numbers (drop_of_length-le t h)

  codes_end : (k : ℕ) → codes_of k (drop i t) ≡ 0
  unfolding codes_of
  codes_end k = ap (codes_of k) (drop_of_length-le t h)

-- the first kinds
pub none_below : (t : List ℕ) (n : ℕ) → ((k : ℕ) → k < n → codes_of k t ≤ 1) → none_twice n t ≡ true
unfolding none_twice
none_below t zero h = refl
none_below t (suc n) h = let l = h n (omega arith) in simp (le-leb (codes_of n t) 1 l, none_below t n (λ k l. h k (omega arith)))

pub below_once : (t : List ℕ) (n : ℕ) → none_twice n t ≡ true → (k : ℕ) → k < n → codes_of k t ≤ 1
unfolding none_twice
below_once t zero e k l = absurd (omega arith)
below_once t (suc n) e k l =
    let p = (and-eq-true_iff (leb (codes_of n t) 1) (none_twice n t)).0 e in
    ⊎_elim
    (λ m. below_once t n p.1 k m)
    (λ m. let q : n ≡ k = omega arith in subst (λ (j : ℕ). codes_of j t ≤ 1) q (leb-true (codes_of n t) 1 p.0))
    (lt_or_le k n)

twice_below : (t : List ℕ) (n k : ℕ) → k < n → 1 < codes_of k t → none_twice n t ≡ false
twice_below t n k l h = by (none_twice n t) refl
  where
    by : (b : Bool) → none_twice n t ≡ b → none_twice n t ≡ false
    by true e = absurd (omega (arith, below_once t n e k l))
    by false e = e

-- ---- the pass over a table

-- one where a kind has a code
abbrev pub one_if : Bool → ℕ
one_if true = 1
one_if false = 0

one_most : (b : Bool) → one_if b ≤ 1
one_most true = omega arith
one_most false = omega arith

-- before a place: no byte there is wrong, and `coded` has which kinds have a code there, and none has two
pub record Seen (t : List ℕ) (coded : List Bool) (i : ℕ) : Type 0 where
  pub within : i ≤ length t
  pub room : length coded ≡ 8
  pub numbers : are_numbers t ≡ are_numbers (drop i t)
  pub counts : (k : ℕ) → k < 8 → codes_of k t ≡ one_if (get_or coded k false) + codes_of k (drop i t)

module _ (t : List ℕ) (coded : List Bool) (i : ℕ) (s : Seen t coded i) where
  module _ (h : i < length t) where
    -- the code of a kind that had none
    pub seen_kind : get_or t i 0 < 8 → get_or coded (get_or t i 0) false ≡ false → Seen t (set coded (get_or t i 0) true) (i + 1)
    seen_kind l z =
        record {
          within = omega arith;
          room = length-set coded (get_or t i 0) true ∙ s.room;
          numbers = s.numbers ∙ number_here t i h (inl l);
          counts = λ k m. ⊎_elim (λ e. same k e) (λ n. other k m n) (same_or_other (get_or t i 0) k);
        }
      where
        put : (k : ℕ) → get_or t i 0 ≡ k → get_or (set coded (get_or t i 0) true) k false ≡ true
        put k e =
            let r = s.room in
            ap (λ (j : ℕ). get_or (set coded (get_or t i 0) true) j false) (sym e) ∙ get_or-set_same coded (get_or t i 0) true false (omega arith)

        kept : (k : ℕ) → (get_or t i 0 ≡ k → ⊥) → get_or (set coded (get_or t i 0) true) k false ≡ get_or coded k false
        kept k n = get_or-set_other coded (get_or t i 0) k true false (λ e. n (sym e))

        same : (k : ℕ) → get_or t i 0 ≡ k → codes_of k t ≡ one_if (get_or (set coded (get_or t i 0) true) k false) + codes_of k (drop (i + 1) t)
        same k e =
            let y = ap (λ (j : ℕ). one_if (get_or coded j false)) e in
            omega (arith, s.counts k (omega arith), code_here t i h k e, ap one_if (put k e), ap one_if z)

        other : (k : ℕ) → k < 8 → (get_or t i 0 ≡ k → ⊥) → codes_of k t ≡ one_if (get_or (set coded (get_or t i 0) true) k false) + codes_of k (drop (i + 1) t)
        other k m n = omega (arith, s.counts k m, other_here t i h k n, ap one_if (kept k n))

    -- a code without a kind
    pub seen_other : get_or t i 0 ≡ 255 → Seen t coded (i + 1)
    seen_other e =
        record {
          within = omega arith;
          room = s.room;
          numbers = s.numbers ∙ number_here t i h (inr e);
          counts = λ k l. omega (arith, s.counts k l, other_here t i h k (λ q. omega arith));
        }

    -- the second code of a kind
    pub seen_twice : get_or t i 0 < 8 → get_or coded (get_or t i 0) false ≡ true → (are_numbers t && none_twice 8 t && ltb 0 (codes_of 0 t)) ≡ false
    seen_twice l z = simp (twice_below t 8 (get_or t i 0) l twice, and-false)
      where
        twice : 1 < codes_of (get_or t i 0) t
        twice = omega (arith, ap one_if z, s.counts (get_or t i 0) l, code_here t i h (get_or t i 0) refl)

    -- no number of a kind
    pub seen_wrong : 8 ≤ get_or t i 0 → (get_or t i 0 ≡ 255 → ⊥) → (are_numbers t && none_twice 8 t && ltb 0 (codes_of 0 t)) ≡ false
    seen_wrong l n = simp (s.numbers ∙ none_here t i h l n)

  -- all bytes: whether kind 0 has a code is left
  pub seen_all : length t ≤ i → (are_numbers t && none_twice 8 t && ltb 0 (codes_of 0 t)) ≡ get_or coded 0 false
  seen_all h = simp (s.numbers ∙ numbers_end t i h, none_below t 8 below, count 0 first, positive (get_or coded 0 false))
    where
      count : (k : ℕ) → k < 8 → codes_of k t ≡ one_if (get_or coded k false)
      count k l = omega (arith, s.counts k l, codes_end t i h k)

      first : 0 < 8
      first = omega arith

      below : (k : ℕ) → k < 8 → codes_of k t ≤ 1
      below k l = omega (arith, count k l, one_most (get_or coded k false))

      positive : (b : Bool) → ltb 0 (one_if b) ≡ b
      positive true = refl
      positive false = refl
