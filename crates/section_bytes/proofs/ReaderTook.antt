-- What the reads of a fixed size take, and how large their values are.
use Rattle.std.proofs.Common.{◌≡◌, ℕ, zero, suc, ◌+◌, ◌*◌, ◌^◌, ◌<◌, ◌≤◌, Bool, true, false, leb, ◌⊎◌, List, [], ◌∷◌, ◌++◌, reverse, length, get_or, take, drop, sym, refl, ap, ◌∙◌, subst, inl, inr, ⊎_elim, arith, length-drop, length-take, drop-cons, pow-add, leb-false, leb-true}
use mathlib.Core.List.{reverse-cons}
use Rattle.section_bytes.specs.Read.{gives, refused, got, Read, pick}
use Rattle.section_bytes.specs.Endianity.{little, value}
use Rattle.section_bytes.specs.Reader.{skip, split, uint, is_size, address}
use Rattle.section_bytes.specs.declared.endianity.RunTimeEndian.{RunTimeEndian}
use Rattle.section_bytes.specs.declared.endianity.RunTimeEndian.TheVariants.{Little, Big}
use Rattle.std.proofs.lemmas.List.{length-reverse}
use Rattle.section_bytes.proofs.ReaderLaws.{skip_got, skip_short, uint_got, uint_short, size_range}
use Rattle.section_bytes.proofs.Took.{Stands, within, Took, lower, then_took, pick_took}

inside : (a b : ℕ) → (a ≤ b) ⊎ (b < a)
inside a b = split (leb a b) (λ e. leb-true a b e) (λ e. leb-false a b e)
  where
    split : (t : Bool) → (t ≡ true → a ≤ b) → (t ≡ false → b < a) → (a ≤ b) ⊎ (b < a)
    split true p q = inl (p refl)
    split false p q = inr (q refl)

-- bytes that stand in both are the same part there
pub stands_part : (n at : ℕ) (s t : List ℕ) → at + n ≤ length s → Stands at (at + n) s t → take n (drop at s) ≡ take n (drop at t)
stands_part zero at s t h a = refl
stands_part (suc n) at s t h a =
    let m : at < length t = omega (arith, a.fits) in
    rw (drop-cons s at 0 (omega arith), drop-cons t at 0 m, a.same at (omega arith) (omega arith))
    (ap (λ (l : List ℕ). get_or t at 0 ∷ l) (stands_part n (suc at) s t (omega arith) (within (omega arith) (omega arith) a)))

module _ (s t : List ℕ) (n at : ℕ) where
  pub skip_took : Took (at + n) at s t (skip n s at) (skip n t at)
  skip_took =
      ⊎_elim
      (λ h. subst (λ (r : Read Unit). Took (at + n) at s t r (skip n t at)) (sym (skip_got n s at h)) (omega arith, h, λ a. skip_got n t at (omega (arith, a.fits))))
      (λ h. subst (λ (r : Read Unit). Took (at + n) at s t r (skip n t at)) (sym (skip_short n s at h)) (λ z a. absurd (z refl)))
      (inside (at + n) (length s))

  pub split_took : Took (at + n) at s t (split n s at) (split n t at)
  unfolding split
  split_took = then_took s t (at + n) at (skip n s at) (skip n t at) _ _ (omega arith) skip_took (λ _ c l m. (omega arith, m, λ _. refl))

  module _ (endian : RunTimeEndian) where
    pub uint_took : Took (at + n) at s t (uint endian n s at) (uint endian n t at)
    uint_took =
        ⊎_elim
        (λ h. subst (λ (r : Read ℕ). Took (at + n) at s t r (uint endian n t at)) (sym (uint_got endian n s at h))
        (omega arith, h, λ a. uint_got endian n t at (omega (arith, a.fits)) ∙ ap (λ (bs : List ℕ). gives (got (value endian bs) (at + n))) (sym (stands_part n at s t h a))))
        (λ h. subst (λ (r : Read ℕ). Took (at + n) at s t r (uint endian n t at)) (sym (uint_short endian n s at h)) (λ z a. absurd (z refl)))
        (inside (at + n) (length s))

    pub address_took : Took (at + 1) at s t (address endian n s at) (address endian n t at)
    unfolding address
    address_took =
        pick_took s t (at + 1) at (is_size n) (uint endian n s at) _ (uint endian n t at) _
        (λ e. lower s t (at + 1) (at + n) at (uint endian n s at) (uint endian n t at) (omega (arith, size_range n e)) uint_took) (λ e z a. refl)

-- each number of a list is a byte
abbrev Bytes : List ℕ → Type 0
Bytes [] = Unit
Bytes (b ∷ bs) = (b < 256) × Bytes bs

bytes_append : (xs ys : List ℕ) → Bytes xs → Bytes ys → Bytes (xs ++ ys)
bytes_append [] ys p q = q
bytes_append (x ∷ xs) ys p q = (p.0, bytes_append xs ys p.1 q)

bytes_reverse : (l : List ℕ) → Bytes l → Bytes (reverse l)
bytes_reverse [] p = tt
bytes_reverse (x ∷ l) p = subst Bytes (sym (reverse-cons x l)) (bytes_append (reverse l) (x ∷ []) (bytes_reverse l p.1) (p.0, tt))

bytes_part : (s : List ℕ) (n at : ℕ) → ((i : ℕ) → get_or s i 0 < 256) → at + n ≤ length s → Bytes (take n (drop at s))
bytes_part s zero at b h = tt
bytes_part s (suc n) at b h =
    subst Bytes (sym (ap (take (suc n)) (drop-cons s at 0 (omega arith)))) (b at, bytes_part s n (suc at) b (omega arith))

little_lt : (l : List ℕ) → Bytes l → little l < 2 ^ (8 * length l)
unfolding little
little_lt [] p = omega arith
little_lt (b ∷ l) p =
    let e : 8 * suc (length l) ≡ 8 + 8 * length l = omega arith in
    let h = little_lt l p.1 in
    rw (e, pow-add 2 8 (8 * length l)) (omega arith)

value_lt : (endian : RunTimeEndian) (l : List ℕ) → Bytes l → value endian l < 2 ^ (8 * length l)
value_lt Little l p = little_lt l p
value_lt Big l p = rw (length-reverse l) at (little_lt (reverse l) (bytes_reverse l p))

-- where something was read, it is what the definition says of the bytes there
module _ (endian : RunTimeEndian) (n : ℕ) (s : List ℕ) (at : ℕ) {v c : ℕ} where
  pub uint_moves : uint endian n s at ≡ gives (got v c) → c ≡ at + n
  uint_moves e =
      ⊎_elim
      (λ h. let f : gives (got (value endian (take n (drop at s))) (at + n)) ≡ gives (got v c) = sym (uint_got endian n s at h) ∙ e in (cc))
      (λ h. let f = sym (uint_short endian n s at h) ∙ e in let z : ◌≡◌ {A = ℕ} 0 1 = cc in absurd (omega arith))
      (inside (at + n) (length s))

  pub uint_lt : ((i : ℕ) → get_or s i 0 < 256) → uint endian n s at ≡ gives (got v c) → v < 2 ^ (8 * n)
  uint_lt b e =
      ⊎_elim
      (λ h.
      let f : gives (got (value endian (take n (drop at s))) (at + n)) ≡ gives (got v c) = sym (uint_got endian n s at h) ∙ e in
      let g : value endian (take n (drop at s)) ≡ v = cc in
      let l : length (take n (drop at s)) ≡ n = simp (length-take, length-drop) (omega arith) in
      rw g at (rw l at (value_lt endian (take n (drop at s)) (bytes_part s n at b h))))
      (λ h. let f = sym (uint_short endian n s at h) ∙ e in let z : ◌≡◌ {A = ℕ} 0 1 = cc in absurd (omega arith))
      (inside (at + n) (length s))

  -- an address of a size that is read is a number of as many bytes
  pub address_uint : address endian n s at ≡ gives (got v c) → (is_size n ≡ true) × (uint endian n s at ≡ gives (got v c))
  unfolding address
  address_uint e = chosen (is_size n) 6 (n ∷ []) e
    where
      chosen : (t : Bool) (k : ℕ) (vs : List ℕ) → pick t (uint endian n s at) (refused k vs) ≡ gives (got v c) → (t ≡ true) × (uint endian n s at ≡ gives (got v c))
      chosen true k vs f = (refl, f)
      chosen false k vs f = let z : ◌≡◌ {A = ℕ} 0 1 = cc in absurd (omega arith)

  pub address_lt : ((i : ℕ) → get_or s i 0 < 256) → address endian n s at ≡ gives (got v c) → v < 2 ^ (8 * n)
  address_lt b e = uint_lt b (address_uint e).1
