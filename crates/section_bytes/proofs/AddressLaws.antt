-- Sums kept to a size, and the two bounds of a size, for a size as parameter.
use Rattle.std.proofs.Common.{◌≡◌, ℕ, zero, suc, ◌+◌, ◌-◌, ◌*◌, ◌/◌, ◌%◌, ◌^◌, ◌<◌, ◌≤◌, ◌⊎◌, sym, ap, ◌∙◌, inl, inr, ⊎_elim, mod-lt, mod-eq_of_lt, arith, pow_pos, pow_mono}
use lib.Bits.{bit_and, and_mask}
use lib.Pow.{ones_split, ones_lt, high, low as low_part}
use Rattle.section_bytes.specs.Address.{low, add_sized, ones, min_tombstone}

pub under : (a b : ℕ) → (a < b) ⊎ (b ≤ a)
under zero zero = inr (omega arith)
under zero (suc b) = inl (omega arith)
under (suc a) zero = inr (omega arith)
under (suc a) (suc b) = ⊎_elim (λ h. inl (omega arith)) (λ h. inr (omega arith)) (under a b)

module _ (size : ℕ) where
  -- the largest address
  pub ones_is : size ≤ 8 → ones size ≡ 2 ^ (8 * size) - 1
  ones_is h =
      let e : 64 - 8 * size + 8 * size ≡ 64 = omega arith in
      let s = rw e at (ones_split (64 - 8 * size) (8 * size)) in
      ap (low size) s ∙ low_part (2 ^ (64 - 8 * size) - 1) (8 * size) (ones_lt (8 * size))

  pub ones_shifted : size < 8 → (2 ^ 63 - 1) / 2 ^ (63 - 8 * size) ≡ ones size
  ones_shifted h =
      let e : 8 * size + (63 - 8 * size) ≡ 63 = omega arith in
      let s = rw e at (ones_split (8 * size) (63 - 8 * size)) in
      ap (λ (x : ℕ). x / 2 ^ (63 - 8 * size)) s ∙ high (2 ^ (8 * size) - 1) (63 - 8 * size) (ones_lt (63 - 8 * size)) ∙ sym (ones_is (omega arith))

  wide_low : (x : ℕ) → 8 ≤ size → x < 2 ^ 64 → low size x ≡ x
  wide_low x h l = let p : 2 ^ 64 ≤ 2 ^ (8 * size) = pow_mono {i = 64} {j = 8 * size} (omega arith) in mod-eq_of_lt {n = x} (omega arith)

  pub ones_wide : 8 ≤ size → 2 ^ 64 - 1 ≡ ones size
  ones_wide h = sym (wide_low (2 ^ 64 - 1) h (omega arith))

  -- the mask keeps the low bits
  pub masked : (x : ℕ) → x < 2 ^ 64 → bit_and x (ones size) ≡ low size x
  masked x l =
      ⊎_elim
      (λ h. rw (ones_is (omega arith)) (and_mask x (8 * size)))
      (λ h. rw (← ones_wide h) (and_mask x 64 ∙ mod-eq_of_lt {n = x} l ∙ sym (wide_low x h l)))
      (under size 8)

  -- the tombstone bound as docs/SCOPE.md writes it
  pub tombstone_is : 0 < size → size ≤ 8 → min_tombstone size ≡ 2 ^ (8 * size) - 2
  tombstone_is z h =
      let e : 64 - 8 * size + 8 * size ≡ 64 = omega arith in
      let p : 2 ^ 8 ≤ 2 ^ (8 * size) = pow_mono {i = 8} {j = 8 * size} (omega arith) in
      let s = rw e at (ones_split (64 - 8 * size) (8 * size)) in
      let d : 2 ^ 64 - 2 ≡ (2 ^ (64 - 8 * size) - 1) * 2 ^ (8 * size) + (2 ^ (8 * size) - 2) = omega arith in
      ap (low size) d ∙ low_part (2 ^ (64 - 8 * size) - 1) (8 * size) (omega arith)

  -- a sum kept to the size is an address of it
  pub low_lt : (x : ℕ) → low size x < 2 ^ (8 * size)
  low_lt x = mod-lt x (pow_pos (8 * size))

  pub add_lt : (a b : ℕ) → add_sized a b size < 2 ^ (8 * size)
  add_lt a b = low_lt ((a + b) % 2 ^ 64)

  -- what is below the bound of a size fits it already
  pub low_small : (x : ℕ) → x < 2 ^ (8 * size) → low size x ≡ x
  low_small x h = mod-eq_of_lt {n = x} h
