-- The value of bytes: of one and of two, side by side, and by the library's sums.
use Rattle.std.proofs.Common.{◌≡◌, ℕ, zero, suc, ◌+◌, ◌-◌, ◌*◌, ◌^◌, ◌<◌, ◌≤◌, List, [], ◌∷◌, ◌++◌, reverse, length, get_or, take, drop, refl, sym, ap, ◌∙◌, mul_assoc, pow-suc, arith, length-drop, length-take-le, take_all, take-add, drop-cons, drop-drop}
use Rattle.std.proofs.lemmas.List.{length-reverse, reverse-append}
use Rattle.std.proofs.Math.Seq.{take-suc}
use Rattle.std.specs.Int.{Width, byte_len, byte_worth, sum_through, from_le_bytes, from_be_bytes}
use Rattle.section_bytes.specs.Endianity.{little, value}
use Rattle.section_bytes.specs.declared.endianity.RunTimeEndian.{RunTimeEndian}
use Rattle.section_bytes.specs.declared.endianity.RunTimeEndian.TheVariants.{Little, Big}

-- of one byte, and of two
pub little_one : (b : ℕ) → little (b ∷ []) ≡ b
unfolding little
little_one b = omega arith

pub little_two : (a b : ℕ) → little (a ∷ b ∷ []) ≡ a + 256 * b
unfolding little
little_two a b = omega arith

-- numbers side by side: the first lower, and in the other order higher
low_join : (xs ys : List ℕ) → little xs + little ys * 256 ^ length xs ≡ little (xs ++ ys)
unfolding little
low_join [] ys = omega arith
low_join (x ∷ xs) ys = rw (← low_join xs ys, pow-suc) (omega (arith, mul_assoc (little ys) (256 ^ length xs) 256))

other_join : (xs ys : List ℕ) → little (reverse xs) * 256 ^ length ys + little (reverse ys) ≡ little (reverse (xs ++ ys))
other_join xs ys = rw (reverse-append xs ys, ← low_join (reverse ys) (reverse xs), length-reverse) (omega arith)

-- a byte behind the others is the highest, and the lowest the other way round
little_behind : (bs : List ℕ) (x : ℕ) → little (bs ++ (x ∷ [])) ≡ little bs + x * 256 ^ length bs
little_behind bs x = rw (← low_join bs (x ∷ []), little_one)

reversed_behind : (bs : List ℕ) (x : ℕ) → little (reverse (bs ++ (x ∷ []))) ≡ x + 256 * little (reverse bs)
reversed_behind bs x = rw (← other_join bs (x ∷ [])) (omega (arith, little_one x))

worth : (i b : ℕ) → byte_worth i b ≡ b * 256 ^ i
worth zero b = omega arith
worth (suc i) b = refl

-- the library's sums, up to a byte
module _ (bs : List ℕ) where
  low_sum : (n : ℕ) → n < length bs → sum_through (λ i. byte_worth i (get_or bs i 0)) n ≡ little (take (suc n) bs)
  low_sum zero h = rw (take-suc bs 0 0 h, little_one)
  low_sum (suc n) h = rw (take-suc bs (suc n) 0 h, little_behind (take (suc n) bs) (get_or bs (suc n) 0), length-take-le (suc n) bs (omega arith), low_sum n (omega arith))

  high_sum : (m n : ℕ) → n ≤ m → n < length bs → sum_through (λ i. byte_worth (m - i) (get_or bs i 0)) n ≡ little (reverse (take (suc n) bs)) * 256 ^ (m - n)
  high_sum m zero l h = rw (take-suc bs 0 0 h, little_one, worth)
  high_sum m (suc n) l h =
      let e : m - n ≡ suc (m - suc n) = omega arith in
      rw (take-suc bs (suc n) 0 h, reversed_behind (take (suc n) bs) (get_or bs (suc n) 0), high_sum m n (omega arith) (omega arith), worth, e, pow-suc)
      (omega (arith, mul_assoc (little (reverse (take (suc n) bs))) (256 ^ (m - suc n)) 256))

  -- of as many bytes as a type has
  pub from_low_first : (w : Width) → 0 < byte_len w → length bs ≡ byte_len w → from_le_bytes w bs ≡ little bs
  from_low_first w z e =
      let k : suc (byte_len w - 1) ≡ byte_len w = omega arith in
      low_sum (byte_len w - 1) (omega arith) ∙ rw (k, take_all (byte_len w) bs (omega arith))

  pub from_high_first : (w : Width) → 0 < byte_len w → length bs ≡ byte_len w → from_be_bytes w bs ≡ little (reverse bs)
  from_high_first w z e =
      let k : suc (byte_len w - 1) ≡ byte_len w = omega arith in
      let o : byte_len w - 1 - (byte_len w - 1) ≡ 0 = omega arith in
      high_sum (byte_len w - 1) (byte_len w - 1) (omega arith) (omega arith) ∙ rw (k, o, take_all (byte_len w) bs (omega arith)) (omega arith)

-- as many bytes as are taken where they lie in the section
pub part_length : (s : List ℕ) (at n : ℕ) → at + n ≤ length s → length (take n (drop at s)) ≡ n
part_length s at n h = length-take-le n (drop at s) (rw (length-drop at s) (omega arith))

-- what the library makes of the bytes at a place
there : (w : Width) (s : List ℕ) (at : ℕ) {bs : List ℕ} → bs ≡ take (byte_len w) (drop at s) → at + byte_len w ≤ length s → length bs ≡ byte_len w
there w s at p h = ap length p ∙ part_length s at (byte_len w) h

module _ (w : Width) (s : List ℕ) (at : ℕ) {bs : List ℕ} {v : ℕ} (p : bs ≡ take (byte_len w) (drop at s)) where
  pub low_there : v ≡ from_le_bytes w bs → 0 < byte_len w → at + byte_len w ≤ length s → v ≡ little (take (byte_len w) (drop at s))
  low_there q z h = q ∙ from_low_first bs w z (there w s at p h) ∙ ap little p

  pub high_there : v ≡ from_be_bytes w bs → 0 < byte_len w → at + byte_len w ≤ length s → v ≡ little (reverse (take (byte_len w) (drop at s)))
  high_there q z h = q ∙ from_high_first bs w z (there w s at p h) ∙ ap (λ (l : List ℕ). little (reverse l)) p

-- the bytes at a place, in parts of any two sizes, in either order
module _ (s : List ℕ) (at m n : ℕ) where
  parts : take (m + n) (drop at s) ≡ take m (drop at s) ++ take n (drop (at + m) s)
  parts = take-add m n (drop at s) ∙ ap (λ (l : List ℕ). take m (drop at s) ++ take n l) (drop-drop m at s)

  pub low_parts : little (take m (drop at s)) + little (take n (drop (at + m) s)) * 256 ^ length (take m (drop at s)) ≡ little (take (m + n) (drop at s))
  low_parts = rw (parts, low_join (take m (drop at s)) (take n (drop (at + m) s)))

  pub other_parts : little (reverse (take m (drop at s))) * 256 ^ length (take n (drop (at + m) s)) + little (reverse (take n (drop (at + m) s)))
      ≡ little (reverse (take (m + n) (drop at s)))
  other_parts = rw (parts, other_join (take m (drop at s)) (take n (drop (at + m) s)))

-- one byte has no other order
module _ (s : List ℕ) (at : ℕ) (h : at < length s) where
  pub one_low : little (take 1 (drop at s)) ≡ get_or s at 0
  one_low = rw (drop-cons s at 0 h, little_one)

  pub one_high : little (reverse (take 1 (drop at s))) ≡ get_or s at 0
  one_high = rw (drop-cons s at 0 h, little_one)

  pub one_there : (endian : RunTimeEndian) → get_or s at 0 ≡ value endian (take 1 (drop at s))
  one_there Little = sym one_low
  one_there Big = sym one_high
