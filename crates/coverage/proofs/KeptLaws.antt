-- A coverage's ranges are those it was made to keep, and the test for a lawful sheet tells what it says. Assumes nothing.
use Rattle.std.proofs.Common.{◌≡◌, ℕ, zero, suc, ◌+◌, ◌-◌, ◌^◌, ◌<◌, ◌≤◌, true, false, ◌&&◌, ltb, leb, List, [], ◌∷◌, ◌++◌, length, get_or, take, drop, replicate, sym, refl, ap, ◌∙◌, ap₂, add-one, arith, length-append, drop_of_length-le, length-take, drop-cons, get_or-take, take_at, ltb-true, le-ltb, lt-ltb, le-leb, leb-true}
use mathlib.Core.Bool.{and-eq-true_iff, and-false}
use lib.ListN.{length-replicate}
use lib.Seq.{take-append_seam}
use borrow.Author.Tests.{lt-leb}
use Rattle.section_bytes.specs.Address.{min_tombstone}
use Rattle.coverage.specs.Ranges.{Range, From, Apart, limit}
use Rattle.coverage.specs.Kept.{paired, firsts, begins, ends, ranges_of, padded, kept_as, lawful_from, is_lawful}
use Rattle.coverage.specs.declared.Coverage.{Coverage}
use Rattle.coverage.proofs.Small.{All, Small}

-- ranges that make a lawful sheet: they keep apart, lie in their bounds, and are not too many
pub record Lawful (rs : List Range) : Type 0 where
  pub apart : Apart rs
  pub small : Small rs
  pub few : length rs ≤ limit

-- the first ranges are those of the first begins and ends
pub take_paired : (n : ℕ) (bs es : List ℕ) → firsts n bs es ≡ paired (take n bs) (take n es)
take_paired zero bs es = refl
take_paired (suc n) [] es = refl
take_paired (suc n) (b ∷ bs) [] = refl
take_paired (suc n) (b ∷ bs) (e ∷ es) = ap (λ (l : List Range). (b, e) ∷ l) (take_paired n bs es)

-- begins and ends read in order
pub length_paired : (bs es : List ℕ) → length bs ≡ length es → length (paired bs es) ≡ length bs
length_paired [] es h = refl
length_paired (b ∷ bs) [] h = absurd (omega arith)
length_paired (b ∷ bs) (e ∷ es) h = ap suc (length_paired bs es (omega arith))

get_d_paired : (bs es : List ℕ) (i : ℕ) → i < length bs → i < length es → get_or (paired bs es) i (0, 0) ≡ (get_or bs i 0, get_or es i 0)
get_d_paired [] es i h k = absurd (omega arith)
get_d_paired (b ∷ bs) [] i h k = absurd (omega arith)
get_d_paired (b ∷ bs) (e ∷ es) zero h k = refl
get_d_paired (b ∷ bs) (e ∷ es) (suc i) h k = get_d_paired bs es i (omega arith) (omega arith)

module _ (bs es : List ℕ) (n : ℕ) {room : ℕ} (fits : n ≤ room) (lb : length bs ≡ room) (le : length es ≡ room) where
  pub length_ranges : length (firsts n bs es) ≡ n
  length_ranges = let z = length_paired bs es (lb ∙ sym le) in rw length-take (omega arith)

  -- the range at a place, and those after it
  pub next_range : (i : ℕ) → i < n → drop i (firsts n bs es) ≡ (get_or bs i 0, get_or es i 0) ∷ drop (i + 1) (firsts n bs es)
  next_range i h =
      let l = length_ranges in
      let k : i < length (firsts n bs es) = omega arith in
      drop-cons (firsts n bs es) i (0, 0) k
      ∙ ap₂ ◌∷◌ (get_or-take n (paired bs es) i (0, 0) h ∙ get_d_paired bs es i (omega arith) (omega arith)) (rw add-one)

  pub no_range : (i : ℕ) → n ≤ i → drop i (firsts n bs es) ≡ []
  no_range i h = let l = length_ranges in drop_of_length-le (firsts n bs es) {i = i} (omega arith)

-- what is kept is read back
pub paired_append : (rs : List Range) (xs ys : List ℕ) → paired (begins rs ++ xs) (ends rs ++ ys) ≡ rs ++ paired xs ys
paired_append [] xs ys = refl
paired_append (r ∷ rs) xs ys = ap (λ (l : List Range). r ∷ l) (paired_append rs xs ys)

pub paired_back : (rs : List Range) → paired (begins rs) (ends rs) ≡ rs
paired_back [] = refl
paired_back (r ∷ rs) = ap (λ (l : List Range). r ∷ l) (paired_back rs)

pub begins_paired : (bs es : List ℕ) → length bs ≡ length es → begins (paired bs es) ≡ bs
begins_paired [] es h = refl
begins_paired (b ∷ bs) [] h = absurd (omega arith)
begins_paired (b ∷ bs) (e ∷ es) h = ap (λ (l : List ℕ). b ∷ l) (begins_paired bs es (omega arith))

pub ends_paired : (bs es : List ℕ) → length bs ≡ length es → ends (paired bs es) ≡ es
ends_paired [] [] h = refl
ends_paired [] (e ∷ es) h = absurd (omega arith)
ends_paired (b ∷ bs) [] h = absurd (omega arith)
ends_paired (b ∷ bs) (e ∷ es) h = ap (λ (l : List ℕ). e ∷ l) (ends_paired bs es (omega arith))

-- what the definitions say, for proofs above this crate
pub ranges_are : (c : Coverage) → ranges_of c ≡ firsts c.n c.begins c.ends
unfolding ranges_of
ranges_are c = refl

pub padded_is : (l : List ℕ) → padded l ≡ l ++ replicate (limit - length l) 0
unfolding padded
padded_is l = refl

pub take_padded : (l : List ℕ) {n : ℕ} → length l ≡ n → take n (padded l) ≡ l
unfolding padded
take_padded l {n} e = take_at l _ n e

pub kept_none : kept_as [] ≡ record { n = 0; begins = replicate limit 0; ends = replicate limit 0 }
unfolding kept_as padded
kept_none = refl

pub kept_paired : (bs es : List ℕ) → length bs ≡ length es → record { n = length bs; begins = padded bs; ends = padded es } ≡ kept_as (paired bs es)
unfolding kept_as
kept_paired bs es h = rw (length_paired bs es h, begins_paired bs es h, ends_paired bs es h)

pub ranges_kept : (rs : List Range) → ranges_of (kept_as rs) ≡ rs
unfolding ranges_of kept_as padded
ranges_kept rs = rw (paired_append rs) (take-append_seam rs _)

pub kept_count : (rs : List Range) → (kept_as rs).n ≡ length rs
unfolding kept_as
kept_count rs = refl

pub length_padded : (l : List ℕ) → length l ≤ limit → length (padded l) ≡ limit
unfolding padded
length_padded l h = rw (length-append, length-replicate) (omega arith)

-- the test of a first range
module _ (lo : ℕ) (r : Range) (rs : List Range) where
  pub lawful_first : lo ≤ r.0 → r.0 < r.1 → r.0 < min_tombstone 8 → lawful_from lo (r ∷ rs) ≡ lawful_from (suc r.1) rs
  unfolding lawful_from
  lawful_first h k l = rw (le-leb lo r.0 h, lt-ltb r.0 r.1 k, lt-ltb r.0 (min_tombstone 8) l)

  pub not_above : r.0 < lo → lawful_from lo (r ∷ rs) ≡ false
  unfolding lawful_from
  not_above h = rw (lt-leb lo r.0 h)

  pub not_proper : r.1 ≤ r.0 → lawful_from lo (r ∷ rs) ≡ false
  unfolding lawful_from
  not_proper h = rw (le-ltb r.0 r.1 h, and-false (leb lo r.0))

  pub not_below : min_tombstone 8 ≤ r.0 → lawful_from lo (r ∷ rs) ≡ false
  unfolding lawful_from
  not_below h = rw (le-ltb r.0 (min_tombstone 8) h, and-false (leb lo r.0 && ltb r.0 r.1))

  first_lawful : lawful_from lo (r ∷ rs) ≡ true → (lo ≤ r.0) × (r.0 < r.1) × (r.0 < min_tombstone 8) × (lawful_from (suc r.1) rs ≡ true)
  unfolding lawful_from
  first_lawful e =
      let p = (and-eq-true_iff (leb lo r.0 && ltb r.0 r.1 && ltb r.0 (min_tombstone 8)) (lawful_from (suc r.1) rs)).0 e in
      let q = (and-eq-true_iff (leb lo r.0 && ltb r.0 r.1) (ltb r.0 (min_tombstone 8))).0 p.0 in
      let u = (and-eq-true_iff (leb lo r.0) (ltb r.0 r.1)).0 q.0 in
      (leb-true lo r.0 u.0, ltb-true r.0 r.1 u.1, ltb-true r.0 (min_tombstone 8) q.1, p.1)

-- the test holds of ranges that keep apart and lie in their bounds
pub from_lawful : (lo : ℕ) (rs : List Range) → From lo rs → Small rs → lawful_from lo rs ≡ true
unfolding lawful_from
from_lawful lo [] f s = refl
from_lawful lo (r ∷ rs) f s = lawful_first lo r rs f.0 f.1 s.0.1 ∙ from_lawful (suc r.1) rs f.2 s.1

-- and only of them, where the ends are 64-bit numbers
pub lawful_from_lem : (lo : ℕ) (rs : List Range) → lawful_from lo rs ≡ true → From lo rs
lawful_from_lem lo [] e = tt
lawful_from_lem lo (r ∷ rs) e = let p = first_lawful lo r rs e in (p.0, p.1, lawful_from_lem (suc r.1) rs p.3)

pub lawful_small : (lo : ℕ) (rs : List Range) → lawful_from lo rs ≡ true → All (λ b e. e < 2 ^ 64) rs → Small rs
lawful_small lo [] e k = tt
lawful_small lo (r ∷ rs) e k =
    let p = first_lawful lo r rs e in ((p.1, p.2, omega (arith, k.0)), lawful_small (suc r.1) rs p.3 k.1)

-- a coverage
paired_ends : (P : ℕ → Type 0) (n : ℕ) (bs es : List ℕ) → ((i : ℕ) → P (get_or es i 0)) → All (λ b e. P e) (firsts n bs es)
paired_ends P zero bs es h = tt
paired_ends P (suc n) [] es h = tt
paired_ends P (suc n) (b ∷ bs) [] h = tt
paired_ends P (suc n) (b ∷ bs) (e ∷ es) h = (h 0, paired_ends P n bs es (λ i. h (suc i)))

module _ (c : Coverage) where
  sheet_parts : is_lawful c ≡ true → (c.n ≤ limit) × (lawful_from 0 (ranges_of c) ≡ true)
  unfolding is_lawful
  sheet_parts e = let p = (and-eq-true_iff (leb c.n limit) (lawful_from 0 (ranges_of c))).0 e in (leb-true c.n limit p.0, p.1)

  -- the ranges of a coverage that makes a lawful sheet; its ends are 64-bit numbers
  pub sheet_lawful : ((i : ℕ) → get_or c.ends i 0 < 2 ^ 64) → is_lawful c ≡ true → Lawful (ranges_of c)
  unfolding ranges_of
  sheet_lawful h e =
      let p = sheet_parts e in
      record {
        apart = lawful_from_lem 0 (ranges_of c) p.1;
        small = lawful_small 0 (ranges_of c) p.1 (paired_ends (λ x. x < 2 ^ 64) c.n c.begins c.ends h);
        few = omega (arith, length-take c.n (paired c.begins c.ends));
      }

  pub sheet_many : limit < c.n → is_lawful c ≡ false
  unfolding is_lawful
  sheet_many h = rw (lt-leb c.n limit h)

  pub sheet_test : c.n ≤ limit → is_lawful c ≡ lawful_from 0 (ranges_of c)
  unfolding is_lawful
  sheet_test h = rw (le-leb c.n limit h)

-- a coverage that keeps lawful ranges makes a lawful sheet
pub kept_lawful : (rs : List Range) → Lawful rs → is_lawful (kept_as rs) ≡ true
kept_lawful rs l =
    sheet_test (kept_as rs) (rw (kept_count rs) l.few) ∙ ap (lawful_from 0) (ranges_kept rs) ∙ from_lawful 0 rs l.apart l.small

-- the ends of a coverage that keeps ranges of 64-bit addresses are 64-bit numbers
zeros_number : (k i : ℕ) → get_or (replicate k 0) i 0 < 2 ^ 64
zeros_number zero i = omega arith
zeros_number (suc k) zero = omega arith
zeros_number (suc k) (suc i) = zeros_number k i

ends_number : (rs : List Range) (k i : ℕ) → Small rs → get_or (ends rs ++ replicate k 0) i 0 < 2 ^ 64
ends_number [] k i s = zeros_number k i
ends_number (r ∷ rs) k zero s = omega (arith, s.0)
ends_number (r ∷ rs) k (suc i) s = ends_number rs k i s.1

pub kept_numbers : (rs : List Range) → Small rs → (i : ℕ) → get_or (kept_as rs).ends i 0 < 2 ^ 64
unfolding kept_as padded
kept_numbers rs s i = ends_number rs (limit - length (ends rs)) i s
