-- Sheets and lawful ranges are each other's inverse: by induction on the ranges, and on the addresses read. Assumes nothing.
use mathlib.Core.Path.{◌≡◌, refl, sym, ap, ap₂, ◌∙◌, subst}
use mathlib.Core.Bool.{Bool, true, false, ◌&&◌, and-eq-true_iff}
use mathlib.Core.List.{List, [], ◌∷◌, ◌++◌, append_assoc, append-nil}
use mathlib.Core.Logic.{⊎_elim}
use Prim.Native.Nat.{ℕ, zero, suc, ◌+◌, ◌*◌, ◌/◌, ◌%◌, ◌^◌, ◌≤◌, ◌<◌}
use native.Mathlib.Omega.{arith}
use lib.Dec.{leb, eqb}
use lib.ListN.{length, take, drop, get_or, length-append, length-take, length-drop, length-map, get_or-eq_default}
use lib.Seq.{length-take-le, take_at, drop_at, drop-drop, take-add, take_all, get_or-take, get_or-drop}
use borrow.Author.Tests.{le-leb, eq-eqb, leb-true, eqb-true}
use Rattle.section_bytes.specs.Read.{gives, refused, pick}
use Rattle.section_bytes.specs.Endianity.{little}
use Rattle.section_bytes.specs.Error.{refusal}
use Rattle.section_bytes.specs.declared.error.Error.TheVariants.{BadSheet}
use Rattle.coverage.specs.Ranges.{Range, Apart, limit}
use Rattle.coverage.specs.Kept.{paired, begins, ends, ranges_of, lawful_from, is_lawful}
use Rattle.section_bytes.specs.Written.{little_bytes}
use Rattle.sheets.specs.Sheet.{address_bytes, sheet_bytes, sheet_kept, addresses_in, count_in, width_in, ranges_in, is_sheet_within, sheet_ranges_within, sheet_ranges, sheet_length}
use Rattle.coverage.specs.declared.Coverage.{Coverage}
use Rattle.coverage.proofs.Small.{All, Small}
use Rattle.section_bytes.proofs.Order.{lt_or_le}
use Rattle.section_bytes.proofs.Values.{little_two}
use Rattle.coverage.proofs.KeptLaws.{Lawful, length_paired, begins_paired, ends_paired, paired_back, from_lawful, lawful_from_lem, lawful_small}
use Rattle.section_bytes.proofs.WrittenLaws.{length_little, little_pair, little_back, little_written, little_lt, append_bytes, little_bytes_lem}

-- addresses of 64 bits
abbrev Words : List ℕ → Type 0
Words [] = Unit
Words (a ∷ l) = (a < 2 ^ 64) × Words l

begin_words : (rs : List Range) → Small rs → Words (begins rs)
begin_words [] s = tt
begin_words (r ∷ rs) s = let k = s.0 in (omega arith, begin_words rs s.1)

end_words : (rs : List Range) → Small rs → Words (ends rs)
end_words [] s = tt
end_words (r ∷ rs) s = let k = s.0 in (omega arith, end_words rs s.1)

pub length_addresses : (l : List ℕ) → length (address_bytes l) ≡ 8 * length l
unfolding address_bytes
length_addresses [] = refl
length_addresses (a ∷ l) = rw (length-append, length_little, length_addresses l) (omega arith)

addresses_back : (l rest : List ℕ) → Words l → addresses_in (length l) (address_bytes l ++ rest) ≡ l
unfolding addresses_in address_bytes
addresses_back [] rest w = refl
addresses_back (a ∷ l) rest w =
    let g : (little_bytes 8 a ++ address_bytes l) ++ rest ≡ little_bytes 8 a ++ (address_bytes l ++ rest) = append_assoc (little_bytes 8 a) (address_bytes l) rest in
    rw (g, take_at (little_bytes 8 a) (address_bytes l ++ rest) 8 (length_little 8 a), drop_at (little_bytes 8 a) (address_bytes l ++ rest) 8 (length_little 8 a))
    (ap₂ ◌∷◌ (little_back 8 a w.0) (addresses_back l rest w.1))

-- a sheet's head and its addresses
pub sheet_spread : (rs : List Range) → sheet_bytes rs ≡ length rs % 256 ∷ length rs / 256 % 256 ∷ 8 ∷ 0 ∷ (address_bytes (begins rs) ++ address_bytes (ends rs))
unfolding sheet_bytes
sheet_spread rs = rw (little_pair (length rs), little_pair 8)

-- the sheet of ranges whose count fits its two bytes
module _ (rs : List Range) (apart : Apart rs) (small : Small rs) (few : length rs < 65536) where
  count_back : count_in (sheet_bytes rs) ≡ length rs
  count_back = ap count_in (sheet_spread rs) ∙ little_two (length rs % 256) (length rs / 256 % 256) ∙ omega arith

  width_back : width_in (sheet_bytes rs) ≡ 8
  width_back = ap width_in (sheet_spread rs) ∙ little_two 8 0

  length_back : length (sheet_bytes rs) ≡ sheet_length (length rs)
  length_back =
      ap length (sheet_spread rs)
      ∙ rw (length-append, length_addresses (begins rs), length_addresses (ends rs), length-map rs (λ (r : Range). r.0), length-map rs (λ (r : Range). r.1)) (omega arith)

  begins_back : addresses_in (length rs) (drop 4 (sheet_bytes rs)) ≡ begins rs
  begins_back =
      ap (λ (s : List ℕ). addresses_in (length rs) (drop 4 s)) (sheet_spread rs)
      ∙ ap (λ (n : ℕ). addresses_in n (address_bytes (begins rs) ++ address_bytes (ends rs))) (sym (length-map rs (λ (r : Range). r.0)))
      ∙ addresses_back (begins rs) (address_bytes (ends rs)) (begin_words rs small)

  after_begins : drop (4 + 8 * length rs) (sheet_bytes rs) ≡ address_bytes (ends rs)
  after_begins =
      sym (drop-drop (8 * length rs) 4 (sheet_bytes rs))
      ∙ ap (λ (s : List ℕ). drop (8 * length rs) (drop 4 s)) (sheet_spread rs)
      ∙ drop_at (address_bytes (begins rs)) (address_bytes (ends rs)) (8 * length rs) (length_addresses (begins rs) ∙ ap (λ (n : ℕ). 8 * n) (length-map rs (λ (r : Range). r.0)))

  ends_back : addresses_in (length rs) (drop (4 + 8 * length rs) (sheet_bytes rs)) ≡ ends rs
  ends_back =
      ap (addresses_in (length rs)) (after_begins ∙ sym (append-nil (address_bytes (ends rs))))
      ∙ ap (λ (n : ℕ). addresses_in n (address_bytes (ends rs) ++ [])) (sym (length-map rs (λ (r : Range). r.1)))
      ∙ addresses_back (ends rs) [] (end_words rs small)

  ranges_back : ranges_in (length rs) (sheet_bytes rs) ≡ rs
  ranges_back = ap₂ paired begins_back ends_back ∙ paired_back rs

  is_sheet : (m : ℕ) → length rs ≤ m → is_sheet_within m (length rs) (sheet_bytes rs) ≡ true
  unfolding is_sheet_within
  is_sheet m h =
      rw (le-leb (length rs) m h, width_back, eq-eqb (length (sheet_bytes rs)) (sheet_length (length rs)) length_back, ranges_back)
      (from_lawful 0 rs apart small)

  pub back_within : (m : ℕ) → length rs ≤ m → sheet_ranges_within m (sheet_bytes rs) ≡ gives rs
  back_within m h =
      ap (λ (n : ℕ). pick (is_sheet_within m n (sheet_bytes rs)) (gives (ranges_in n (sheet_bytes rs))) (refusal BadSheet)) count_back
      ∙ rw (is_sheet m h, ranges_back)

-- a sheet reads back to its ranges
pub sheet_back : (rs : List Range) → Lawful rs → sheet_ranges (sheet_bytes rs) ≡ gives rs
unfolding sheet_ranges
sheet_back rs l = let h = l.few in back_within rs l.apart l.small (omega arith) limit h

-- no two lists of lawful ranges have one sheet
pub sheet_tells : (rs qs : List Range) → Lawful rs → Lawful qs → sheet_bytes rs ≡ sheet_bytes qs → rs ≡ qs
sheet_tells rs qs l m e = let f : gives rs ≡ gives qs = sym (sheet_back rs l) ∙ ap sheet_ranges e ∙ sheet_back qs m in cc

-- a sheet is bytes
pub address_bytes_lem : (l : List ℕ) (i : ℕ) → get_or (address_bytes l) i 0 < 256
unfolding address_bytes
address_bytes_lem [] i = omega arith
address_bytes_lem (a ∷ l) i = append_bytes (little_bytes 8 a) (address_bytes l) (little_bytes_lem 8 a) (address_bytes_lem l) i

pub sheet_bytes_lem : (rs : List Range) (i : ℕ) → get_or (sheet_bytes rs) i 0 < 256
unfolding sheet_bytes
sheet_bytes_lem rs =
    append_bytes (little_bytes 2 (length rs) ++ little_bytes 2 8 ++ address_bytes (begins rs)) (address_bytes (ends rs))
    (append_bytes (little_bytes 2 (length rs) ++ little_bytes 2 8) (address_bytes (begins rs))
    (append_bytes (little_bytes 2 (length rs)) (little_bytes 2 8) (little_bytes_lem 2 (length rs)) (little_bytes_lem 2 8)) (address_bytes_lem (begins rs)))
    (address_bytes_lem (ends rs))

-- the sheet of a coverage handed in
module _ (c : Coverage) where
  pub sheet_kept_lem : is_lawful c ≡ true → sheet_kept c ≡ gives (sheet_bytes (ranges_of c))
  unfolding sheet_kept
  sheet_kept_lem h = simp h

  pub no_sheet_kept : is_lawful c ≡ false → sheet_kept c ≡ refusal BadSheet
  unfolding sheet_kept
  no_sheet_kept h = simp h

-- parts of bytes are bytes
drop_bytes : (k : ℕ) (s : List ℕ) → ((i : ℕ) → get_or s i 0 < 256) → (i : ℕ) → get_or (drop k s) i 0 < 256
drop_bytes k s h i = rw (get_or-drop k s i 0) (h (k + i))

take_bytes : (k : ℕ) (s : List ℕ) → ((i : ℕ) → get_or s i 0 < 256) → (i : ℕ) → get_or (take k s) i 0 < 256
take_bytes k s h i =
    ⊎_elim (λ l. rw (get_or-take k s i 0 l) (h i))
    (λ l. rw (get_or-eq_default (take k s) 0 {n = i} (omega (arith, length-take k s))) (omega arith)) (lt_or_le i k)

take_written : (k : ℕ) (s : List ℕ) → ((i : ℕ) → get_or s i 0 < 256) → k ≤ length s → little_bytes k (little (take k s)) ≡ take k s
take_written k s h l =
    ap (λ (n : ℕ). little_bytes n (little (take k s))) (sym (length-take-le k s l)) ∙ little_written (take k s) (take_bytes k s h)

-- addresses read from bytes, written again
pub length_in : (n : ℕ) (s : List ℕ) → length (addresses_in n s) ≡ n
unfolding addresses_in
length_in zero s = refl
length_in (suc n) s = ap suc (length_in n (drop 8 s))

addresses_written : (n : ℕ) (s : List ℕ) → ((i : ℕ) → get_or s i 0 < 256) → 8 * n ≤ length s → address_bytes (addresses_in n s) ≡ take (8 * n) s
unfolding addresses_in address_bytes
addresses_written zero s h l = refl
addresses_written (suc n) s h l =
    let e : 8 * suc n ≡ 8 + 8 * n = omega arith in
    let k = addresses_written n (drop 8 s) (drop_bytes 8 s h) (omega (arith, length-drop 8 s)) in
    ap₂ (λ (x y : List ℕ). x ++ y) (take_written 8 s h (omega arith)) k ∙ sym (take-add 8 (8 * n) s) ∙ ap (λ (m : ℕ). take m s) (sym e)

words_in : (n : ℕ) (s : List ℕ) → ((i : ℕ) → get_or s i 0 < 256) → 8 * n ≤ length s → Words (addresses_in n s)
unfolding addresses_in
words_in zero s h l = tt
words_in (suc n) s h l =
    let m : length (take 8 s) ≡ 8 = length-take-le 8 s (omega arith) in
    (rw m at (little_lt (take 8 s) (take_bytes 8 s h)), words_in n (drop 8 s) (drop_bytes 8 s h) (omega (arith, length-drop 8 s)))

paired_words : (bs es : List ℕ) → Words es → All (λ b e. e < 2 ^ 64) (paired bs es)
paired_words [] es w = tt
paired_words (b ∷ bs) [] w = tt
paired_words (b ∷ bs) (e ∷ es) w = (w.0, paired_words bs es w.1)

-- as many begins as ends, and as many ranges
same_length : (n : ℕ) (bs : List ℕ) → length (addresses_in n (drop 4 bs)) ≡ length (addresses_in n (drop (4 + 8 * n) bs))
same_length n bs = length_in n (drop 4 bs) ∙ sym (length_in n (drop (4 + 8 * n) bs))

pub ranges_in_lem : (n : ℕ) (bs : List ℕ) → length (ranges_in n bs) ≡ n
ranges_in_lem n bs =
    length_paired (addresses_in n (drop 4 bs)) (addresses_in n (drop (4 + 8 * n) bs)) (same_length n bs) ∙ length_in n (drop 4 bs)

-- bytes with the count, width and length of a sheet are the sheet of their ranges
module _ (n : ℕ) (bs : List ℕ) (h : (i : ℕ) → get_or bs i 0 < 256) (size : length bs ≡ sheet_length n) where
  count_written : count_in bs ≡ n → little_bytes 2 (length (ranges_in n bs)) ≡ take 2 bs
  count_written c = ap (little_bytes 2) (ranges_in_lem n bs ∙ sym c) ∙ take_written 2 bs h (omega arith)

  width_written : width_in bs ≡ 8 → little_bytes 2 8 ≡ take 2 (drop 2 bs)
  width_written w = ap (little_bytes 2) (sym w) ∙ take_written 2 (drop 2 bs) (drop_bytes 2 bs h) (omega (arith, length-drop 2 bs))

  begins_written : address_bytes (begins (ranges_in n bs)) ≡ take (8 * n) (drop 4 bs)
  begins_written =
      ap address_bytes (begins_paired (addresses_in n (drop 4 bs)) (addresses_in n (drop (4 + 8 * n) bs)) (same_length n bs))
      ∙ addresses_written n (drop 4 bs) (drop_bytes 4 bs h) (omega (arith, length-drop 4 bs))

  ends_written : address_bytes (ends (ranges_in n bs)) ≡ take (8 * n) (drop (4 + 8 * n) bs)
  ends_written =
      ap address_bytes (ends_paired (addresses_in n (drop 4 bs)) (addresses_in n (drop (4 + 8 * n) bs)) (same_length n bs))
      ∙ addresses_written n (drop (4 + 8 * n) bs) (drop_bytes (4 + 8 * n) bs h) (omega (arith, length-drop (4 + 8 * n) bs))

  sheet_of : count_in bs ≡ n → width_in bs ≡ 8 → bs ≡ sheet_bytes (ranges_in n bs)
  unfolding sheet_bytes
  sheet_of c w =
      sym (rw (count_written c, width_written w, begins_written, ends_written)
      (rw (← take-add 2 2 bs, ← take-add 4 (8 * n) bs, ← take-add (4 + 8 * n) (8 * n) bs) (take_all (4 + 8 * n + 8 * n) bs (omega arith))))

  ends_in : All (λ b e. e < 2 ^ 64) (ranges_in n bs)
  ends_in =
      paired_words (addresses_in n (drop 4 bs)) (addresses_in n (drop (4 + 8 * n) bs))
      (words_in n (drop (4 + 8 * n) bs) (drop_bytes (4 + 8 * n) bs h) (omega (arith, length-drop (4 + 8 * n) bs)))

-- what the test for a sheet tells
sheet_is : (m n : ℕ) (bs : List ℕ) → is_sheet_within m n bs ≡ true
    → (n ≤ m) × (width_in bs ≡ 8) × (length bs ≡ sheet_length n) × (lawful_from 0 (ranges_in n bs) ≡ true)
unfolding is_sheet_within
sheet_is m n bs e =
    let s = leb n m && eqb (width_in bs) 8 && eqb (length bs) (sheet_length n) in
    let p = (and-eq-true_iff s (lawful_from 0 (ranges_in n bs))).0 e in
    let q = (and-eq-true_iff (leb n m && eqb (width_in bs) 8) (eqb (length bs) (sheet_length n))).0 p.0 in
    let r = (and-eq-true_iff (leb n m) (eqb (width_in bs) 8)).0 q.0 in
    (leb-true n m r.0, eqb-true (width_in bs) 8 r.1, eqb-true (length bs) (sheet_length n) q.1, p.1)

-- a sheet that is read
module _ (m : ℕ) (bs : List ℕ) {rs : List Range} (e : sheet_ranges_within m bs ≡ gives rs) where
  given : (is_sheet_within m (count_in bs) bs ≡ true) × (ranges_in (count_in bs) bs ≡ rs)
  given = chosen (is_sheet_within m (count_in bs) bs) (ranges_in (count_in bs) bs) _ _ e
    where
      chosen : (t : Bool) (l : List Range) (n : ℕ) (vs : List ℕ) → pick t (gives l) (refused n vs) ≡ gives rs
          → (t ≡ true) × (l ≡ rs)
      chosen true l n vs e = (refl, cc)
      chosen false l n vs e = let z : ◌≡◌ {A = ℕ} 0 1 = cc in absurd (omega arith)

  tested : let n = count_in bs in (n ≤ m) × (width_in bs ≡ 8) × (length bs ≡ sheet_length n) × (lawful_from 0 (ranges_in n bs) ≡ true)
  tested = sheet_is m (count_in bs) bs given.0

  pub count_within : count_in bs ≤ m
  count_within = tested.0

  pub ranges_within : (lawful_from 0 rs ≡ true) × (length rs ≤ m)
  ranges_within =
      subst (λ (l : List Range). (lawful_from 0 l ≡ true) × (length l ≤ m)) given.1
      (tested.3, omega (arith, ranges_in_lem (count_in bs) bs, tested.0))

  module _ (h : (i : ℕ) → get_or bs i 0 < 256) where
    -- it is the sheet of what was read
    pub written_within : bs ≡ sheet_bytes rs
    written_within = sheet_of (count_in bs) bs h tested.2 refl tested.1 ∙ ap sheet_bytes given.1

    -- and that is lawful
    pub lawful_within : m ≤ limit → Lawful rs
    lawful_within k =
        let n = count_in bs in
        subst Lawful given.1
        (record {
          apart = lawful_from_lem 0 (ranges_in n bs) tested.3;
          small = lawful_small 0 (ranges_in n bs) tested.3 (ends_in n bs h tested.2);
          few = omega (arith, ranges_in_lem n bs, tested.0);
        })

module _ (bs : List ℕ) (h : (i : ℕ) → get_or bs i 0 < 256) {rs : List Range} (e : sheet_ranges bs ≡ gives rs) where
  -- every sheet that is read is the sheet of what was read
  pub sheet_written : bs ≡ sheet_bytes rs
  unfolding sheet_ranges
  sheet_written = written_within limit bs e h

  -- and that is lawful
  pub sheet_read_lawful : Lawful rs
  unfolding sheet_ranges
  sheet_read_lawful = lawful_within limit bs e h (omega arith)
