-- The ranges of a sheet tested one by one where they stand: what is left decides as all of them do. Assumes nothing.
use mathlib.Core.Path.{◌≡◌, refl, sym, ap, ◌∙◌}
use mathlib.Core.Bool.{true, false}
use mathlib.Core.List.{List}
use Prim.Native.Nat.{ℕ, zero, suc, ◌+◌, ◌*◌, ◌≤◌, ◌<◌}
use native.Mathlib.Omega.{arith}
use lib.ListN.{take, drop, get_or}
use lib.Seq.{take_all, drop-drop}
use Rattle.section_bytes.specs.Address.{min_tombstone}
use Rattle.section_bytes.specs.Endianity.{little}
use Rattle.coverage.specs.Kept.{firsts, lawful_from}
use Rattle.coverage.proofs.Checked.{Checked, checked_start, checked_step, checked_low, checked_empty, checked_high, checked_end}
use Rattle.sheets.specs.Sheet.{addresses_in, ranges_in}
use Rattle.sheets.proofs.SheetLaws.{length_in, ranges_in_lem}

-- the address at a place of those read
address_in : (n : ℕ) (s : List ℕ) (i : ℕ) → i < n → get_or (addresses_in n s) i 0 ≡ little (take 8 (drop (8 * i) s))
unfolding addresses_in
address_in zero s i h = absurd (omega arith)
address_in (suc n) s zero h = refl
address_in (suc n) s (suc i) h =
    let e : 8 + 8 * i ≡ 8 * suc i = omega arith in
    address_in n (drop 8 s) i (omega arith)
    ∙ ap (λ (l : List ℕ). little (take 8 l)) (drop-drop (8 * i) 8 s ∙ ap (λ (m : ℕ). drop m s) e)

abbrev begins_in : ℕ → List ℕ → List ℕ
begins_in n s = addresses_in n (drop 4 s)

abbrev ends_in : ℕ → List ℕ → List ℕ
ends_in n s = addresses_in n (drop (4 + 8 * n) s)

abbrev pub Tested : List ℕ → ℕ → ℕ → ℕ → Type 0
Tested s n i last = Checked (begins_in n s) (ends_in n s) n i last

all_in : (s : List ℕ) (n : ℕ) → firsts n (begins_in n s) (ends_in n s) ≡ ranges_in n s
all_in s n = take_all n (ranges_in n s) (omega (arith, ranges_in_lem n s))

pub tested_start : (s : List ℕ) (n : ℕ) → Tested s n 0 0
tested_start s n = let h : n ≤ n = omega arith in checked_start h (length_in n (drop 4 s)) (length_in n (drop (4 + 8 * n) s))

module _ (s : List ℕ) {n i last : ℕ} (t : Tested s n i last) where
  pub tested_end : n ≤ i → true ≡ lawful_from 0 (ranges_in n s)
  tested_end h = checked_end t h ∙ ap (lawful_from 0) (all_in s n)

  -- the range at hand
  module _ {b e : ℕ} (w : i < n) (p : b ≡ little (take 8 (drop (4 + 8 * i) s)))
      (q : e ≡ little (take 8 (drop (4 + 8 * n + 8 * i) s))) where
    begin_is : b ≡ get_or (begins_in n s) i 0
    begin_is = p ∙ ap (λ (l : List ℕ). little (take 8 l)) (sym (drop-drop (8 * i) 4 s)) ∙ sym (address_in n (drop 4 s) i w)

    end_is : e ≡ get_or (ends_in n s) i 0
    end_is =
        q ∙ ap (λ (l : List ℕ). little (take 8 l)) (sym (drop-drop (8 * i) (4 + 8 * n) s))
        ∙ sym (address_in n (drop (4 + 8 * n) s) i w)

    pub tested_step : (0 < i → last < b) → b < e → b < min_tombstone 8 → Tested s n (i + 1) e
    tested_step a h k =
        rw end_is
        (checked_step t w (λ z. omega (arith, begin_is, a z)) (omega (arith, begin_is, end_is, h)) (omega (arith, begin_is, k)))

    pub tested_low : 0 < i → b ≤ last → false ≡ lawful_from 0 (ranges_in n s)
    tested_low z h = checked_low t w z (omega (arith, begin_is, h)) ∙ ap (lawful_from 0) (all_in s n)

    pub tested_empty : e ≤ b → false ≡ lawful_from 0 (ranges_in n s)
    tested_empty h = checked_empty t w (omega (arith, begin_is, end_is, h)) ∙ ap (lawful_from 0) (all_in s n)

    pub tested_high : min_tombstone 8 ≤ b → false ≡ lawful_from 0 (ranges_in n s)
    tested_high h = checked_high t w (omega (arith, begin_is, h)) ∙ ap (lawful_from 0) (all_in s n)
