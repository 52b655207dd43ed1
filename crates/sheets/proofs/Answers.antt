-- The answers of the two calls over sheets, case by case. Assumes nothing.
use mathlib.Core.Path.{◌≡◌, sym, ap, ap₂, ◌∙◌}
use mathlib.Core.Bool.{Bool, true, false, ◌&&◌, and-false}
use mathlib.Core.Logic.{⊎_elim}
use mathlib.Core.List.{List}
use Prim.Native.Nat.{ℕ, ◌+◌, ◌*◌, ◌≤◌, ◌<◌}
use native.Mathlib.Omega.{arith}
use lib.Dec.{leb, eqb}
use lib.ListN.{length, drop}
use lib.Seq.{sets}
use borrow.Author.Tests.{le-leb, lt-leb, eq-eqb, ne_eqb}
use Rattle.section_bytes.specs.Read.{Result, gives}
use Rattle.section_bytes.specs.Error.{number, values, refusal}
use Rattle.section_bytes.specs.declared.error.Error.{Error}
use Rattle.section_bytes.specs.declared.error.Error.TheVariants.{NoSpace, BadSheet}
use Rattle.coverage.specs.Ranges.{Range, limit}
use Rattle.coverage.specs.Kept.{paired, firsts, padded, lawful_from, is_lawful}
use Rattle.coverage.specs.Sorted.{AtLeast}
use Rattle.sheets.specs.Sheet.{sheet_bytes, sheet_kept, addresses_in, count_in, width_in, ranges_in, is_sheet_within, sheet_ranges, sheet_length}
use Rattle.coverage.specs.Output.{output, written}
use Rattle.coverage.specs.Told.{placed, placing}
use Rattle.coverage.specs.declared.Coverage.{Coverage}
use Rattle.coverage.proofs.Checked.{lawful_few}
use Rattle.coverage.proofs.KeptLaws.{ranges_are, kept_paired}
use Rattle.coverage.proofs.OutputLaws.{written_refused, written_short, all_written}
use Rattle.sheets.proofs.SheetLaws.{sheet_kept_lem, no_sheet_kept, length_in, ranges_in_lem}
use Rattle.sheets.specs.Judged.{Refuses}
use Rattle.sheets.proofs.Putting.{sheet_length_lem}

-- what the sheet call writes is the sheet of the coverage handed in, or it is refused
module _ (c : Coverage) (l : List ℕ) where
  sheet_refused : is_lawful c ≡ false → output (refusal BadSheet) l ≡ written (sheet_kept c) l
  sheet_refused e = rw (no_sheet_kept c e) (sym (written_refused (number BadSheet) (values BadSheet) l))

  -- a lawful coverage counts no more than there are places
  module _ (long : (length c.begins ≡ limit) × (length c.ends ≡ limit)) where
    module _ (law : is_lawful c ≡ true) where
      pub sheet_all : AtLeast c.n c.begins c.ends
      sheet_all = let h = lawful_few c law in (omega arith, omega arith)

      sheet_short : length l < sheet_length c.n → output (refusal NoSpace) l ≡ written (sheet_kept c) l
      sheet_short h =
          let e = sheet_length_lem c.begins c.ends c.n sheet_all in
          rw (sheet_kept_lem c law, ranges_are c) (sym (written_short (sheet_bytes (firsts c.n c.begins c.ends)) l (omega arith)))

      pub sheet_written : {m : List ℕ} → sheet_length c.n ≤ length l → m ≡ sets l 0 (sheet_bytes (firsts c.n c.begins c.ends))
          → output (gives (sheet_length c.n)) m ≡ written (sheet_kept c) l
      sheet_written h q =
          let e = sheet_length_lem c.begins c.ends c.n sheet_all in
          rw (sheet_kept_lem c law, ranges_are c) (all_written (sheet_bytes (firsts c.n c.begins c.ends)) l (sym e) h q)

    pub sheet_lost : {b : Bool} (e : Error) → b ≡ is_lawful c → Refuses b c.n (length l) e → output (refusal e) l ≡ written (sheet_kept c) l
    sheet_lost e q =
        ⊎_elim
        (λ p. rw p.0 (sheet_refused (sym q ∙ p.1)))
        (λ p. rw p.0 (sheet_short (sym q ∙ p.1) p.2))

-- what is no sheet is refused
module _ (s : List ℕ) where
  refused_by : is_sheet_within limit (count_in s) s ≡ false → refusal BadSheet ≡ sheet_ranges s
  unfolding sheet_ranges
  refused_by e = rw e

  pub no_head : length s < 4 → refusal BadSheet ≡ sheet_ranges s
  unfolding is_sheet_within
  no_head h =
      refused_by
      (rw (ne_eqb (length s) (sheet_length (count_in s)) (λ e. omega arith), and-false (leb (count_in s) limit && eqb (width_in s) 8)))

  pub other_width : {w : ℕ} → w ≡ width_in s → (w ≡ 8 → ⊥) → refusal BadSheet ≡ sheet_ranges s
  unfolding is_sheet_within
  other_width width h = refused_by (rw (ne_eqb (width_in s) 8 (λ e. h (width ∙ e)), and-false (leb (count_in s) limit)))

  module _ {n : ℕ} (count : n ≡ count_in s) where
    pub too_many : limit < n → refusal BadSheet ≡ sheet_ranges s
    unfolding is_sheet_within
    too_many h = let k : limit < count_in s = omega arith in refused_by (rw (lt-leb (count_in s) limit k))

    pub other_length : (length s ≡ sheet_length n → ⊥) → refusal BadSheet ≡ sheet_ranges s
    unfolding is_sheet_within
    other_length h =
        let k : length s ≡ sheet_length (count_in s) → ⊥ = λ e. h (rw count e) in
        refused_by (rw (ne_eqb (length s) (sheet_length (count_in s)) k, and-false (leb (count_in s) limit && eqb (width_in s) 8)))

-- bytes with a sheet's head and length
pub record Headed (s : List ℕ) (n : ℕ) : Type 0 where
  pub count : n ≡ count_in s
  pub few : n ≤ limit
  pub wide : width_in s ≡ 8
  pub long : length s ≡ sheet_length n

-- their ranges decide
module _ {s : List ℕ} {n : ℕ} (t : Headed s n) where
  decides : is_sheet_within limit (count_in s) s ≡ lawful_from 0 (ranges_in n s)
  unfolding is_sheet_within
  decides =
      let k : count_in s ≤ limit = omega (arith, t.count, t.few) in
      let l : length s ≡ sheet_length (count_in s) = t.long ∙ ap sheet_length t.count in
      rw (le-leb (count_in s) limit k, eq-eqb (width_in s) 8 t.wide, eq-eqb (length s) (sheet_length (count_in s)) l)
      (ap (λ (m : ℕ). lawful_from 0 (ranges_in m s)) (sym t.count))

  pub not_lawful : lawful_from 0 (ranges_in n s) ≡ false → refusal BadSheet ≡ sheet_ranges s
  not_lawful h = refused_by s (decides ∙ h)

  sheet_read : lawful_from 0 (ranges_in n s) ≡ true → gives (ranges_in n s) ≡ sheet_ranges s
  unfolding sheet_ranges
  sheet_read h = rw (decides ∙ h) (ap (λ (m : ℕ). gives (ranges_in m s)) t.count)

-- the arrays are then as they were
pub not_placed : (bs es : List ℕ) {c : Result (List Range)} → refusal BadSheet ≡ c
    → placed (refusal BadSheet) bs es ≡ placing c bs es
not_placed bs es e = ap (λ (r : Result (List Range)). placing r bs es) e

-- or they keep the sheet's ranges: its addresses at their front, and 0 past them
module _ {s : List ℕ} {n : ℕ} (t : Headed s n) (law : lawful_from 0 (ranges_in n s) ≡ true) (bs es : List ℕ) where
  pub placed_sheet : {xs ys : List ℕ} → xs ≡ padded (addresses_in n (drop 4 s)) → ys ≡ padded (addresses_in n (drop (4 + 8 * n) s))
      → placed (gives n) xs ys ≡ placing (sheet_ranges s) bs es
  placed_sheet {xs} {ys} p q =
      let b = addresses_in n (drop 4 s) in
      let e = addresses_in n (drop (4 + 8 * n) s) in
      let m : length b ≡ length e = length_in n (drop 4 s) ∙ sym (length_in n (drop (4 + 8 * n) s)) in
      ap (λ (z : ℕ). placed (gives z) xs ys) (sym (ranges_in_lem n s))
      ∙ ap₂ (placed (gives (length (paired b e))))
      (p ∙ ap (λ (c : Coverage). c.begins) (kept_paired b e m)) (q ∙ ap (λ (c : Coverage). c.ends) (kept_paired b e m))
      ∙ ap (λ (r : Result (List Range)). placing r bs es) (sheet_read t law)
