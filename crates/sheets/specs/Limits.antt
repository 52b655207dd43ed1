-- What the limit of ranges does to sheets, as a parameter: a sheet that one limit reads, every higher one reads as the same ranges,
-- and nothing but the count tells their answers apart. And so of the limit before today's. Its proof is `limits` in
-- proofs/LimitLaws.antt.
use Rattle.std.specs.Prelude.{true, List, ◌≡◌, ℕ, ◌^◌, ◌≤◌, ◌<◌, length, get_or}
use Rattle.section_bytes.specs.Read.{gives}
use Rattle.section_bytes.specs.Error.{refusal}
use Rattle.section_bytes.specs.declared.error.Error.TheVariants.{BadSheet}
use Rattle.coverage.specs.Ranges.{Range, limit}
use Rattle.coverage.specs.Kept.{ends, kept_as, lawful_from}
use Rattle.sheets.specs.Sheet.{sheet_bytes, sheet_kept, count_in, sheet_ranges_within, sheet_ranges}

-- how many ranges a sheet could have before
abbrev pub limit_before : ℕ
limit_before = 1024

abbrev pub Bytes : List ℕ → Type 0
Bytes bs = (i : ℕ) → get_or bs i 0 < 256

pub record Limits : Type 0 where
  -- the sheet of lawful ranges, no more than the limit, is read as these
  pub reads : (m : ℕ) (rs : List Range) → length rs ≤ m → length rs < 2 ^ 16 → lawful_from 0 rs ≡ true
      → ((i : ℕ) → get_or (ends rs) i 0 < 2 ^ 64) → sheet_ranges_within m (sheet_bytes rs) ≡ gives rs
  -- and nothing else is read: the ranges that bytes are read as are such ranges, and written again they are the same bytes
  pub lawful : (m : ℕ) (bs : List ℕ) {rs : List Range} → sheet_ranges_within m bs ≡ gives rs
      → (lawful_from 0 rs ≡ true) × (length rs ≤ m)
  pub again : (m : ℕ) (bs : List ℕ) {rs : List Range} → Bytes bs → sheet_ranges_within m bs ≡ gives rs → sheet_bytes rs ≡ bs
  -- what counts more than the limit is refused with 12
  pub refuses : (m : ℕ) (bs : List ℕ) → m < count_in bs → sheet_ranges_within m bs ≡ refusal BadSheet
  -- what one limit reads, every higher one reads as the same ranges
  pub stored : (m k : ℕ) (bs : List ℕ) {rs : List Range} → m ≤ k → sheet_ranges_within m bs ≡ gives rs
      → sheet_ranges_within k bs ≡ gives rs
  -- two limits answer differently only where the count lies above the lower and not above the higher
  pub differ : (m k : ℕ) (bs : List ℕ) → m ≤ k → (sheet_ranges_within m bs ≡ sheet_ranges_within k bs → ⊥)
      → (m < count_in bs) × (count_in bs ≤ k)
  -- today's limit
  pub today : (bs : List ℕ) → sheet_ranges bs ≡ sheet_ranges_within limit bs
  -- so a sheet that was read before is read as the same ranges, and the coverage that keeps them is written as the same bytes
  pub stored_before : (bs : List ℕ) {rs : List Range} → sheet_ranges_within limit_before bs ≡ gives rs → sheet_ranges bs ≡ gives rs
  pub again_before : (bs : List ℕ) {rs : List Range} → Bytes bs → sheet_ranges_within limit_before bs ≡ gives rs
      → sheet_kept (kept_as rs) ≡ gives bs
  -- what counts more was refused with 12, and only where it counts no more than today's limit may the answer be another
  pub refused_before : (bs : List ℕ) → limit_before < count_in bs → sheet_ranges_within limit_before bs ≡ refusal BadSheet
  pub differ_before : (bs : List ℕ) → (sheet_ranges_within limit_before bs ≡ sheet_ranges bs → ⊥)
      → (limit_before < count_in bs) × (count_in bs ≤ limit)
