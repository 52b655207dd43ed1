-- A coverage's sheet, and reading it back (docs/SCOPE.md, "Sheet" and refusal 12).
use Rattle.std.specs.Prelude.{Bool, ◌&&◌, List, [], ◌∷◌, ◌++◌, ℕ, zero, suc, ◌+◌, ◌*◌, leb, eqb, length, take, drop}
use Rattle.section_bytes.specs.Read.{Result, gives, pick}
use Rattle.section_bytes.specs.Error.{refusal}
use Rattle.section_bytes.specs.Endianity.{little}
use Rattle.section_bytes.specs.declared.error.Error.TheVariants.{BadSheet}
use Rattle.coverage.specs.Ranges.{Range, limit}
use Rattle.coverage.specs.Kept.{paired, begins, ends, ranges_of, lawful_from, is_lawful}
use Rattle.section_bytes.specs.Written.{little_bytes}
use Rattle.coverage.specs.declared.Coverage.{Coverage}

-- addresses of a sheet, 8 bytes each
unfoldable pub address_bytes : List ℕ → List ℕ
address_bytes [] = []
address_bytes (a ∷ l) = little_bytes 8 a ++ address_bytes l

-- count and address width in two bytes each, all begins, all ends (docs/SCOPE.md, "Sheet")
unfoldable pub sheet_bytes : List Range → List ℕ
sheet_bytes rs = little_bytes 2 (length rs) ++ little_bytes 2 8 ++ address_bytes (begins rs) ++ address_bytes (ends rs)

-- the sheet of a coverage handed in; one that makes no lawful sheet is refused (docs/SCOPE.md, "Coverage")
unfoldable pub sheet_kept : Coverage → Result (List ℕ)
sheet_kept c = pick (is_lawful c) (gives (sheet_bytes (ranges_of c))) (refusal BadSheet)

-- n addresses from the front of bytes
unfoldable pub addresses_in : ℕ → List ℕ → List ℕ
addresses_in zero bs = []
addresses_in (suc n) bs = little (take 8 bs) ∷ addresses_in n (drop 8 bs)

-- the count and the address width that bytes begin with (docs/SCOPE.md, "Sheet")
abbrev pub count_in : List ℕ → ℕ
count_in bs = little (take 2 bs)

abbrev pub width_in : List ℕ → ℕ
width_in bs = little (take 2 (drop 2 bs))

-- the ranges of a sheet that counts n
abbrev pub ranges_in : ℕ → List ℕ → List Range
ranges_in n bs = paired (addresses_in n (drop 4 bs)) (addresses_in n (drop (4 + 8 * n) bs))

-- how many bytes the sheet of n ranges has (docs/SCOPE.md, refusal 12)
abbrev pub sheet_length : ℕ → ℕ
sheet_length n = 4 + 16 * n

-- whether bytes are a sheet that counts n, where at most m ranges are read: its count, width and length, and its ranges
-- (docs/SCOPE.md, refusal 12)
unfoldable pub is_sheet_within : ℕ → ℕ → List ℕ → Bool
is_sheet_within m n bs = leb n m && eqb (width_in bs) 8 && eqb (length bs) (sheet_length n) && lawful_from 0 (ranges_in n bs)

-- the ranges of a sheet, where at most m are read; what is no such sheet is refused
abbrev pub sheet_ranges_within : ℕ → List ℕ → Result (List Range)
sheet_ranges_within m bs = pick (is_sheet_within m (count_in bs) bs) (gives (ranges_in (count_in bs) bs)) (refusal BadSheet)

-- the ranges of a sheet; what is no sheet is refused (docs/SCOPE.md, refusal 12)
unfoldable pub sheet_ranges : List ℕ → Result (List Range)
sheet_ranges bs = sheet_ranges_within limit bs
