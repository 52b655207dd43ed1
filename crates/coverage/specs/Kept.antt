-- How a coverage is kept: a count and two arrays, and which of them make a lawful sheet.
use Rattle.std.specs.Prelude.{ℕ, suc, ◌-◌, Bool, true, ◌&&◌, List, [], ◌∷◌, ◌++◌, map, length, take, replicate, nat_le, nat_lt}
use Rattle.section_bytes.specs.Address.{min_tombstone}
use Rattle.coverage.specs.Ranges.{Range, limit}
use Rattle.coverage.specs.declared.Coverage.{Coverage}

-- ranges from their begins and ends
abbrev pub paired : List ℕ → List ℕ → List Range
paired [] es = []
paired (b ∷ bs) [] = []
paired (b ∷ bs) (e ∷ es) = (b, e) ∷ paired bs es

-- the begins and the ends of ranges, in order
abbrev pub begins : List Range → List ℕ
begins rs = map (λ (r : Range). r.0) rs

abbrev pub ends : List Range → List ℕ
ends rs = map (λ (r : Range). r.1) rs

-- the first n ranges of begins and ends
abbrev pub firsts : ℕ → List ℕ → List ℕ → List Range
firsts n bs es = take n (paired bs es)

-- a coverage from its count and its two arrays
abbrev pub counted : ℕ → List ℕ → List ℕ → Coverage
counted n bs es = record { n = n; begins = bs; ends = es }

-- the ranges of a coverage: as many as it counts; places past the count are not read (docs/SCOPE.md, "Coverage")
unfoldable pub ranges_of : Coverage → List Range
ranges_of c = firsts c.n c.begins c.ends

-- numbers, and 0 at the places past them
unfoldable pub padded : List ℕ → List ℕ
padded l = l ++ replicate (limit - length l) 0

-- the coverage that keeps ranges: their count, begins and ends, 0 past the count (docs/SCOPE.md, "Coverage")
unfoldable pub kept_as : List Range → Coverage
kept_as rs = counted (length rs) (padded (begins rs)) (padded (ends rs))

-- whether the first begin is at least lo and each later one above the end before, and each is below its end and below
-- the tombstone bound of 64 bits (docs/SCOPE.md, refusal 12)
unfoldable pub lawful_from : ℕ → List Range → Bool
lawful_from lo [] = true
lawful_from lo (r ∷ rs) = nat_le lo r.0 && nat_lt r.0 r.1 && nat_lt r.0 (min_tombstone 8) && lawful_from (suc r.1) rs

-- whether a coverage makes a lawful sheet (docs/SCOPE.md, "Coverage" and refusal 12)
unfoldable pub is_lawful : Coverage → Bool
is_lawful c = nat_le c.n limit && lawful_from 0 (ranges_of c)
