-- The canonical list of a coverage (docs/SCOPE.md, "Canonical list").
use Rattle.std.specs.Prelude.{List, [], ◌∷◌, ◌++◌, ℕ, ◌-◌}
use Rattle.section_bytes.specs.Read.{Result, gives, and_then, pick}
use Rattle.section_bytes.specs.Error.{refusal}
use Rattle.section_bytes.specs.declared.error.Error.TheVariants.{BadSheet}
use Rattle.coverage.specs.Ranges.{Range}
use Rattle.coverage.specs.Covered.{Source, coverage_of}
use Rattle.coverage.specs.Kept.{ranges_of, is_lawful}
use Rattle.section_bytes.specs.Written.{little_bytes, unsigned_bytes}
use Rattle.coverage.specs.declared.Coverage.{Coverage}

-- a range's entry of kind 7: its begin in 8 bytes, its length in shortest form
unfoldable pub entry_bytes : Range → List ℕ
entry_bytes r = 7 ∷ (little_bytes 8 r.0 ++ unsigned_bytes (r.1 - r.0))

-- an entry for each range, in order, then 00 (docs/SCOPE.md, "Canonical list")
unfoldable pub canonical_bytes : List Range → List ℕ
canonical_bytes [] = 0 ∷ []
canonical_bytes (r ∷ rs) = entry_bytes r ++ canonical_bytes rs

-- the canonical list of a list, or its refusal
unfoldable pub canonical_of : Source → Result (List ℕ)
canonical_of x = and_then (coverage_of x) (λ rs. gives (canonical_bytes rs))

-- the canonical list of a coverage handed in; one that makes no lawful sheet is refused (docs/SCOPE.md, "Coverage")
unfoldable pub canonical_kept : Coverage → Result (List ℕ)
canonical_kept c = pick (is_lawful c) (gives (canonical_bytes (ranges_of c))) (refusal BadSheet)
