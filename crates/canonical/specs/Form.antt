-- Canonical form: bytes that are the canonical list of some coverage. And how it is told piece by piece, from front to end.
use Rattle.std.specs.Prelude.{Bool, true, false, List, [], ◌∷◌, ◌++◌, ◌≡◌, ℕ, ◌^◌, ◌<◌, drop, get_or, Some, None}
use Rattle.std.specs.declared.option.Option.{Option}
use Rattle.section_bytes.specs.Read.{gives}
use Rattle.lists.specs.Walks.{InBounds}
use Rattle.coverage.specs.Ranges.{Range}
use Rattle.coverage.specs.declared.Coverage.{Coverage}
use Rattle.canonical.specs.Canonical.{entry_bytes, canonical_kept}
use Rattle.canonical.specs.declared.form.Piece.{Piece}
use Rattle.canonical.specs.declared.form.Piece.TheVariants.{End, Entry}

-- some coverage, of 64-bit numbers as every coverage is, whose canonical list the bytes are
pub record CanonicalForm (bytes : List ℕ) : Type 0 where
  pub coverage : Coverage
  pub numbers : (i : ℕ) → get_or coverage.ends i 0 < 2 ^ 64
  pub written : canonical_kept coverage ≡ gives bytes

-- a test that says whether something holds
abbrev pub Decides : Bool → Type 0 → Type 0
Decides true P = P
Decides false P = P → ⊥

-- bytes that are no end mark alone, and begin with no entry of a canonical list
pub record Neither (bytes : List ℕ) : Type 0 where
  pub mark : bytes ≡ 0 ∷ [] → ⊥
  pub entry : (r : Range) (rest : List ℕ) → InBounds 8 r.0 r.1 → bytes ≡ entry_bytes r ++ rest → ⊥

-- what stands at a place of bytes
abbrev pub PieceAt : List ℕ → ℕ → Option Piece → Type 0
PieceAt s at (Some End) = drop at s ≡ 0 ∷ []
PieceAt s at (Some (Entry b e c)) = InBounds 8 b e × (drop at s ≡ entry_bytes (b, e) ++ drop c s)
PieceAt s at None = Neither (drop at s)
