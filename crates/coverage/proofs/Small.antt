-- Ranges of 64-bit addresses.
use Rattle.std.proofs.Common.{ℕ, List, [], ◌∷◌}
use Rattle.lists.specs.Walks.{InBounds}
use Rattle.coverage.specs.Ranges.{Range}

-- each range of a list has a property of its begin and end
abbrev pub All : (ℕ → ℕ → Type 0) → List Range → Type 0
All P [] = Unit
All P (r ∷ rs) = P r.0 r.1 × All P rs

-- ranges of 64-bit addresses: begin below end and below 2^64 - 2, end at most 2^64 - 1
abbrev pub Small : List Range → Type 0
Small rs = All (InBounds 8) rs
