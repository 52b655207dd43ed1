-- What the arrays of a coverage that makes a lawful sheet satisfy.
use Rattle.std.specs.Prelude.{List, ℕ, ◌≤◌, length}
use Rattle.coverage.specs.Ranges.{Apart, limit}
use Rattle.coverage.specs.Kept.{firsts}
use Rattle.coverage.specs.Sorted.{Sized}

-- the first n ranges keep apart, and there are n
pub record Arrays (n : ℕ) (bs es : List ℕ) : Type 0 where
  pub few : n ≤ limit
  pub room : n ≤ length bs
  pub sized : Sized (length bs) bs es
  pub apart : Apart (firsts n bs es)
