-- The answers of the calls over coverages, told by the numbers of refusals.
use Rattle.std.specs.Prelude.{ℕ, ◌&&◌, List, [], ◌++◌, length, drop, nat_le, Ok, Err}
use Rattle.std.specs.declared.result.Result.{Result as Told}
use Rattle.section_bytes.specs.Read.{Result, gives, refused, pick}
use Rattle.section_bytes.specs.Error.{refusal}
use Rattle.section_bytes.specs.declared.error.Error.{Error}
use Rattle.section_bytes.specs.declared.error.Error.TheVariants.{NoSpace}
use Rattle.coverage.specs.Ranges.{Range}
use Rattle.coverage.specs.Kept.{begins, ends, kept_as}
use Rattle.coverage.specs.declared.Coverage.{Coverage}

-- a verdict and the coverage beside it
pub record Answer : Type 0 where
  pub verdict : Result Unit
  pub coverage : Coverage

abbrev pub answer : Result Unit → Coverage → Answer
answer v c = record { verdict = v; coverage = c }

-- a coverage of the code; in place of a refused one stands the empty one
abbrev pub told_made : Told Coverage Error → Answer
told_made (Ok c) = answer (gives tt) c
told_made (Err e) = answer (refusal e) (kept_as [])

-- the coverage that keeps the ranges given; where they are refused, the empty one
abbrev pub made : Result (List Range) → Answer
made (gives rs) = answer (gives tt) (kept_as rs)
made (refused n vs) = answer (refused n vs) (kept_as [])

-- how many ranges a coverage has, or a refusal, and what is left in the two arrays that a caller lends for begins and ends
pub record Placed : Type 0 where
  pub answer : Result ℕ
  pub begins : List ℕ
  pub ends : List ℕ

abbrev pub placed : Result ℕ → List ℕ → List ℕ → Placed
placed r bs es = record { answer = r; begins = bs; ends = es }

-- the coverage that keeps the ranges given, put into lent arrays, 0 past the count; where they are refused, these are as they were
abbrev pub placing : Result (List Range) → List ℕ → List ℕ → Placed
placing (gives rs) bs es = placed (gives (length rs)) (kept_as rs).begins (kept_as rs).ends
placing (refused n vs) bs es = placed (refused n vs) bs es

-- the ranges given, put at the front of two slices that a caller lends; refusal 11 comes last, and refused calls write nothing
-- (docs/SCOPE.md, "Refusals")
unfoldable pub putting : Result (List Range) → List ℕ → List ℕ → Placed
putting (refused n vs) bs es = placed (refused n vs) bs es
putting (gives rs) bs es =
    pick (nat_le (length rs) (length bs) && nat_le (length rs) (length es))
    (placed (gives (length rs)) (begins rs ++ drop (length rs) bs) (ends rs ++ drop (length rs) es))
    (placed (refusal NoSpace) bs es)
