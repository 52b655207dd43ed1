-- What a higher limit of ranges does to lists: what was yielded stays, and no answer but refusal 10 becomes another. Its proof is
-- `raised` in proofs/RaisedLaws.antt.
use Rattle.std.specs.Prelude.{◌≡◌, ℕ, ◌≤◌, List, ◌≢◌}
use Rattle.section_bytes.specs.Read.{Result, gives, and_then}
use Rattle.section_bytes.specs.Error.{refusal}
use Rattle.section_bytes.specs.declared.error.Error.TheVariants.{TooManyRanges}
use Rattle.coverage.specs.Ranges.{Range, limit}
use Rattle.coverage.specs.Covered.{Source, opening, trace_of, yielded_in, yielded_of}

-- the ranges that a list yields where it may yield m
abbrev pub yielded_within : ℕ → Source → Result (List Range)
yielded_within m x = and_then (opening x) (λ w. yielded_in m (trace_of x w))

pub record Raised : Type 0 where
  -- today's limit
  pub today : (x : Source) → yielded_of x ≡ yielded_within limit x
  -- what a list yields with one limit it yields with every higher one
  pub stays : (m k : ℕ) (x : Source) {rs : List Range} → m ≤ k → yielded_within m x ≡ gives rs → yielded_within k x ≡ gives rs
  -- where two limits answer differently, the lower gives 10
  pub differ : (m k : ℕ) (x : Source) → m ≤ k → (yielded_within m x ≢ yielded_within k x) → yielded_within m x ≡ refusal TooManyRanges
