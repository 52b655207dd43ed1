-- Coverages in two lent arrays, and calls that write into lent bytes.
use Rattle.std.specs.Prelude.{ℕ, List}
use Rattle.section_bytes.specs.Read.{Result, gives, refused}
use Rattle.coverage.specs.Output.{Output}
use Rattle.coverage.specs.Told.{Placed}
use Rattle.ffi_words.specs.Common.{done, refused_by, Left, left}
use Rattle.ffi_words.specs.declared.common.YzDone.{YzDone}
use Rattle.ffi_words.specs.declared.coverages.YzCount.{YzCount}

abbrev pub count : YzDone → ℕ → YzCount
count d n = record { done = d; count = n }

abbrev pub no_count : YzDone → YzCount
no_count d = count d 0

-- an answer, and what the call leaves in the two arrays that a caller lends for begins and ends
pub record Handed : Type 0 where
  pub answer : YzCount
  pub begins : List ℕ
  pub ends : List ℕ

abbrev pub handed : YzCount → List ℕ → List ℕ → Handed
handed a bs es = record { answer = a; begins = bs; ends = es }

-- how many ranges or bytes were written, and the output then
abbrev pub count_written : Result ℕ → YzCount
count_written (gives n) = count done n
count_written (refused n vs) = no_count (refused_by n vs)

abbrev pub output_left : Output → Left YzCount
output_left o = left (count_written o.answer) o.out

-- a coverage put into the two arrays that a caller lends
abbrev pub placed_told : Placed → Handed
placed_told p = handed (count_written p.answer) p.begins p.ends
