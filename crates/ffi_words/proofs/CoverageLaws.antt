-- Answers over coverages, from those of the calls below. Assumes nothing.
use mathlib.Core.List.{List}
use mathlib.Core.Path.{◌≡◌, ap, ◌∙◌}
use Prim.Native.Nat.{ℕ}
use Rattle.section_bytes.specs.Read.{Result}
use Rattle.coverage.specs.Output.{Output, output}
use Rattle.coverage.specs.Told.{Placed, placed}
use Rattle.ffi_words.specs.Common.{left}
use Rattle.ffi_words.specs.Coverages.{handed, count_written, output_left, placed_told}
use Rattle.ffi_words.specs.declared.coverages.YzCount.{YzCount}

-- an output written
pub output_left_lem : (r : Result ℕ) {out : List ℕ} {a : YzCount} {o : Output}
    → a ≡ count_written r → output r out ≡ o → left a out ≡ output_left o
output_left_lem r {out = out} e h = ap (λ (a : YzCount). left a out) e ∙ ap output_left h

-- a coverage put into lent arrays
pub placed_told_lem : (r : Result ℕ) {bs es : List ℕ} {a : YzCount} {p : Placed}
    → a ≡ count_written r → placed r bs es ≡ p → handed a bs es ≡ placed_told p
placed_told_lem r {bs = bs} {es = es} e h = ap (λ (a : YzCount). handed a bs es) e ∙ ap placed_told h
