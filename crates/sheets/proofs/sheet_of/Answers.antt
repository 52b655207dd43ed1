-- `sheets::sheet_of` meets its contract: the coverage and the room for its sheet are judged, and the sheet is then written.
-- Assumes nothing.
use mathlib.Core.Path.{sym, ap, ◌∙◌}
use native.Mathlib.Omega.{arith}
use Rattle.section_bytes.specs.Error.{told_value}
use Rattle.section_bytes.proofs.ReaderLaws.{is_refusal}
use Rattle.coverage.specs.Kept.{counted}
use Rattle.coverage.specs.Output.{output}
use Rattle.sheets.proofs.Answers.{sheet_all, sheet_written, sheet_lost}
use Rattle.sheets.proofs.sheet_of.Goals as goal

pub returns-in_err-judge : goal.returns-in_err-judge
returns-in_err-judge c =
    let a = c.args in
    ap (λ r. output (told_value r) a.out.now) (is_refusal _ _ c.from_residual.ensures.1)
    ∙ sheet_lost (counted a.n a.begins.now a.ends.now) a.out.now (omega arith, omega arith) _ c.is_lawful.ensures c.in_err-judge.ensures

pub write-requires : goal.write-requires
write-requires c =
    let a = c.args in
    let j = c.in_ok-judge.ensures in
    (sheet_all (counted a.n a.begins.now a.ends.now) a.out.now (omega arith, omega arith) (sym c.is_lawful.ensures ∙ j.0), j.1)

pub returns : goal.returns
returns c =
    let a = c.args in
    let j = c.in_ok-judge.ensures in
    sheet_written (counted a.n a.begins.now a.ends.now) a.out.now (omega arith, omega arith) (sym c.is_lawful.ensures ∙ j.0) j.1 c.write.ensures
