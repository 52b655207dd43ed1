-- `sections::yz_expression` meets its contract: by the contracts of the calls in it. Assumes nothing.
use native.Mathlib.Omega.{arith}
use Rattle.ffi_words.proofs.SectionLaws.{lies_in, lies_out}
use Rattle.ffi.proofs.sections.yz_expression.Goals as goal

pub returns-then-n-expression : goal.returns-then-n-expression
returns-then-n-expression c =
    let a = c.args in
    rw c.no_part.ensures (lies_out a.section.now a.expression (omega (arith, c.if-n-expression.true)))

pub returns-then-n-expression-2 : goal.returns-then-n-expression-2
returns-then-n-expression-2 c =
    let a = c.args in
    rw c.no_part-then-n-expression-2.ensures (lies_out a.section.now a.expression (omega (arith, c.if-n-expression-2.true, c.if-n-expression.false)))

pub returns : goal.returns
returns c =
    let a = c.args in
    lies_in a.section.now a.expression (omega (arith, c.if-n-expression-2.false, c.if-n-expression.false))
