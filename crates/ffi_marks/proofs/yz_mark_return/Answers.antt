-- `yz_mark_return` meets its contract: by the tests of the number and of the mark. Assumes nothing.
use borrow.Author.Tests.{le-ltb, lt-ltb, eq-eqb, ne_eqb}
use native.Mathlib.Omega.{arith}
use Rattle.ffi_marks.proofs.yz_mark_return.Goals as goal

pub returns-then-number-gt7 : goal.returns-then-number-gt7
returns-then-number-gt7 c = let a = c.args in simp (c.refused.ensures, le-ltb a.number 8 c.if-number-gt7.true)

pub returns-then-mark-eq0 : goal.returns-then-mark-eq0
returns-then-mark-eq0 c = simp (c.refused-then-mark-eq0.ensures, lt-ltb c.args.number 8 (omega (arith, c.if-number-gt7.false)), eq-eqb _ _ c.if-mark-eq0.true)

pub returns : goal.returns
returns c = simp (c.comes_to.ensures, lt-ltb c.args.number 8 (omega (arith, c.if-number-gt7.false)), ne_eqb _ _ c.if-mark-eq0.false)
