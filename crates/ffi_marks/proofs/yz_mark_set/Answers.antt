-- `yz_mark_set` meets its contract: by the test of the number. Assumes nothing.
use borrow.Author.Tests.{lt-ltb, le-ltb}
use Rattle.ffi_marks.proofs.yz_mark_set.Goals as goal

pub returns-then-number-lt8 : goal.returns-then-number-lt8
returns-then-number-lt8 c = simp (c.comes_to.ensures, lt-ltb _ _ c.if-number-lt8.true)

pub returns : goal.returns
returns c = simp (c.refused.ensures, le-ltb _ _ c.if-number-lt8.false)
