-- `lawful::is_lawful` meets its contract: too many ranges are refused at once, and else the ranges decide. Assumes nothing.
use Rattle.std.proofs.Common.{sym, ◌∙◌}
use Rattle.coverage.proofs.KeptLaws.{sheet_many, sheet_test}
use Rattle.coverage.specs.Kept.{counted, ranges_of}
use Rattle.coverage.proofs.lawful.is_lawful.Goals as goal

pub returns-then-n-gt-LIMIT : goal.returns-then-n-gt-LIMIT
returns-then-n-gt-LIMIT c = let a = c.args in sym (sheet_many (counted a.n a.begins.now a.ends.now) c.if-n-gt-LIMIT.true)

pub returns : goal.returns
unfolding ranges_of
returns c =
    let a = c.args in
    c.ranges_lawful.ensures ∙ sym (sheet_test (counted a.n a.begins.now a.ends.now) c.if-n-gt-LIMIT.false)
