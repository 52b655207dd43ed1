-- `lawful::ranges_lawful` meets its contract: the ranges from the one at hand on, with the end before it, decide as all of
-- them do. Assumes nothing.
use Rattle.std.proofs.Common.{arith}
use Rattle.coverage.proofs.Checked.{checked_start, checked_step, checked_low, checked_empty, checked_high, checked_end}
use Rattle.coverage.proofs.lawful.ranges_lawful.Goals as goal
use Rattle.coverage.proofs.lawful.ranges_lawful.Goals.{then-i-gt0+else-begin-last, else-i-gt0}

pub loop-i-init : goal.loop-i-init
loop-i-init c = let p = c.requires in checked_start p.0 p.1 p.2

pub returns-then-begin-last : goal.returns-then-begin-last
returns-then-begin-last c =
    checked_low c.loop-i.invariant c.loop-i-test.true c.if-i-gt0.true c.if-begin-last.true

pub returns-then-end-begin : goal.returns-then-end-begin
returns-then-end-begin c =
    checked_empty c.loop-i.invariant c.loop-i-test.true c.if-end-begin.true

pub returns-then-bound-begin : goal.returns-then-bound-begin
returns-then-bound-begin c =
    checked_high c.loop-i.invariant c.loop-i-test.true (omega (arith, c.if-bound-begin.true, c.min_tombstone-bound.ensures))

pub loop-i-preserved : goal.loop-i-preserved
loop-i-preserved c =
    checked_step c.loop-i.invariant c.loop-i-test.true
    (λ p. elim c.if-i-gt0.branch [ then-i-gt0+else-begin-last w ↦ w.if-begin-last.false | else-i-gt0 w ↦ absurd (omega arith) ])
    c.if-end-begin.false (omega (arith, c.if-bound-begin.false, c.min_tombstone-bound.ensures))

pub returns : goal.returns
returns c = checked_end c.loop-i.invariant c.loop-i-test.false
