-- The ranges from the one at hand on, with the end before it, decide as all of them do. Assumes nothing.
use native.Mathlib.Omega.{arith}
use Rattle.sheets.proofs.Tested.{tested_start, tested_step, tested_low, tested_empty, tested_high, tested_end}
use Rattle.sheets.proofs.lawful_in.Goals.{then-i-gt0+else-begin-last, else-i-gt0}
use Rattle.sheets.proofs.lawful_in.Goals as goal

pub loop-i-init : goal.loop-i-init
loop-i-init c = let a = c.args in tested_start a.bytes.now a.n

pub returns-then-begin-last : goal.returns-then-begin-last
returns-then-begin-last c =
    tested_low c.args.bytes.now c.loop-i.invariant c.loop-i-test.true
    c.address-begin.ensures c.address-end.ensures c.if-i-gt0.true c.if-begin-last.true

pub returns-then-end-begin : goal.returns-then-end-begin
returns-then-end-begin c =
    tested_empty c.args.bytes.now c.loop-i.invariant c.loop-i-test.true
    c.address-begin.ensures c.address-end.ensures c.if-end-begin.true

pub returns-then-bound-begin : goal.returns-then-bound-begin
returns-then-bound-begin c =
    tested_high c.args.bytes.now c.loop-i.invariant c.loop-i-test.true
    c.address-begin.ensures c.address-end.ensures (omega (arith, c.if-bound-begin.true, c.min_tombstone-bound.ensures))

pub loop-i-preserved : goal.loop-i-preserved
loop-i-preserved c =
    tested_step c.args.bytes.now c.loop-i.invariant c.loop-i-test.true
    c.address-begin.ensures c.address-end.ensures
    (elim c.if-i-gt0.branch [ then-i-gt0+else-begin-last w ↦ λ _. w.if-begin-last.false | else-i-gt0 w ↦ λ h. absurd (omega arith) ]) c.if-end-begin.false
    (omega (arith, c.if-bound-begin.false, c.min_tombstone-bound.ensures))

pub returns : goal.returns
returns c = tested_end c.args.bytes.now c.loop-i.invariant c.loop-i-test.false
