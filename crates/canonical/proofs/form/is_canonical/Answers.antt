-- `form::is_canonical` meets its contract: what is left of the bytes decides as all of them do. Assumes nothing.
use native.Mathlib.Omega.{arith}
use Rattle.canonical.proofs.Forming.{forming_none, forming_end, forming_other, forming_many, forming_low, forming_step}
use Rattle.canonical.proofs.form.is_canonical.Goals.{then-n-gt0+else-begin-last, else-n-gt0}
use Rattle.canonical.proofs.form.is_canonical.Goals as goal

pub loop-n-init : goal.loop-n-init
loop-n-init c = forming_none _

pub returns-in-Some-End : goal.returns-in-Some-End
returns-in-Some-End c = forming_end c.loop-n.invariant c.loop-n-test.true (rw c.in-Some-End.field-0-is at c.in-Some-End.ensures)

pub returns-in-None : goal.returns-in-None
returns-in-None c = forming_other c.loop-n.invariant c.in-None.ensures

pub returns-then-begin-last : goal.returns-then-begin-last
returns-then-begin-last c =
    let p = rw c.in-Some-Entry.field-0-is at c.in-Some-Entry.ensures in
    forming_low c.loop-n.invariant c.in-Some-Entry.c p.0 p.1 c.if-n-gt0.true (omega (arith, c.if-begin-last.true))

pub overflow_add-n : goal.overflow_add-n
overflow_add-n c = omega (arith, c.loop-n-test.true)

pub loop-n-smaller : goal.loop-n-smaller
loop-n-smaller c = omega (arith, c.loop-n-test.true)

pub loop-n-preserved : goal.loop-n-preserved
loop-n-preserved c =
    let p = rw c.in-Some-Entry.field-0-is at c.in-Some-Entry.ensures in
    forming_step c.loop-n.invariant c.in-Some-Entry.c p.0 p.1 c.loop-n-test.true
    (elim c.if-n-gt0.branch [ then-n-gt0+else-begin-last w ↦ λ _. w.if-begin-last.false | else-n-gt0 w ↦ λ h. absurd (omega arith) ])

pub returns : goal.returns
returns c = forming_many c.loop-n.invariant c.loop-n-test.false
