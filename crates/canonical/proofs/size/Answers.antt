-- `canonical::size` meets its contract: the bytes counted, with those of the ranges left, are all of them. Assumes nothing.
use native.Mathlib.Omega.{arith}
use Rattle.canonical.proofs.Entries.{counting_start, counting_step, counting_end, over_proper}
use Rattle.canonical.proofs.size.Goals as goal

pub loop-i-init : goal.loop-i-init
loop-i-init c = counting_start c.requires

pub overflow_sub-ends : goal.overflow_sub-ends
overflow_sub-ends c = omega (arith, over_proper c.loop-i.invariant.over c.loop-i-test.true)

pub overflow_add-at-in-loop-i : goal.overflow_add-at-in-loop-i
overflow_add-at-in-loop-i c =
    omega (arith, (counting_step c.loop-i.invariant c.loop-i-test.true c.unsigned_size.ensures).most)

pub loop-i-preserved : goal.loop-i-preserved
loop-i-preserved c =
    counting_step c.loop-i.invariant c.loop-i-test.true c.unsigned_size.ensures

pub returns : goal.returns
returns c = counting_end c.loop-i.invariant c.loop-i-test.false
