-- `canonical::write` meets its contract: the bytes of the ranges left, over those that stand there now, are the same all along.
-- Assumes nothing.
use native.Mathlib.Omega.{arith}
use lib.ListN.{length-set}
use Rattle.canonical.proofs.Entries.{writing_start, writing_room, writing_here, writing_begin, writing_step, writing_end, over_proper, writing_small}
use Rattle.canonical.proofs.write.Goals as goal

pub loop-i-init : goal.loop-i-init
loop-i-init c = writing_start c.requires.arrays c.requires.ends_in_bounds

pub bounds-out-at : goal.bounds-out-at
bounds-out-at c = writing_here c.loop-i.invariant

pub overflow_sub-end : goal.overflow_sub-end
overflow_sub-end c =
    omega (arith, over_proper c.loop-i.invariant.over c.loop-i-test.true)

pub put_unsigned-at-requires : goal.put_unsigned-at-requires
put_unsigned-at-requires c =
    omega (arith, writing_room c.loop-i.invariant c.loop-i-test.true, simp length-set at c.put_u64.auto.out)

pub loop-i-preserved : goal.loop-i-preserved
loop-i-preserved c =
    let t = c.loop-i.invariant in
    writing_step t c.loop-i-test.true (writing_begin t c.loop-i-test.true c.put_u64.ensures)
    c.put_unsigned-at.ensures.0 c.put_unsigned-at.ensures.1

pub bounds-out-at-2 : goal.bounds-out-at-2
bounds-out-at-2 c = writing_here c.loop-i.invariant

pub overflow_add-result : goal.overflow_add-result
overflow_add-result c = omega (arith, writing_small c.loop-i.invariant)

pub shape_of-out : goal.shape_of-out
shape_of-out c = simp length-set c.loop-i.invariant.long

pub returns : goal.returns
returns c = let e = writing_end c.loop-i.invariant c.loop-i-test.false in record { value = e.0; out_after = e.1 }
