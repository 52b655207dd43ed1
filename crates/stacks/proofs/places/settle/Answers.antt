-- A place that waits, and whose address is below the end, is given the range. Assumes nothing.
use native.Mathlib.Omega.{arith}
use Rattle.stacks.proofs.PlaceLaws.{above_met}
use Rattle.stacks.proofs.SettleLaws.{settled_one}
use Rattle.stacks.proofs.places.settle.Goals as goal

pub loop-to-preserved-then-to-i : goal.loop-to-preserved-then-to-i
loop-to-preserved-then-to-i c =
    let z = above_met _ _ _ c.above.ensures (omega arith) c.loop-to-test.true in
    settled_one _ _ _ _ _ _ _ c.loop-to.invariant z.0 c.requires.1 z.1 c.if-to-i.true
