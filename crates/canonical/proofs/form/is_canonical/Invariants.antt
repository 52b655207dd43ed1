use Prim.Native.Nat.{◌-◌, suc}
use Rattle.coverage.specs.Ranges.{limit}
use Rattle.canonical.proofs.Forming.{Forming}
use Rattle.canonical.proofs.form.is_canonical.Given as goal

abbrev pub invariant-loop-n : goal.invariant-loop-n
invariant-loop-n l = Forming l.bytes l.at l.n l.last

abbrev pub decreases-loop-n : goal.decreases-loop-n
decreases-loop-n l = suc limit - l.n
