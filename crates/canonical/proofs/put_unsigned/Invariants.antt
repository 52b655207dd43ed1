use Rattle.canonical.proofs.Unsigned.{Left}
use Rattle.canonical.proofs.put_unsigned.Given as goal

abbrev pub invariant-loop-rest : goal.invariant-loop-rest
invariant-loop-rest l = Left l.initial.out l.at l.x l.out l.p l.rest

abbrev pub decreases-loop-rest : goal.decreases-loop-rest
decreases-loop-rest l = l.rest
