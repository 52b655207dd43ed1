use Rattle.section_bytes.proofs.WrittenLaws.{Counted}
use Rattle.section_bytes.proofs.leb128.unsigned_size.Given as goal

abbrev pub invariant-loop-rest : goal.invariant-loop-rest
invariant-loop-rest l = Counted l.x l.n l.rest

abbrev pub decreases-loop-rest : goal.decreases-loop-rest
decreases-loop-rest l = l.rest
