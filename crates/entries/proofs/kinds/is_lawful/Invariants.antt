use Rattle.entries.proofs.TableLaws.{Seen}
use Rattle.entries.proofs.kinds.is_lawful.Given as goal

abbrev pub invariant-loop-number : goal.invariant-loop-number
invariant-loop-number l = Seen l.table l.coded l.number-index
