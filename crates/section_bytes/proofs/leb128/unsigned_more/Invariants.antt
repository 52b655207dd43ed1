use Rattle.std.proofs.Common.{◌-◌, length}
use Rattle.section_bytes.proofs.LebLaws.{Gathered}
use Rattle.section_bytes.proofs.leb128.unsigned_more.Given as goal

abbrev pub invariant-loop-i : goal.invariant-loop-i
invariant-loop-i l = Gathered l.s l.at l.result l.shift l.i

abbrev pub decreases-loop-i : goal.decreases-loop-i
decreases-loop-i l = length l.s - l.i
