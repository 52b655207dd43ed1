-- `section_bytes::leb128::unsigned_more` meets its contract. The loop's invariant: the number's answer is that for the bytes left, with
-- the bits gathered. The measure is what is left of the section. Assumes nothing.
use Rattle.std.proofs.Common.{get_or, inl, inr, arith}
use Rattle.section_bytes.proofs.LebLaws.{Lawful, begun, ended, bad, last, next}
use Rattle.section_bytes.proofs.leb128.unsigned_more.Goals.{
  Joined-else-shift-eq63,
  else-shift-eq63-via-then-shift-eq63+else-byte-gt1,
  else-shift-eq63-via-else-shift-eq63,
}
use Rattle.section_bytes.proofs.leb128.unsigned_more.Goals as goal

-- where the tests of a tenth byte meet
lawful : (c : Joined-else-shift-eq63) → Lawful (get_or c.args.s.now c.loop-i.i 0) c.loop-i.shift
lawful c =
    elim c.else-shift-eq63.branch [
      | else-shift-eq63-via-then-shift-eq63+else-byte-gt1 w ↦ inl (omega arith)
      | else-shift-eq63-via-else-shift-eq63 w ↦ inr (omega arith)
    ]

pub loop-i-init : goal.loop-i-init
loop-i-init c = begun _ _ (omega arith) (omega arith)

pub returns-then-byte-gt1 : goal.returns-then-byte-gt1
returns-then-byte-gt1 c = bad c.loop-i.invariant (omega arith) (omega arith) (omega arith)

pub returns-then-byte-lt128 : goal.returns-then-byte-lt128
returns-then-byte-lt128 c = last c.loop-i.invariant (omega arith) (lawful (goal.at.returns-then-byte-lt128 c).Joined-else-shift-eq63) (omega arith)

pub loop-i-preserved : goal.loop-i-preserved
loop-i-preserved c = next c.loop-i.invariant (omega arith) (lawful (goal.at.loop-i-preserved c).Joined-else-shift-eq63) (omega arith)

pub returns : goal.returns
returns c = ended c.loop-i.invariant (omega arith)
