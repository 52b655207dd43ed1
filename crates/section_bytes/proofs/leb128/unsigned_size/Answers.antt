-- `section_bytes::leb128::unsigned_size` meets its contract: the bytes counted, with those of what is left, are all of them. Assumes
-- nothing.
use Rattle.section_bytes.proofs.WrittenLaws.{counted_end}
use Rattle.section_bytes.proofs.leb128.unsigned_size.Goals as goal

pub returns : goal.returns
returns c = counted_end c.loop-rest.invariant c.loop-rest-test.false
