-- The empty coverage has no range, and 0 at every place. Assumes nothing.
use Rattle.std.proofs.Common.{sym}
use Rattle.coverage.proofs.KeptLaws.{kept_none}
use Rattle.coverage.proofs.collect.or_empty.Goals as goal

pub returns-in-Err : goal.returns-in-Err
returns-in-Err c = rw c.in-Err.is (sym kept_none)
