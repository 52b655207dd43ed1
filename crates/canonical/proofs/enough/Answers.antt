-- Each entry is as long as one can be, or all are counted. Assumes nothing.
use native.Mathlib.Omega.{arith}
use Rattle.canonical.proofs.Entries.{firsts_bytes}
use Rattle.canonical.proofs.enough.Goals as goal

pub returns-then-most-len : goal.returns-then-most-len
returns-then-most-len c = let a = c.args in omega (arith, firsts_bytes a.n a.begins.now a.ends.now, c.if-most-len.true)
