-- A byte that isn't refused is the first code of its kind, or a code without a kind. Assumes nothing.
use Rattle.entries.proofs.TableLaws.{seen_kind, seen_other}
use Rattle.entries.proofs.kinds.is_lawful.Goals as goal
use Rattle.entries.proofs.kinds.is_lawful.Goals.{then-number-lt8+else-coded-number, else-number-lt8+else-number-ne-NO_KIND}

pub loop-number-preserved : goal.loop-number-preserved
loop-number-preserved c =
    let s = c.loop-number in
    elim c.if-number-lt8.branch [
      | then-number-lt8+else-coded-number w ↦ rw w.coded-is (seen_kind _ _ _ s.invariant c.loop-number-test.true w.if-number-lt8.true w.if-coded-number.false)
      | else-number-lt8+else-number-ne-NO_KIND w ↦ rw w.coded-is (seen_other _ _ _ s.invariant c.loop-number-test.true w.if-number-ne-NO_KIND.false)
    ]
