-- An entry that is one of the three is refused, and the list is over. The other ways are `calling`. Assumes nothing.
use Rattle.std.proofs.Common.{sym, ◌∙◌}
use Rattle.profile.proofs.EntryLaws.{call_broken}
use Rattle.profile.proofs.listed.next.Goals as goal

pub returns-in-Err-of_entry : goal.returns-in-Err-of_entry
returns-in-Err-of_entry c =
    rw c.gone_on-in-Err-of_entry.ensures
    (call_broken _ _ _ c.args.unit.now _ _ _ _ c.loop-at-test.true c.in-Ok-Some.noted.entry (rw c.in-Ok-Some.field-0-is at c.in-Ok-Some.ensures) c.if-noted.false c.bounds_of-bounds.ensures c.in-Err-of_entry.e c.in-Err-of_entry.ensures ∙ sym c.loop-at.invariant.0)
