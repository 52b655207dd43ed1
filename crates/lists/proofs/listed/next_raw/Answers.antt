-- What the reader answers. Assumes nothing.
use mathlib.Core.Path.{sym}
use Rattle.lists.proofs.ListedLaws.{raw_told}
use Rattle.lists.proofs.listed.next_raw.Goals as goal

pub returns-in-Ok-Some : goal.returns-in-Ok-Some
returns-in-Ok-Some c =
    rw c.read_to.ensures (raw_told _ _ _ _ _ _ (sym c.if-not-is_address_size.ensures) c.if-end-walk.false (rw c.in-Ok-Some.field-0-is at c.in-Ok-Some.ensures))

pub returns-in-Ok-None : goal.returns-in-Ok-None
returns-in-Ok-None c =
    rw c.read_to-in-Ok-None.ensures (raw_told _ _ _ _ _ _ (sym c.if-not-is_address_size.ensures) c.if-end-walk.false (rw c.in-Ok-None.field-0-is at c.in-Ok-None.ensures))

pub returns-in-Err : goal.returns-in-Err
returns-in-Err c = rw c.moved_to-in-Err.ensures (raw_told _ _ _ _ _ _ (sym c.if-not-is_address_size.ensures) c.if-end-walk.false c.in-Err.ensures)
