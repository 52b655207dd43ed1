-- What was read, and what that comes to, kind by kind. Assumes nothing.
use mathlib.Core.Path.{◌≡◌, refl}
use Rattle.section_bytes.specs.Read.{gives}
use Rattle.entries.specs.Listed.{entry_in, read_in}
use Rattle.entries.specs.Lists.{are_locations, coding_in}
use Rattle.entries.specs.Told.{found, step_of}
use Rattle.lists.proofs.SteppedLaws.{step_told, step_turned, located_is}
use Rattle.lists.proofs.listed.step.Goals.{In-Some}
use Rattle.lists.proofs.listed.step.Goals as goal

-- what was read is an entry
there : (c : In-Some) → (let a = c.args in let l = are_locations a.lists.now in
    gives (found (entry_in l c.in-Some.raw) c.in-Some.after) ≡ step_of (read_in l (coding_in a.lists.now) a.unit.now.encoding a.unit.now.endian a.section.now a.at))
there c = rw c.in-Some.is at c.in_ok-raw.ensures

pub returns-in_default : goal.returns-in_default
returns-in_default c = step_told _ _ _ c.args.unit.now _ _ (rw c.in_default.is at c.in_ok-raw.ensures)

pub returns-then-is_default_in : goal.returns-then-is_default_in
returns-then-is_default_in c =
    step_turned _ _ _ c.args.unit.now _ _ c.in-Some.raw (there (goal.at.returns-then-is_default_in c).In-Some) c.bounds_of-bounds.ensures (rw c.in-Ok-Range.field-0-is at c.in-Ok-Range.ensures)
    (located_is _ _ c.expression_of-data.ensures c.if-is_default_in.ensures)

pub returns-else-is_default_in : goal.returns-else-is_default_in
returns-else-is_default_in c =
    step_turned _ _ _ c.args.unit.now _ _ c.in-Some.raw (there (goal.at.returns-else-is_default_in c).In-Some) c.bounds_of-bounds.ensures (rw c.in-Ok-Range.field-0-is at c.in-Ok-Range.ensures)
    (located_is _ _ c.expression_of-data.ensures c.if-is_default_in.ensures)

pub returns-in-Ok-Base : goal.returns-in-Ok-Base
returns-in-Ok-Base c = step_turned _ _ _ c.args.unit.now _ _ c.in-Some.raw (there (goal.at.returns-in-Ok-Base c).In-Some) c.bounds_of-bounds.ensures (rw c.in-Ok-Base.field-0-is at c.in-Ok-Base.ensures) refl

pub returns-in-Ok-Skip : goal.returns-in-Ok-Skip
returns-in-Ok-Skip c = step_turned _ _ _ c.args.unit.now _ _ c.in-Some.raw (there (goal.at.returns-in-Ok-Skip c).In-Some) c.bounds_of-bounds.ensures (rw c.in-Ok-Skip.field-0-is at c.in-Ok-Skip.ensures) refl

pub returns-in-Err : goal.returns-in-Err
returns-in-Err c = step_turned _ _ _ c.args.unit.now _ _ c.in-Some.raw (there (goal.at.returns-in-Err c).In-Some) c.bounds_of-bounds.ensures c.in-Err.ensures refl
