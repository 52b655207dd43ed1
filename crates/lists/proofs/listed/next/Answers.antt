-- The next item of a list is what its trace hands out first: the loop goes from entry to entry of one trace.
-- Assumes nothing.
use Prim.Native.Nat.{◌+◌, ◌≤◌, ◌<◌}
use mathlib.Core.Path.{◌≡◌, refl, sym, ◌∙◌}
use native.Mathlib.Omega.{arith}
use lib.ListN.{length}
use Rattle.section_bytes.specs.Read.{Result, gives}
use Rattle.entries.specs.Listed.{entry_in, read_in}
use Rattle.entries.specs.Lists.{are_locations, coding_in}
use Rattle.entries.specs.Told.{found, step_of}
use Rattle.lists.specs.Open.{walk_at}
use Rattle.lists.specs.Convert.{Turn, convert, table_in}
use Rattle.lists.specs.Walk.{data_in, on_turn}
use Rattle.lists.specs.Risen.{risen_by}
use Rattle.lists.proofs.NextLaws.{does, next_refused, next_does, does_nothing, does_refuse, does_end, does_turn, entry_past}
use Rattle.lists.proofs.RisenLaws.{risen_none}
use Rattle.lists.proofs.listed.next.Goals.{In-Ok-Some, After-convert_entry}
use Rattle.lists.proofs.listed.next.Goals as goal

-- what was read is an entry
there : (c : In-Ok-Some) → (let a = c.args in let l = are_locations a.lists.now in
    gives (found (entry_in l c.in-Ok-Some.raw) c.in-Ok-Some.after) ≡ step_of (read_in l (coding_in a.lists.now) a.unit.now.encoding a.unit.now.endian a.section.now c.loop-at.at))
there c = rw c.in-Ok-Some.field-0-is at c.in-Ok-Some.ensures

past : (c : In-Ok-Some) → (c.loop-at.at < c.in-Ok-Some.after) × (c.in-Ok-Some.after ≤ length c.args.section.now)
past c = entry_past _ _ _ c.args.unit.now _ c.loop-at.base_address c.args.walk.entries c.loop-at.read c.loop-at-test.true c.in-Ok-Some.raw (there c)

-- what the list does from the walk on is what it does from behind the entry, by what that came to
met : (c : After-convert_entry) {t : Result Turn} → (let a = c.args in let l = are_locations a.lists.now in
    t ≡ convert (table_in a.unit.now) a.unit.now.encoding.address_size c.loop-at.base_address c.bounds_of-bounds.result
    → does l (coding_in a.lists.now) a.section.now a.unit.now a.walk
    ≡ on_turn t (data_in l c.expression_of-data.result) (walk_at c.in-Ok-Some.after c.loop-at.base_address (risen_by a.walk.entries (c.loop-at.read + 1))) (does l (coding_in a.lists.now) a.section.now a.unit.now))
met c h = c.loop-at.invariant.0
    ∙ does_turn _ _ _ c.args.unit.now _ _ _ _ c.loop-at-test.true c.in-Ok-Some.raw (there (goal.at.After-convert_entry c).In-Ok-Some) c.bounds_of-bounds.ensures h c.expression_of-data.ensures

pub returns-then-not-is_address_size : goal.returns-then-not-is_address_size
returns-then-not-is_address_size c = rw c.moved_to.ensures (next_refused _ _ _ c.args.unit.now _ (sym c.if-not-is_address_size.ensures))

pub loop-at-init : goal.loop-at-init
loop-at-init c = (rw (risen_none c.args.walk.entries) refl, omega arith)

pub returns-in-Ok-Range : goal.returns-in-Ok-Range
returns-in-Ok-Range c = rw c.gone_on.ensures (next_does _ _ _ c.args.unit.now _ (sym c.if-not-is_address_size.ensures) (met (goal.at.returns-in-Ok-Range c).After-convert_entry (rw c.in-Ok-Range.field-0-is at c.in-Ok-Range.ensures)))

pub returns-in-Err-convert_entry : goal.returns-in-Err-convert_entry
returns-in-Err-convert_entry c =
    rw c.gone_on-in-Err-convert_entry.ensures (next_does _ _ _ c.args.unit.now _ (sym c.if-not-is_address_size.ensures) (met (goal.at.returns-in-Err-convert_entry c).After-convert_entry c.in-Err-convert_entry.ensures))

pub loop-at-smaller-in-Ok-Base : goal.loop-at-smaller-in-Ok-Base
loop-at-smaller-in-Ok-Base c = omega (arith, past (goal.at.loop-at-smaller-in-Ok-Base c).In-Ok-Some)

pub loop-at-preserved-in-Ok-Base : goal.loop-at-preserved-in-Ok-Base
loop-at-preserved-in-Ok-Base c = (
  met (goal.at.loop-at-preserved-in-Ok-Base c).After-convert_entry (rw c.in-Ok-Base.field-0-is at c.in-Ok-Base.ensures),
  omega (arith, c.loop-at.invariant.1, past (goal.at.loop-at-preserved-in-Ok-Base c).In-Ok-Some),
)

pub loop-at-smaller : goal.loop-at-smaller
loop-at-smaller c = omega (arith, past (goal.at.loop-at-smaller c).In-Ok-Some)

pub loop-at-preserved : goal.loop-at-preserved
loop-at-preserved c = (
  met (goal.at.loop-at-preserved c).After-convert_entry (rw c.in-Ok-Skip.field-0-is at c.in-Ok-Skip.ensures),
  omega (arith, c.loop-at.invariant.1, past (goal.at.loop-at-preserved c).In-Ok-Some),
)

pub returns-in-Ok-None : goal.returns-in-Ok-None
returns-in-Ok-None c =
    rw c.gone_on-in-Ok-None.ensures (next_does _ _ _ c.args.unit.now _ (sym c.if-not-is_address_size.ensures)
    (c.loop-at.invariant.0 ∙ does_end _ _ _ c.args.unit.now _ _ _ _ c.loop-at-test.true (rw c.in-Ok-None.field-0-is at c.in-Ok-None.ensures)))

pub returns-in-Err : goal.returns-in-Err
returns-in-Err c =
    rw c.gone_on-in-Err.ensures (next_does _ _ _ c.args.unit.now _ (sym c.if-not-is_address_size.ensures)
    (c.loop-at.invariant.0 ∙ does_refuse _ _ _ c.args.unit.now _ _ _ _ c.loop-at-test.true _ c.in-Err.ensures))

pub returns : goal.returns
returns c =
    rw c.gone_on-2.ensures (next_does _ _ _ c.args.unit.now _ (sym c.if-not-is_address_size.ensures)
    (c.loop-at.invariant.0 ∙ does_nothing _ _ _ c.args.unit.now _ _ _ _ c.loop-at-test.false))
