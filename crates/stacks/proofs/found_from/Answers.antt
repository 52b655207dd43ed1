-- An entry at a time, what is left for every address is what was to be found from the start. Assumes nothing.
use Prim.Native.Nat.{◌≤◌, ◌<◌}
use native.Mathlib.Omega.{arith}
use mathlib.Core.Path.{refl, sym}
use lib.ListN.{length, take}
use Rattle.entries.specs.Lists.{are_locations, coding_in}
use Rattle.lookups.proofs.SeekLaws.{Steps}
use Rattle.lists.specs.Steps.{stepped_to, stepped_in}
use Rattle.section_bytes.specs.Read.{gives}
use Rattle.stacks.proofs.GoingLaws.{neighbours, waiting_until, missed_between, missed_first}
use Rattle.stacks.proofs.SettleLaws.{fill_until}
use Rattle.stacks.proofs.StackLaws.{loop_start, loop_base, loop_nothing, loop_missed, loop_found, loop_all, loop_failed, loop_refused, loop_mark, loop_over, loop_default}
use Rattle.lists.specs.declared.listed.Stepped.TheVariants.{Bounded}
use Rattle.stacks.proofs.found_from.Goals.{In-Bounded}
use Rattle.stacks.proofs.found_from.Goals as goal

pub loop-stepped-init : goal.loop-stepped-init
loop-stepped-init c = let p = c.requires in loop_start p.0 (omega (arith, p.1, p.2)) _ refl

-- the entry that was read, as a bounded one
bounded : (c : In-Bounded) → (let a = c.args in let l = are_locations a.lists.now in
    Steps l (coding_in a.lists.now) a.section.now a.unit.now c.loop-stepped.at c.loop-stepped.base_address (stepped_in l (gives (stepped_to (Bounded c.in-Bounded.location) c.in-Ok-Some.c))))
bounded c = rw (c.in-Ok-Some.field-0-is, c.in-Bounded.is) at c.in-Ok-Some.ensures

pub returns-then-n-low : goal.returns-then-n-low
returns-then-n-low c =
    let k : length (take c.args.n c.args.addresses.now) ≤ c.waiting_from-low.result = let y = c.requires.1 in omega (arith, c.if-n-low.true) in
    let e = loop_all c.requires.0 c.loop-stepped.invariant (omega arith) _ (bounded (goal.at.returns-then-n-low c).In-Bounded) c.settle-behind.ensures.top c.shown-data.ensures c.settle-behind.ensures (waiting_until c.waiting_from-low.ensures (sym c.requires.1)) k in
    record { rows_after = e.rows_are; value = e.read_is }

pub loop-stepped-preserved-else-n-low : goal.loop-stepped-preserved-else-n-low
loop-stepped-preserved-else-n-low c =
    let k : c.waiting_from-low.result < length (take c.args.n c.args.addresses.now) = let y = c.requires.1 in omega (arith, c.if-n-low.false) in
    loop_found c.requires.0 c.loop-stepped.invariant (omega arith) _ (bounded (goal.at.loop-stepped-preserved-else-n-low c).In-Bounded) c.settle-behind.ensures.top c.shown-data.ensures c.settle-behind.ensures (waiting_until c.waiting_from-low.ensures (sym c.requires.1)) _ _
    (neighbours c.args.addresses.now c.requires.0.up _ _ _ c.below-before-then-after-end.ensures c.above-after-then-after-end.ensures c.settle-behind.ensures.most) k

pub loop-stepped-preserved-else-after-end : goal.loop-stepped-preserved-else-after-end
loop-stepped-preserved-else-after-end c =
    loop_missed c.requires.0 c.loop-stepped.invariant (omega arith) _ (bounded (goal.at.loop-stepped-preserved-else-after-end c).In-Bounded) _ _
    (neighbours c.args.addresses.now c.requires.0.up _ _ _ c.below-before.ensures c.above-after.ensures c.first_at-first.ensures.most)
    (missed_first c.args.addresses.now c.requires.0.up _ _ _ _ c.first_at-first.ensures c.above-after.ensures c.if-after-end.false)

pub loop-stepped-preserved-else-may_hold : goal.loop-stepped-preserved-else-may_hold
loop-stepped-preserved-else-may_hold c =
    let m = c.may_hold.ensures c.if-may_hold.false in
    loop_missed c.requires.0 c.loop-stepped.invariant (omega arith) _ (bounded (goal.at.loop-stepped-preserved-else-may_hold c).In-Bounded) _ _ c.loop-stepped.invariant.goes.gap
    (missed_between c.args.addresses.now _ _ _ _ c.loop-stepped.invariant.goes.gap m.0 m.1)

pub loop-stepped-preserved-in-Default : goal.loop-stepped-preserved-in-Default
loop-stepped-preserved-in-Default c = rw c.or-kept.ensures (loop_default c.requires.0 c.loop-stepped.invariant (omega arith) c.in-Default.location (rw (c.in-Ok-Some.field-0-is, c.in-Default.is) at c.in-Ok-Some.ensures))

pub loop-stepped-preserved-in-Base : goal.loop-stepped-preserved-in-Base
loop-stepped-preserved-in-Base c = loop_base c.requires.0 c.loop-stepped.invariant (omega arith) (rw (c.in-Ok-Some.field-0-is, c.in-Base.is) at c.in-Ok-Some.ensures)

pub loop-stepped-preserved : goal.loop-stepped-preserved
loop-stepped-preserved c = loop_nothing c.requires.0 c.loop-stepped.invariant (omega arith) (rw (c.in-Ok-Some.field-0-is, c.in-Nothing.is) at c.in-Ok-Some.ensures)

pub returns-in-Failed : goal.returns-in-Failed
returns-in-Failed c =
    let e = loop_failed c.requires.0 c.loop-stepped.invariant (omega arith) (rw (c.in-Ok-Some.field-0-is, c.in-Failed.is) at c.in-Ok-Some.ensures) (fill_until c.fill.ensures (sym c.requires.1)) in
    record { rows_after = e.rows_are; value = e.read_is }

pub returns-then-at-section : goal.returns-then-at-section
returns-then-at-section c =
    let e = loop_mark c.requires.0 c.loop-stepped.invariant (omega arith) (rw c.in-Ok-None.field-0-is at c.in-Ok-None.ensures) c.if-at-section.true (fill_until c.fill-in-Ok-None.ensures (sym c.requires.1)) in
    record { rows_after = e.rows_are; value = e.read_is }

pub returns-in-Ok-None : goal.returns-in-Ok-None
returns-in-Ok-None c =
    let e = loop_over c.requires.0 c.loop-stepped.invariant (omega arith) (rw c.in-Ok-None.field-0-is at c.in-Ok-None.ensures) c.if-at-section.false (fill_until c.fill-in-Ok-None.ensures (sym c.requires.1)) in
    record { rows_after = e.rows_are; value = e.read_is }

pub returns-in-Err : goal.returns-in-Err
returns-in-Err c =
    let e = loop_refused c.requires.0 c.loop-stepped.invariant (omega arith) c.in-Err.ensures (fill_until c.fill-in-Err.ensures (sym c.requires.1)) in
    record { rows_after = e.rows_are; value = e.read_is }
