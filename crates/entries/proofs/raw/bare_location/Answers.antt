-- A bare pair's step is that of what was read there; its expression's length has two bytes. Assumes nothing.
use mathlib.Core.Path.{◌∙◌}
use mathlib.Core.Bool.{true}
use native.Mathlib.Omega.{arith}
use Rattle.entries.specs.Kinds.{bare_location}
use Rattle.entries.proofs.StepLaws.{step_handed_on}
use Rattle.entries.proofs.EntryTook.{bare_took}
use Rattle.entries.proofs.OperandLaws.{expression_ends, short_is}
use Rattle.entries.proofs.HeadLaws.{data_stops, data_step, found_step, found_within, ended_step, refused_step}
use Rattle.entries.proofs.raw.bare_location.Goals as goal

pub returns-in_err-bare_pair : goal.returns-in_err-bare_pair
returns-in_err-bare_pair c =
    let a = c.args in
    refused_step a.start (bare_location a.encoding a.endian a.start a.part.now) c.in_err-bare_pair.field-0.0 (c.in_err-bare_pair.ensures true a.start)
    (step_handed_on _ _ c.from_residual.ensures.1)

pub returns-in-End : goal.returns-in-End
returns-in-End c = let a = c.args in ended_step a.start _ (rw c.in-End.is at (c.in_ok-bare_pair.ensures true a.start))

pub overflow_add-result : goal.overflow_add-result
overflow_add-result c =
    let a = c.args in
    omega (
      arith,
      found_within a.start (bare_location a.encoding a.endian a.start a.part.now) a.part.now (bare_took a.encoding a.endian a.start a.part.now a.part.now _ _ _ _)
          (rw c.in-BaseAddress.is at (c.in_ok-bare_pair.ensures true a.start)),
    )

pub returns-in-BaseAddress : goal.returns-in-BaseAddress
returns-in-BaseAddress c = let a = c.args in found_step a.start _ (rw c.in-BaseAddress.is at (c.in_ok-bare_pair.ensures true a.start))

pub returns-in_err-expression-in-Bounds : goal.returns-in_err-expression-in-Bounds
returns-in_err-expression-in-Bounds c =
    let a = c.args in let p = c.in-Bounds in
    data_stops a.encoding a.endian a.start a.part.now p.begin p.end p.c (bare_location a.encoding a.endian a.start a.part.now) (rw p.is at (c.in_ok-bare_pair.ensures true a.start))
    c.in_err-expression-in-Bounds.field-0.0 (c.in_err-expression-in-Bounds.ensures ∙ short_is a.encoding a.endian a.start a.part.now p.c c.requires.before)
    (step_handed_on _ _ c.from_residual-in_err-expression-in-Bounds.ensures.1)

pub overflow_add-result-in-Bounds : goal.overflow_add-result-in-Bounds
overflow_add-result-in-Bounds c = omega (arith, expression_ends c.args.start c.args.part.now _ c.in_ok-expression-in-Bounds.ensures)

pub returns-in_ok-expression-in-Bounds : goal.returns-in_ok-expression-in-Bounds
returns-in_ok-expression-in-Bounds c =
    let a = c.args in let p = c.in-Bounds in
    data_step a.encoding a.endian a.start a.part.now p.begin p.end p.c (bare_location a.encoding a.endian a.start a.part.now) (rw p.is at (c.in_ok-bare_pair.ensures true a.start))
    (c.in_ok-expression-in-Bounds.ensures ∙ short_is a.encoding a.endian a.start a.part.now p.c c.requires.before)
