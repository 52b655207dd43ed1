-- A bare pair's step is that of what was read there. Assumes nothing.
use mathlib.Core.Path.{refl}
use mathlib.Core.Bool.{false}
use native.Mathlib.Omega.{arith}
use Rattle.entries.specs.Kinds.{range_entry_by}
use Rattle.entries.specs.Numbers.{numbers_of}
use Rattle.entries.proofs.StepLaws.{step_handed_on}
use Rattle.entries.proofs.EntryTook.{range_entry_took}
use Rattle.entries.proofs.HeadLaws.{bare_range_there, found_step, found_within, ended_step, refused_step}
use Rattle.entries.proofs.raw.range_entry.Goals as goal

pub returns-in_err-bare_pair : goal.returns-in_err-bare_pair
returns-in_err-bare_pair c =
    let a = c.args in
    refused_step a.start (range_entry_by (numbers_of a.kinds) a.encoding a.endian a.part.now) c.in_err-bare_pair.field-0.0
    (bare_range_there a.encoding a.endian a.part.now (numbers_of a.kinds) c.if-encoding-ge5.false (c.in_err-bare_pair.ensures false 0))
    (rw (step_handed_on _ _ c.from_residual.ensures.1) refl)

pub overflow_add-result : goal.overflow_add-result
overflow_add-result c =
    let a = c.args in
    omega (
      arith,
      found_within a.start (range_entry_by (numbers_of a.kinds) a.encoding a.endian a.part.now) a.part.now
          (range_entry_took (numbers_of a.kinds) a.encoding a.endian a.part.now a.part.now)
          (bare_range_there a.encoding a.endian a.part.now (numbers_of a.kinds) c.if-encoding-ge5.false (rw c.in-BaseAddress.is at (c.in_ok-bare_pair.ensures false 0))),
    )

pub overflow_add-result-in-Bounds : goal.overflow_add-result-in-Bounds
overflow_add-result-in-Bounds c =
    let a = c.args in
    omega (
      arith,
      found_within a.start (range_entry_by (numbers_of a.kinds) a.encoding a.endian a.part.now) a.part.now
          (range_entry_took (numbers_of a.kinds) a.encoding a.endian a.part.now a.part.now)
          (bare_range_there a.encoding a.endian a.part.now (numbers_of a.kinds) c.if-encoding-ge5.false (rw c.in-Bounds.is at (c.in_ok-bare_pair.ensures false 0))),
    )

pub returns-in-End : goal.returns-in-End
returns-in-End c =
    let a = c.args in
    ended_step a.start _ (bare_range_there a.encoding a.endian a.part.now (numbers_of a.kinds) c.if-encoding-ge5.false (rw c.in-End.is at (c.in_ok-bare_pair.ensures false 0)))

pub returns-in-BaseAddress : goal.returns-in-BaseAddress
returns-in-BaseAddress c =
    let a = c.args in
    found_step a.start _ (bare_range_there a.encoding a.endian a.part.now (numbers_of a.kinds) c.if-encoding-ge5.false (rw c.in-BaseAddress.is at (c.in_ok-bare_pair.ensures false 0)))

pub returns-in-Bounds : goal.returns-in-Bounds
returns-in-Bounds c =
    let a = c.args in
    found_step a.start _ (bare_range_there a.encoding a.endian a.part.now (numbers_of a.kinds) c.if-encoding-ge5.false (rw c.in-Bounds.is at (c.in_ok-bare_pair.ensures false 0)))
