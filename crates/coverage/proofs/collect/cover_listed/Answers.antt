-- The list opens or its refusal is the answer; the runs of the ranges gathered from its walk are its coverage. Assumes nothing.
use Rattle.std.proofs.Common.{sym, refl, ap, ◌∙◌, arith, length-take}
use Rattle.section_bytes.proofs.ReaderLaws.{is_refusal}
use Rattle.lists.proofs.OpenLaws.{opened_size}
use Rattle.coverage.specs.Kept.{paired}
use Rattle.coverage.specs.Covered.{source_as}
use Rattle.coverage.specs.Gathered.{told_gathered}
use Rattle.coverage.proofs.GatherLaws.{cover_refused, gathered_few, cover_got, cover_full, cover_lost, covered_as}
use Rattle.coverage.proofs.collect.cover_listed.Goals as goal

pub returns-in_err-start-clause-ends_after : goal.returns-in_err-start-clause-ends_after
returns-in_err-start-clause-ends_after c =
    ap (λ r. told_gathered r c.args.begins.now c.args.ends.now) (is_refusal _ _ c.from_residual.ensures.1)
    ∙ cover_refused _ _ (source_as c.args.locations c.args.by_table c.args.source.now) _ c.in_err-start.ensures

pub gather-requires-clause-address_size_value : goal.gather-requires-clause-address_size_value
gather-requires-clause-address_size_value c = opened_size _ _ _ _ (sym c.in_ok-start.ensures)

pub returns-in_err-n-clause-ends_after : goal.returns-in_err-n-clause-ends_after
returns-in_err-n-clause-ends_after c =
    ap (λ r. told_gathered r c.gather.new.begins c.gather.new.ends) (is_refusal _ _ c.from_residual-in_err-n.ensures.1)
    ∙ cover_lost _ _ _ c.args.source.now.unit _ _ (sym c.in_ok-start.ensures) c.lists_as-lists.result _ c.in_err-n.ensures.ends_after
    ∙ covered_as _ _ c.args.locations c.args.by_table c.args.source.now _ c.lists_as-lists.ensures

pub to_runs-requires : goal.to_runs-requires
to_runs-requires c =
    let a = c.args in
    let z = c.gather.ensures.sized in
    let f = gathered_few _ _ _ a.source.now.unit _ _ (sym c.in_ok-start.ensures) c.lists_as-lists.result _ _ (rw c.in-All.is at c.in_ok-n.ensures.ends_after) in
    (omega (arith, f, length-take a.done (paired a.begins.now a.ends.now), c.requires.0, z.0), (refl, z.1 ∙ sym z.0))

pub returns-in-All-clause-ends_after : goal.returns-in-All-clause-ends_after
returns-in-All-clause-ends_after c =
    let a = c.args in
    let z = c.gather.ensures.sized in
    let g = rw c.in-All.is at c.in_ok-n.ensures.ends_after in
    let f = gathered_few _ _ _ a.source.now.unit _ _ (sym c.in_ok-start.ensures) c.lists_as-lists.result _ _ g in
    let h = length-take a.done (paired a.begins.now a.ends.now) in
    cover_got _ _ _ a.source.now.unit _ _ (sym c.in_ok-start.ensures) c.lists_as-lists.result _ _ _ _ g (omega (arith, f, h, c.requires.0, z.0), omega (arith, f, h, c.requires.0, z.1)) c.to_runs.ensures
    ∙ covered_as _ _ a.locations a.by_table a.source.now _ c.lists_as-lists.ensures

pub returns-in-Full-clause-ends_after : goal.returns-in-Full-clause-ends_after
returns-in-Full-clause-ends_after c =
    cover_full _ _ _ c.args.source.now.unit _ _ (sym c.in_ok-start.ensures) c.lists_as-lists.result (rw c.in-Full.is at c.in_ok-n.ensures.ends_after)
    ∙ covered_as _ _ c.args.locations c.args.by_table c.args.source.now _ c.lists_as-lists.ensures
