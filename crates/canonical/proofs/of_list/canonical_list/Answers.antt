-- The ranges gathered in short arrays are the list's coverage; where these were full, with what comes from the walk then. Assumes
-- nothing.
use mathlib.Core.Path.{refl, sym, ap, ◌∙◌}
use native.Mathlib.Omega.{arith}
use Rattle.section_bytes.specs.Error.{told_value}
use Rattle.section_bytes.proofs.ReaderLaws.{is_refusal}
use Rattle.coverage.specs.Covered.{source_as}
use Rattle.coverage.specs.Output.{output}
use Rattle.coverage.proofs.GatherLaws.{short_all, short_full, short_refused, source_on}
use Rattle.canonical.proofs.Answers.{list_arrays, list_put, list_refused, list_written}
use Rattle.canonical.proofs.of_list.canonical_list.Goals as goal

pub returns-in_err-n : goal.returns-in_err-n
returns-in_err-n c =
    ap (λ r. output (told_value r) c.args.out.now) (is_refusal _ _ c.from_residual.ensures.1)
    ∙ list_refused _ c.args.out.now _ (short_refused (source_as c.args.locations c.args.by_table c.args.source.now) _ c.in_err-n.ensures.ends_after)
    ∙ list_written (source_as c.args.locations c.args.by_table c.args.source.now) c.args.out.now refl

pub put_list-requires : goal.put_list-requires
put_list-requires c =
    let z = c.cover_short_as.ensures.sized in
    list_arrays _ _ (source_as c.args.locations c.args.by_table c.args.source.now) _ _ (rw c.in-All.is at c.in_ok-n.ensures.ends_after) (omega arith) (omega (arith, z.0)) (z.1 ∙ sym z.0)

pub returns-in-All : goal.returns-in-All
returns-in-All c =
    list_put _ c.args.out.now c.put_list.result (short_all (source_as c.args.locations c.args.by_table c.args.source.now) (rw c.in-All.is at c.in_ok-n.ensures.ends_after)) c.put_list.ensures
    ∙ list_written (source_as c.args.locations c.args.by_table c.args.source.now) c.args.out.now refl

pub returns-in-Full : goal.returns-in-Full
returns-in-Full c =
    rw (source_on c.args.locations c.args.by_table c.args.source.now c.from_walk-rest.result c.in-Full.walk c.from_walk-rest.ensures.itself c.from_walk-rest.ensures.lists) at c.canonical_long.ensures
    ∙ list_written (source_as c.args.locations c.args.by_table c.args.source.now) c.args.out.now (short_full (source_as c.args.locations c.args.by_table c.args.source.now) _ _ c.cover_short_as.ensures.sized.0 (rw c.in-Full.is at c.in_ok-n.ensures.ends_after))
