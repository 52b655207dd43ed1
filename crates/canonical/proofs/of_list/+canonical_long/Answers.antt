-- What was gathered in arrays as long as a coverage's is written as it is, with 10 for no room. Assumes nothing.
use mathlib.Core.Path.{sym, ap, ◌∙◌}
use native.Mathlib.Omega.{arith}
use lib.ListN.{length-take}
use Rattle.section_bytes.specs.Error.{told_value}
use Rattle.section_bytes.specs.declared.error.Error.TheVariants.{TooManyRanges}
use Rattle.section_bytes.proofs.ReaderLaws.{is_refusal}
use Rattle.coverage.specs.Covered.{source_as}
use Rattle.coverage.specs.Gathered.{short}
use Rattle.coverage.specs.Kept.{paired}
use Rattle.coverage.specs.Output.{output}
use Rattle.coverage.proofs.GatherLaws.{told_all, told_full, told_refused}
use Rattle.canonical.proofs.Answers.{list_arrays, list_put, list_refused}
use Rattle.canonical.proofs.of_list.+canonical_long.Goals as goal

pub returns-in_err-n : goal.returns-in_err-n
returns-in_err-n t c =
    ap (λ r. output (told_value r) c.args.out.now) (is_refusal _ _ c.from_residual.ensures.1)
    ∙ list_refused _ c.args.out.now _ (told_refused _ _ (source_as c.args.locations c.args.by_table c.args.source.now) _ c.in_err-n.ensures.ends_after)

pub put_list-requires : goal.put_list-requires
put_list-requires t c =
    let a = c.args in
    let z = c.cover_long_as.ensures.sized in
    let l = length-take short (paired a.first_begins.now a.first_ends.now) in
    list_arrays _ _ (source_as a.locations a.by_table a.source.now) _ _ (rw c.in-All.is at c.in_ok-n.ensures.ends_after) (omega (arith, l)) (omega (arith, l, z.0)) (z.1 ∙ sym z.0)

pub returns-in-All : goal.returns-in-All
returns-in-All t c =
    list_put _ c.args.out.now c.put_list.result (told_all _ _ (source_as c.args.locations c.args.by_table c.args.source.now) _ _ (rw c.in-All.is at c.in_ok-n.ensures.ends_after)) c.put_list.ensures

pub returns-in-Full : goal.returns-in-Full
returns-in-Full t c =
    list_refused _ c.args.out.now TooManyRanges (told_full _ _ (source_as c.args.locations c.args.by_table c.args.source.now) (rw c.in-Full.is at c.in_ok-n.ensures.ends_after))
