-- What was gathered in short arrays is the coverage; where these were full, with what comes from the walk then. Assumes nothing.
use Rattle.std.proofs.Common.{List, sym, ap, ◌∙◌, arith}
use Rattle.section_bytes.specs.Error.{told_value}
use Rattle.section_bytes.specs.Read.{Result}
use Rattle.section_bytes.proofs.ReaderLaws.{is_refusal}
use Rattle.coverage.specs.Ranges.{Range}
use Rattle.coverage.specs.Covered.{source_as}
use Rattle.coverage.specs.Told.{placed, putting}
use Rattle.coverage.proofs.GatherLaws.{told_few, short_all, short_full, short_refused, source_on}
use Rattle.coverage.proofs.PlaceLaws.{front_got, front_refused}
use Rattle.coverage.proofs.place.runs_list.Goals as goal

pub returns-in_err-n : goal.returns-in_err-n
returns-in_err-n c =
    ap (λ r. placed (told_value r) c.args.begins.now c.args.ends.now) (is_refusal _ _ c.from_residual.ensures.1)
    ∙ front_refused _ _ _ _ (short_refused (source_as c.args.locations c.args.by_table c.args.source.now) _ c.in_err-n.ensures.ends_after)

pub put_front-requires : goal.put_front-requires
put_front-requires c =
    let z = c.cover_short_as.ensures.sized in
    let f = told_few _ _ (source_as c.args.locations c.args.by_table c.args.source.now) _ _ (rw c.in-All.is at c.in_ok-n.ensures.ends_after) in
    (omega (arith, f, z.0), omega (arith, f, z.1))

pub returns-in-All : goal.returns-in-All
returns-in-All c = front_got _ _ _ (short_all (source_as c.args.locations c.args.by_table c.args.source.now) (rw c.in-All.is at c.in_ok-n.ensures.ends_after)) c.put_front.ensures

pub returns-in-Full : goal.returns-in-Full
returns-in-Full c =
    rw (source_on c.args.locations c.args.by_table c.args.source.now c.from_walk-rest.result c.in-Full.walk c.from_walk-rest.ensures.itself c.from_walk-rest.ensures.lists) at c.runs_long.ensures
    ∙ ap (λ (r : Result (List Range)). putting r c.args.begins.now c.args.ends.now)
    (sym (short_full (source_as c.args.locations c.args.by_table c.args.source.now) _ _ c.cover_short_as.ensures.sized.0 (rw c.in-Full.is at c.in_ok-n.ensures.ends_after)))
