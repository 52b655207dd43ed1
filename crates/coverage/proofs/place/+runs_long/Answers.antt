-- What was gathered in arrays as long as a coverage's is told as it is, with 10 for no room. Assumes nothing.
use Rattle.std.proofs.Common.{ap, ◌∙◌, arith, length-take}
use Rattle.section_bytes.specs.Error.{told_value}
use Rattle.section_bytes.specs.declared.error.Error.TheVariants.{TooManyRanges}
use Rattle.section_bytes.proofs.ReaderLaws.{is_refusal}
use Rattle.coverage.specs.Kept.{paired}
use Rattle.coverage.specs.Covered.{source_as}
use Rattle.coverage.specs.Gathered.{short}
use Rattle.coverage.specs.Told.{placed}
use Rattle.coverage.proofs.GatherLaws.{told_all, told_few, told_full, told_refused}
use Rattle.coverage.proofs.PlaceLaws.{front_got, front_refused}
use Rattle.coverage.proofs.place.+runs_long.Goals as goal

pub returns-in_err-n : goal.returns-in_err-n
returns-in_err-n t c =
    ap (λ r. placed (told_value r) c.args.begins.now c.args.ends.now) (is_refusal _ _ c.from_residual.ensures.1)
    ∙ front_refused _ _ _ _ (told_refused _ _ (source_as c.args.locations c.args.by_table c.args.source.now) _ c.in_err-n.ensures.ends_after)

pub put_front-requires : goal.put_front-requires
put_front-requires t c =
    let a = c.args in
    let z = c.cover_long_as.ensures.sized in
    let f = told_few _ _ (source_as a.locations a.by_table a.source.now) _ _ (rw c.in-All.is at c.in_ok-n.ensures.ends_after) in
    let l = length-take short (paired a.first_begins.now a.first_ends.now) in
    (omega (arith, f, l, z.0), omega (arith, f, l, z.1))

pub returns-in-All : goal.returns-in-All
returns-in-All t c =
    front_got _ _ _ (told_all _ _ (source_as c.args.locations c.args.by_table c.args.source.now) _ _ (rw c.in-All.is at c.in_ok-n.ensures.ends_after)) c.put_front.ensures

pub returns-in-Full : goal.returns-in-Full
returns-in-Full t c =
    front_refused _ _ _ TooManyRanges (told_full _ _ (source_as c.args.locations c.args.by_table c.args.source.now) (rw c.in-Full.is at c.in_ok-n.ensures.ends_after))
