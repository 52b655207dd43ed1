-- What the runs leave at the front of two arrays, cleared past their count, is the coverage. Assumes nothing.
use Rattle.std.proofs.Common.{ap, ◌∙◌, arith}
use Rattle.section_bytes.specs.Error.{told_value}
use Rattle.section_bytes.proofs.ReaderLaws.{is_refusal}
use Rattle.coverage.specs.Covered.{source_as}
use Rattle.coverage.specs.Told.{placed}
use Rattle.coverage.proofs.PlaceLaws.{whole_few, whole_got, whole_refused}
use Rattle.coverage.proofs.place.place_list.Goals as goal

pub returns-in_err-n : goal.returns-in_err-n
returns-in_err-n c =
    ap (λ r. placed (told_value r) c.runs_list.new.begins c.runs_list.new.ends) (is_refusal _ _ c.from_residual.ensures.1)
    ∙ whole_refused _ _ (omega arith, omega arith) (source_as c.args.locations c.args.by_table c.args.source.now) _ c.in_err-n.ensures

pub clear_past-requires : goal.clear_past-requires
clear_past-requires c = (whole_few c.args.begins.now c.args.ends.now (omega arith, omega arith) (source_as c.args.locations c.args.by_table c.args.source.now) c.in_ok-n.ensures, omega arith)

pub clear_past-requires-2 : goal.clear_past-requires-2
clear_past-requires-2 c = (whole_few c.args.begins.now c.args.ends.now (omega arith, omega arith) (source_as c.args.locations c.args.by_table c.args.source.now) c.in_ok-n.ensures, omega arith)

pub returns : goal.returns
returns c = whole_got _ _ (omega arith, omega arith) (source_as c.args.locations c.args.by_table c.args.source.now) c.in_ok-n.ensures c.clear_past.ensures c.clear_past-2.ensures
