-- Each test is a part of the test for a sheet; the addresses are written after the last. Assumes nothing.
use mathlib.Core.Path.{sym, ◌∙◌}
use native.Mathlib.Omega.{arith}
use Rattle.sheets.proofs.Answers.{Headed, no_head, too_many, other_width, other_length, not_lawful, not_placed, placed_sheet}
use Rattle.sheets.proofs.place_sheet.Goals.{After-lawful_in}
use Rattle.sheets.proofs.place_sheet.Goals as goal

headed : (c : After-lawful_in) → Headed c.args.bytes.now c.half_word-n.result
headed c =
    record {
      count = c.half_word-n.ensures;
      few = omega arith;
      wide = sym c.half_word.ensures ∙ c.if-half_word-ne8.false;
      long = c.if-len-n.false;
    }

pub returns-then-len-lt-HEAD : goal.returns-then-len-lt-HEAD
returns-then-len-lt-HEAD c = let a = c.args in not_placed a.begins.now a.ends.now (no_head a.bytes.now c.if-len-lt-HEAD.true)

pub returns-then-n-gt-LIMIT : goal.returns-then-n-gt-LIMIT
returns-then-n-gt-LIMIT c =
    let a = c.args in
    not_placed a.begins.now a.ends.now (too_many a.bytes.now c.half_word-n.ensures c.if-n-gt-LIMIT.true)

pub returns-then-half_word-ne8 : goal.returns-then-half_word-ne8
returns-then-half_word-ne8 c =
    let a = c.args in
    not_placed a.begins.now a.ends.now (other_width a.bytes.now c.half_word.ensures c.if-half_word-ne8.true)

pub returns-then-len-n : goal.returns-then-len-n
returns-then-len-n c =
    let a = c.args in
    not_placed a.begins.now a.ends.now (other_length a.bytes.now c.half_word-n.ensures c.if-len-n.true)

pub returns-then-not-lawful_in : goal.returns-then-not-lawful_in
returns-then-not-lawful_in c =
    let a = c.args in
    not_placed a.begins.now a.ends.now (not_lawful (headed (goal.at.returns-then-not-lawful_in c).After-lawful_in) (sym c.lawful_in.ensures ∙ c.if-not-lawful_in.true))

pub returns : goal.returns
returns c =
    let a = c.args in
    placed_sheet (headed (goal.at.returns c).After-lawful_in) (sym c.lawful_in.ensures ∙ c.if-not-lawful_in.false) a.begins.now a.ends.now
    c.get_addresses.ensures c.get_addresses-2.ensures
