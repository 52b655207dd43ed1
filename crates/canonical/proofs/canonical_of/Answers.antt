-- `canonical::canonical_of` meets its contract: the coverage is tested, then its list is put where there is room. Assumes
-- nothing.
use mathlib.Core.Path.{◌≡◌, sym, ◌∙◌}
use mathlib.Core.Bool.{true}
use borrow.Author.Rules.{rules}
use Rattle.coverage.specs.Kept.{counted, is_lawful}
use Rattle.canonical.proofs.Answers.{arrays, canonical_refused, canonical_put}
use Rattle.canonical.proofs.canonical_of.Goals.{Else-not-is_lawful}
use Rattle.canonical.proofs.canonical_of.Goals as goal

lawful : (c : Else-not-is_lawful) → let a = c.args in
    is_lawful (counted a.n a.begins.now a.ends.now) ≡ true
lawful c = sym c.is_lawful.ensures ∙ c.if-not-is_lawful.false

pub returns-then-not-is_lawful : goal.returns-then-not-is_lawful
returns-then-not-is_lawful c =
    let a = c.args in
    canonical_refused (counted a.n a.begins.now a.ends.now) a.out.now
    (sym c.is_lawful.ensures ∙ c.if-not-is_lawful.true)

pub put_list-requires : goal.put_list-requires
put_list-requires c = arrays _ (lawful (goal.at.put_list-requires c).Else-not-is_lawful) (search rules) (search rules)

pub returns : goal.returns
returns c =
    let a = c.args in
    canonical_put (counted a.n a.begins.now a.ends.now) a.out.now c.put_list.result (lawful (goal.at.returns c).Else-not-is_lawful)
    c.put_list.ensures
