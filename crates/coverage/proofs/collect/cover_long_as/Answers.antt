-- The first ranges are those of the short arrays; for the others there is the room that is left. Assumes nothing.
use Rattle.std.proofs.Common.{ℕ, List, drop, ◌∙◌, ap₂, arith}
use Rattle.coverage.specs.Ranges.{Range}
use Rattle.coverage.specs.Kept.{firsts}
use Rattle.coverage.specs.Covered.{source_as}
use Rattle.coverage.specs.Gathered.{short, coverage_within}
use Rattle.coverage.proofs.GatherLaws.{firsts_copied}
use Rattle.coverage.proofs.collect.cover_long_as.Goals as goal

pub returns-clause-ends_after : goal.returns-clause-ends_after
returns-clause-ends_after c =
    let a = c.args in
    let p = c.copy.ensures in
    let q = c.copy-2.ensures in
    let f = firsts_copied short _ _ (drop short a.begins.now) (drop short a.ends.now) (omega arith) (omega arith) ∙ ap₂ (firsts short) p q in
    c.cover.ensures.ends_after ∙ ap₂ (λ (d : List Range) (n : ℕ). coverage_within d n (source_as a.locations a.by_table a.source.now)) f (omega arith)
