-- The source's own lists hold what their words say. Assumes nothing.
use Rattle.std.proofs.Common.{◌-◌, ap, ◌∙◌}
use Rattle.coverage.specs.Ranges.{limit}
use Rattle.coverage.specs.Kept.{firsts}
use Rattle.coverage.specs.Gathered.{short, coverage_within}
use Rattle.coverage.proofs.GatherLaws.{source_own}
use Rattle.coverage.proofs.collect.cover_long.Goals as goal

pub returns-clause-ends_after : goal.returns-clause-ends_after
returns-clause-ends_after c =
    let a = c.args in
    c.cover_long_as.ensures.ends_after
    ∙ ap (coverage_within (firsts short a.first_begins.now a.first_ends.now) (limit - short)) (source_own a.source.now c.words_of-locations.ensures.0 c.words_of-locations.ensures.1)
