-- The source's own lists hold what their words say. Assumes nothing.
use Rattle.std.proofs.Common.{[], ap, ◌∙◌}
use Rattle.coverage.specs.Covered.{Source}
use Rattle.coverage.specs.Gathered.{short, coverage_within}
use Rattle.coverage.proofs.GatherLaws.{source_own}
use Rattle.coverage.proofs.collect.cover_short.Goals as goal

pub returns-clause-ends_after : goal.returns-clause-ends_after
returns-clause-ends_after c =
    c.cover_short_as.ensures.ends_after
    ∙ ap (λ (x : Source). coverage_within [] short x) (source_own c.args.source.now c.words_of-locations.ensures.0 c.words_of-locations.ensures.1)
