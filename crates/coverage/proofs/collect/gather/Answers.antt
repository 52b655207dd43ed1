-- Each call of the walk hands out a range, which is stored behind those gathered, or ends the gathering. Assumes nothing.
use Rattle.std.proofs.Common.{ap, ◌∙◌, arith}
use Rattle.section_bytes.proofs.ReaderLaws.{is_refusal}
use Rattle.coverage.specs.Gathered.{told_gathered}
use Rattle.coverage.proofs.GatherLaws.{gathering_more, gathering_over, gathering_lost, gathering_many, called_lost, called_over, called_found, called_ahead}
use Rattle.coverage.proofs.collect.gather.Goals as goal

pub returns-in_err-location-clause-ends_after : goal.returns-in_err-location-clause-ends_after
returns-in_err-location-clause-ends_after c =
    ap (λ r. told_gathered r c.loop-location.begins c.loop-location.ends) (is_refusal _ _ c.from_residual.ensures.1)
    ∙ gathering_lost c.loop-location.invariant _ (called_lost _ _ _ c.args.unit.now _ c.requires.address_size_value _ c.next-answer.ensures c.in_err-location.was)

pub returns-in_default-clause-ends_after : goal.returns-in_default-clause-ends_after
returns-in_default-clause-ends_after c =
    gathering_over c.loop-location.invariant (called_over _ _ _ c.args.unit.now _ c.requires.address_size_value _ c.next-answer.ensures c.in_ok-location.was c.in_default.is)

pub returns-then-not-store-clause-ends_after : goal.returns-then-not-store-clause-ends_after
returns-then-not-store-clause-ends_after c =
    gathering_many c.loop-location.invariant _ _ c.store.ensures (called_found _ _ _ c.args.unit.now _ c.requires.address_size_value _ c.next-answer.ensures c.in_ok-location.was c.in-Some.is) c.if-not-store.true

pub loop-location-smaller : goal.loop-location-smaller
loop-location-smaller c = omega (arith, called_ahead _ _ _ c.args.unit.now _ c.requires.address_size_value _ c.next-answer.ensures c.in_ok-location.was c.in-Some.is)

pub loop-location-preserved : goal.loop-location-preserved
loop-location-preserved c =
    gathering_more c.loop-location.invariant _ _ c.store.ensures (called_found _ _ _ c.args.unit.now _ c.requires.address_size_value _ c.next-answer.ensures c.in_ok-location.was c.in-Some.is) c.if-not-store.false
