use Rattle.std.proofs.Common.{◌≤◌, subst, arith}
use Rattle.table.specs.declared.sections.Sections.{Sections}
use Rattle.image.specs.declared.sections.Section.TheVariants.{Actions}
use Rattle.image.proofs.Sectioning.{all_in_order, starts_after}
use Rattle.image.proofs.spotting.spot_at.Goals as goal

pub spot_in-requires-clause-after : goal.spot_in-requires-clause-after
spot_in-requires-clause-after c =
    let order = all_in_order c.loop-section.section-index c.loop-section-test.true in
    starts_after _ c.args.at _ c.sections_of-s.ensures.chained (λ earlier h. c.loop-section.invariant earlier (omega (arith, h, order)))

pub returns : goal.returns
returns c = subst (λ (s : Sections). s.actions.end ≤ c.args.at) c.sections_of-s.ensures.is (c.loop-section.invariant Actions (omega arith))
