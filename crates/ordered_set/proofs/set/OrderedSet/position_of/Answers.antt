use Rattle.std.proofs.Common.{◌∙◌, rules, tests}
use Rattle.std.proofs.lemmas.Iterator.{YieldsList-from_slice}
use Rattle.std.proofs.lemmas.Iterator.Search.{position_from_yields_List}
use Rattle.ordered_set.proofs.Position.{is_position}
use Rattle.ordered_set.proofs.set.OrderedSet.position_of.Goals as goal

pub returns-clause-answers : goal.returns-clause-answers
returns-clause-answers g c =
    let x = c.args.x.now in
    let same = g.T.Element.alike in
    is_position same x _ _
    (position_from_yields_List (λ y. same y x) _ _ c.position.result c.position.ensures.ran (YieldsList-from_slice _ (c.iter.ensures.rest ∙ c.as_slice.ensures)) (λ y b q k. search (rules, tests)))
