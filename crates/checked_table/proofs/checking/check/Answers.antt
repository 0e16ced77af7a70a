use Rattle.std.proofs.Common.{refl, ◌∙◌, subst}
use Rattle.std.proofs.lemmas.Result.{err_from_is_err_and}
use Rattle.image.specs.Keeping.{RecordsKeep, BreaksFirst}
use Rattle.checked_table.specs.Atn.{Atn}
use Rattle.checked_table.specs.Steps.{NoRound, LowestRound}
use Rattle.checked_table.specs.Checking.{Keeps, layout, «record», round}
use Rattle.checked_table.proofs.Holding.{atn-meaning}
use Rattle.checked_table.proofs.Judging.{refused}
use Rattle.checked_table.proofs.Opening.{laid_out, laid_in, told}
use Rattle.checked_table.proofs.checking.check.Goals as goal

pub returns-in_err-sections : goal.returns-in_err-sections
returns-in_err-sections c =
    let p = err_from_is_err_and c.from_residual.result c.from_residual.ensures.1 in
    let faulty = layout c.in_err-sections.ensures.laid in
    rw (p.1, p.2) (record { passes = refused c.args.image.now _ faulty; keeps = tt; tells = faulty })

pub returns-in-Some : goal.returns-in-Some
returns-in-Some c =
    let l = c.in_ok-sections.ensures in
    let over = c.over-image in
    let first = told c.args.image.now _ l.laid l.placed over.result over.ensures.numbers over.ensures.sections (λ i x. BreaksFirst i x c.in-Some.at) c.in-Some.ensures in
    let faulty = «record» (laid_out c.args.image.now _ l.laid l.placed) c.in-Some.at first refl in
    record { passes = refused c.args.image.now _ faulty; keeps = tt; tells = faulty }

pub over-records-requires-clause-laid : goal.over-records-requires-clause-laid
over-records-requires-clause-laid c =
    let l = c.in_ok-sections.ensures in
    laid_in c.args.image.now _ l.laid l.placed c.over-image.result c.over-image.ensures.numbers c.over-image.ensures.sections

pub returns-in-Some-lowest_round : goal.returns-in-Some-lowest_round
returns-in-Some-lowest_round c =
    let l = c.in_ok-sections.ensures in
    let over = c.over-image in
    let state = c.in-Some-lowest_round.state in
    let means = atn-meaning c.over-records.result _ (c.over-records.ensures.numbers ∙ over.ensures.numbers) in
    let lowest = subst (λ (a : Atn). LowestRound a state) means c.in-Some-lowest_round.ensures in
    let keep = told c.args.image.now _ l.laid l.placed over.result over.ensures.numbers over.ensures.sections RecordsKeep c.in_default.ensures in
    let faulty = round (laid_out c.args.image.now _ l.laid l.placed) keep state lowest refl in
    record { passes = refused c.args.image.now _ faulty; keeps = tt; tells = faulty }

pub returns-in-None : goal.returns-in-None
returns-in-None c =
    let l = c.in_ok-sections.ensures in
    let over = c.over-image in
    let means = atn-meaning c.over-records.result _ (c.over-records.ensures.numbers ∙ over.ensures.numbers) in
    let ends = subst NoRound means c.in-None.ensures in
    let keep = told c.args.image.now _ l.laid l.placed over.result over.ensures.numbers over.ensures.sections RecordsKeep c.in_default.ensures in
    let keeps : Keeps c.args.image.now = (laid_out c.args.image.now _ l.laid l.placed, keep, ends) in
    record { passes = (λ _. keeps, λ _. refl); keeps = keeps; tells = tt }
