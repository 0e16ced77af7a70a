use Rattle.std.proofs.Common.{sym, ◌∙◌, subst}
use Rattle.image.specs.Keeping.{RecordsKeep}
use Rattle.checked_table.specs.Steps.{NoRound}
use Rattle.checked_table.proofs.Holding.{atn-meaning}
use Rattle.checked_table.proofs.Opening.{laid_in, told_of}
use Rattle.checked_table.proofs.checked.Table.open.Goals as goal

pub over-records-requires : goal.over-records-requires
over-records-requires c =
    let l = c.in-Ok.ensures in
    record {
      laid = laid_in c.args.image.now _ l.laid l.placed c.over.result c.over.ensures.numbers c.over.ensures.sections;
      keep = told_of c.args.image.now _ l.laid l.placed c.over.result c.over.ensures.numbers c.over.ensures.sections RecordsKeep c.requires.1;
    }

pub invariant_of-result : goal.invariant_of-result
invariant_of-result c =
    let means = atn-meaning c.over-records.result _ (c.over-records.ensures.numbers ∙ c.over.ensures.numbers) in
    record { ends = subst NoRound (sym means) c.requires.2 }

pub returns : goal.returns
returns c = atn-meaning c.over-records.result _ (c.over-records.ensures.numbers ∙ c.over.ensures.numbers)
