use Rattle.std.proofs.Common.{rules, tests}
use Rattle.std.proofs.lemmas.Iterator.{YieldsList-from_slice}
use Rattle.decimals.proofs.Values.{told_digits}
use Rattle.decimals.proofs.numbers.size_of_digits.Goals as goal

pub returns-in_err-size-clause-digits : goal.returns-in_err-size-clause-digits
returns-in_err-size-clause-digits c =
    let items = YieldsList-from_slice c.args.digits.now c.iter.ensures.rest in
    let told = told_digits _ _ _ c.try_fold.result c.try_fold.ensures.ran items (λ a x b q k. search (rules, tests)) (search rules) in
    search rules

pub returns-clause-digits : goal.returns-clause-digits
returns-clause-digits c =
    let items = YieldsList-from_slice c.args.digits.now c.iter.ensures.rest in
    let told = told_digits _ _ _ c.try_fold.result c.try_fold.ensures.ran items (λ a x b q k. search (rules, tests)) (search rules) in
    search rules

pub returns-clause-size : goal.returns-clause-size
returns-clause-size c =
    let items = YieldsList-from_slice c.args.digits.now c.iter.ensures.rest in
    let told = told_digits _ _ _ c.try_fold.result c.try_fold.ensures.ran items (λ a x b q k. search (rules, tests)) (search rules) in
    search rules
