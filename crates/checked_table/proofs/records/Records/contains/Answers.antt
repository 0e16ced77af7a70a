use Rattle.std.proofs.Common.{rules, ◌+◌, ℤ, refl, ap, ◌∙◌, arith, w32, to_z, of_z}
use Rattle.std.proofs.lemmas.Int.{to_z-of_z}
use Rattle.std.proofs.lemmas.Iterator.{YieldsList-from_range}
use Rattle.std.proofs.lemmas.Iterator.Search.{any_from_yields_List}
use Rattle.checked_table.specs.Atn.{contains, interval_has}
use Rattle.checked_table.specs.Means.{atn_in}
use Rattle.checked_table.proofs.Holding.{fits_of, intervals_are}
use Rattle.checked_table.proofs.Matching.{any-contains}
use Rattle.checked_table.proofs.records.Records.contains.Goals as goal

pub overflow_add-first : goal.overflow_add-first
overflow_add-first c = let r = c.args.self.now in omega (arith, intervals_are r, fits_of r, c.requires)

pub returns : goal.returns
returns c =
    let a = atn_in c.args.self.now in
    let first = c.args.first in
    let count = c.args.count in
    let x = to_z w32 (of_z w32 c.args.symbol) in
    let items = YieldsList-from_range first (first + count) count refl (omega arith) in
    let asked = any_from_yields_List (λ i. interval_has a i x) _ _ c.any.result c.any.ensures.ran items (λ i b q k. search rules) in
    asked ∙ (any-contains a x first count c.requires ∙ ap (λ (y : ℤ). contains a first count y) (to_z-of_z w32 c.args.symbol c.ranges.symbol))
