use Rattle.std.proofs.Common.{◌≡◌, true, false, rules}
use Rattle.std.proofs.lemmas.Iterator.{first_from_Range}
use Rattle.image.specs.Rules.{record_keeps}
use Rattle.image.proofs.Ranges.{first_failure}
use Rattle.image.proofs.image.Image.broken_late_record.Goals as goal

pub returns : goal.returns
returns c =
    let test = record_keeps c.args.self.now.numbers.now c.args.self.now.sections c.args.section in
    let found = first_from_Range _ _ _ c.find.result (λ k. test k ≡ false) (λ k. test k ≡ true) c.find.ensures.ran (λ k q e. search rules) (λ k q e. search rules) in
    first_failure test _ c.find.result (rw c.span-span.ensures at found)
