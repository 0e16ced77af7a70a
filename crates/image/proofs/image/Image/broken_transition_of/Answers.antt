use Rattle.std.proofs.Common.{◌≡◌, true, false, rules}
use Rattle.std.proofs.lemmas.Iterator.{first_from_Range}
use Rattle.image.specs.Rules.{transition_keeps}
use Rattle.image.proofs.image.Image.broken_transition_of.Goals as goal

pub returns : goal.returns
returns c =
    let test = transition_keeps c.args.self.now.numbers.now c.args.self.now.sections in
    first_from_Range _ _ _ c.find.result (λ k. test k ≡ false) (λ k. test k ≡ true) c.find.ensures.ran (λ k q e. search rules) (λ k q e. search rules)
