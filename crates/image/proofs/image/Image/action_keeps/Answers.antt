use Rattle.std.proofs.Common.{◌≡◌, true, false, not, refl, ◌∙◌, arith, rules}
use Rattle.std.proofs.lemmas.Iterator.{YieldsList-from_range}
use Rattle.std.proofs.lemmas.Iterator.Search.{all_from_yields_List}
use Rattle.image.specs.Raw.{raw_action}
use Rattle.image.specs.Rules.{argument_keeps, same_action, action_keeps}
use Rattle.image.proofs.Ranges.{all_of_range}
use Rattle.image.proofs.image.Image.action_keeps.Goals as goal

pub returns-then-is_some : goal.returns-then-is_some
unfolding action_keeps
returns-then-is_some c =
    let image = c.args.self.now.numbers.now in
    let s = c.args.self.now.sections in
    let k = c.args.k in
    let fits : argument_keeps s (raw_action image s k).kind (raw_action image s k).argument ≡ true = search rules in
    let items = YieldsList-from_range 0 k k refl (omega arith) in
    let asked = all_from_yields_List (λ j. not (same_action image s j k)) _ _ c.all.result c.all.ensures.ran items (λ j b q e. search rules) in
    simp fits (asked ∙ all_of_range _ 0 k)

pub returns-else-is_some : goal.returns-else-is_some
unfolding action_keeps
returns-else-is_some c =
    let image = c.args.self.now.numbers.now in
    let s = c.args.self.now.sections in
    let unfit : argument_keeps s (raw_action image s c.args.k).kind (raw_action image s c.args.k).argument ≡ false = search rules in
    simp unfit c.if-is_some.false
