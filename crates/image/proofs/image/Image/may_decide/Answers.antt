use Rattle.std.proofs.Common.{◌≡◌, ◌-◌, true, false, not, refl, ◌∙◌, rules}
use Rattle.std.proofs.lemmas.Iterator.{YieldsList-from_range}
use Rattle.std.proofs.lemmas.Iterator.Search.{all_from_yields_List}
use Rattle.image.specs.Raw.{raw_transition}
use Rattle.image.specs.Rules.{silent_kind, same_target, may_decide}
use Rattle.image.proofs.Ranges.{all_of_range}
use Rattle.image.proofs.image.Image.may_decide.Goals as goal

pub returns-then-silent_kind : goal.returns-then-silent_kind
unfolding may_decide same_target
returns-then-silent_kind c =
    let image = c.args.self.now.numbers.now in
    let s = c.args.self.now.sections in
    let first = c.args.first in
    let t = c.args.t in
    let silent : silent_kind (raw_transition image s t).kind ≡ true = search rules in
    let items = YieldsList-from_range first t (t - first) refl refl in
    let asked = all_from_yields_List (λ u. not (same_target image s u t)) _ _ c.all.result c.all.ensures.ran items (λ u b q e. search rules) in
    simp silent (asked ∙ all_of_range _ first (t - first))

pub returns-else-silent_kind : goal.returns-else-silent_kind
unfolding may_decide
returns-else-silent_kind c =
    let reads : silent_kind (raw_transition c.args.self.now.numbers.now c.args.self.now.sections c.args.t).kind ≡ false = search rules in
    simp reads c.if-silent_kind.false
