use Rattle.std.proofs.Common.{◌≡◌, ℕ, sym, ap, ◌∙◌, arith, rules}
use Rattle.image.specs.Raw.{raw_state, raw_transition}
use Rattle.image.specs.Rules.{may_leave, transition_keeps}
use Rattle.image.proofs.Counting.{source_is}
use Rattle.image.proofs.image.Image.transition_keeps.Goals as goal

pub returns : goal.returns
unfolding transition_keeps
returns c =
    let image = c.args.self.now.numbers.now in
    let s = c.args.self.now.sections in
    let here : c.may_leave.result ≡ may_leave image s (raw_state image s c.args.k) (raw_transition image s c.args.t) = search rules in
    let source = source_is image s c.args.t c.args.k s.states.count (omega arith) (omega arith) (omega arith) in
    here ∙ ap (λ (k : ℕ). may_leave image s (raw_state image s k) (raw_transition image s c.args.t)) (sym source)
