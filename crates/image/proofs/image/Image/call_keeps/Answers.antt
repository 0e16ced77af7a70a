use Rattle.std.proofs.Common.{◌≡◌, true, rules}
use Rattle.image.specs.Numbers.{below, same_number, natural}
use Rattle.image.specs.Raw.{raw_rule}
use Rattle.image.specs.Rules.{in_rule}
use Rattle.image.proofs.image.Image.call_keeps.Goals as goal

pub returns-then-starts : goal.returns-then-starts
returns-then-starts c =
    let image = c.args.self.now.numbers.now in
    let s = c.args.self.now.sections in
    let r = c.args.r in
    let there : below r.target s.states.count ≡ true = search rules in
    let starts : same_number r.target (raw_rule image s (natural r.q)).start ≡ true = search rules in
    let back : c.in_rule.result ≡ in_rule image s c.args.rule r.p = search rules in
    simp (there, starts, back)

pub returns-else-starts : goal.returns-else-starts
returns-else-starts c = search rules
