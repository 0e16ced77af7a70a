use Rattle.std.proofs.Common.{◌≡◌, true, false, ◌∙◌, sym, refl, rules}
use Rattle.image.specs.Rules.{fields_keep}
use Rattle.image.specs.Numbers.{is}
use Rattle.image.proofs.Ruling.{call_is, epsilon_is, no_call, no_epsilon}
use Rattle.image.proofs.image.Image.may_leave.Goals as goal

pub call_keeps-requires-clause-called : goal.call_keeps-requires-clause-called
call_keeps-requires-clause-called c =
    let r = c.args.r in
    (call_is c.args.self.now.sections r.kind r.p r.q _ _ (sym c.in-Some.ensures.keeps) (sym c.in-Some.ensures.means ∙ c.in-Rule.is)).1

pub call_keeps-requires-clause-inside : goal.call_keeps-requires-clause-inside
call_keeps-requires-clause-inside c =
    let r = c.args.r in
    (call_is c.args.self.now.sections r.kind r.p r.q _ _ (sym c.in-Some.ensures.keeps) (sym c.in-Some.ensures.means ∙ c.in-Rule.is)).3

pub returns-in-Epsilon : goal.returns-in-Epsilon
returns-in-Epsilon c =
    let r = c.args.r in
    let keep : fields_keep c.args.self.now.sections r.kind r.p r.q ≡ true = sym c.in-Some.ensures.keeps in
    let mode : is c.args.source.kind 6 ≡ true = search rules in
    let one = epsilon_is c.args.self.now.sections r.kind r.p r.q keep (sym c.in-Some.ensures.means ∙ c.in-Epsilon.is) in
    simp (mode, one) (search rules)

pub returns-in_default-kind : goal.returns-in_default-kind
returns-in_default-kind c =
    let r = c.args.r in
    let keep : fields_keep c.args.self.now.sections r.kind r.p r.q ≡ true = sym c.in-Some.ensures.keeps in
    let mode : is c.args.source.kind 6 ≡ true = search rules in
    let other = no_epsilon r.kind r.p r.q (λ e. c.in_default-kind.not-Epsilon (c.in-Some.ensures.means ∙ e)) in
    simp (keep, mode) (simp other refl)

pub returns-in-Rule : goal.returns-in-Rule
returns-in-Rule c =
    let r = c.args.r in
    let keep : fields_keep c.args.self.now.sections r.kind r.p r.q ≡ true = sym c.in-Some.ensures.keeps in
    let state : is c.args.source.kind 6 ≡ false = search rules in
    let call = call_is c.args.self.now.sections r.kind r.p r.q _ _ keep (sym c.in-Some.ensures.means ∙ c.in-Rule.is) in
    simp (state, call.0) (search rules)

pub returns-in_default-kind-2 : goal.returns-in_default-kind-2
returns-in_default-kind-2 c =
    let r = c.args.r in
    let state : is c.args.source.kind 6 ≡ false = search rules in
    let other = no_call r.kind r.p r.q (λ rule follow e. c.in_default-kind-2.not-Rule rule follow (c.in-Some.ensures.means ∙ e)) in
    simp (state, other) (search rules)
