-- What the record of a call says of where it returns to.
use Rattle.std.proofs.Common.{◌≡◌, ℕ, ◌<◌, length, sym, ap, ◌∙◌, arith}
use Rattle.rounds.specs.declared.passing.Passing.TheVariants.{Call}
use Rattle.image.specs.declared.raw.RawTransition.{RawTransition}
use Rattle.image.specs.declared.kinds.TransitionKind.TheVariants.{Rule}
use Rattle.image.specs.Numbers.{natural}
use Rattle.image.specs.Raw.{raw_transition}
use Rattle.image.proofs.Ruling.{call_is}
use Rattle.checked_table.specs.declared.parts.Transition.{Transition}
use Rattle.checked_table.specs.declared.records.Records.{Records}
use Rattle.checked_table.specs.Atn.{transition_at}
use Rattle.checked_table.specs.Decoding.{transition_of}
use Rattle.checked_table.specs.Graphs.{passing_of, follow_of}
use Rattle.checked_table.specs.Means.{atn_in}
use Rattle.checked_table.proofs.Bridging.{is_call}
use Rattle.checked_table.proofs.Holding.{fits_of, transition_kept}

pub back_is : (r : Records) (k : ℕ) (x : RawTransition) → k < length (atn_in r).transitions → x ≡ raw_transition r.image.numbers.now r.image.sections k
    → passing_of (atn_in r) (transition_at (atn_in r) k).kind ≡ Call → (natural x.p < 65536) × (natural x.p ≡ follow_of (transition_at (atn_in r) k).kind)
back_is r k x h e call =
    let kept = transition_kept r k x h e in
    let known = is_call (atn_in r) (transition_at (atn_in r) k).kind call in
    let at : (transition_of x).kind ≡ Rule known.0 known.1 = sym (ap (λ (y : Transition). y.kind) kept.is) ∙ known.2 in
    let back = call_is r.image.sections x.kind x.p x.q known.0 known.1 kept.keeps at in
    (omega (arith, back.2, back.4, fits_of r), sym back.2 ∙ sym (ap follow_of known.2))
