-- What the image of a table means.
use Rattle.std.specs.Prelude.{ℕ, zero, suc, List, [], ◌∷◌, ℤ}
use Rattle.checked_table.specs.declared.parts.Rule.{Rule}
use Rattle.checked_table.specs.declared.parts.State.{State}
use Rattle.checked_table.specs.declared.parts.Transition.{Transition}
use Rattle.image.specs.declared.raw.RawState.{RawState}
use Rattle.image.specs.declared.raw.RawTransition.{RawTransition}
use Rattle.image.specs.declared.raw.RawRule.{RawRule}
use Rattle.table.specs.declared.sections.Sections.{Sections}
use Rattle.image.specs.Spans.{sections_of}
use Rattle.image.specs.Kinds.{state_kind_of, transition_kind_of, action_of}
use Rattle.image.specs.Numbers.{natural, is}
use Rattle.image.specs.Raw.{raw_state, raw_transition, raw_interval, raw_mode, raw_rule, raw_action}
use Rattle.checked_table.specs.Atn.{Atn}

-- f 0, f 1, .., n of them
unfoldable pub listed : {A : Type 0} → (ℕ → A) → ℕ → List A
listed f zero = []
listed f (suc n) = f 0 ∷ listed (λ k. f (suc k)) n

abbrev pub state_of : RawState → State
state_of r =
    record {
      kind = state_kind_of r.kind;
      rule = natural r.rule;
      non_greedy = is r.flag 1;
      first = natural r.first;
      count = natural r.count;
    }

abbrev pub transition_of : RawTransition → Transition
transition_of r = record { kind = transition_kind_of r.kind r.p r.q; target = natural r.target }

abbrev pub rule_of : RawRule → Rule
rule_of r = record { start = natural r.start; stop = natural r.stop; token_type = natural r.token_type }

abbrev pub atn_of : List ℤ → Sections → Atn
atn_of image s =
    record {
      states = listed (λ k. state_of (raw_state image s k)) s.states.count;
      transitions = listed (λ k. transition_of (raw_transition image s k)) s.transitions.count;
      intervals = listed (λ k. raw_interval image s k) s.intervals.count;
      modes = listed (λ k. natural (raw_mode image s k)) s.modes.count;
      rules = listed (λ k. rule_of (raw_rule image s k)) s.rules.count;
      actions = listed (λ k. action_of (raw_action image s k).kind (raw_action image s k).argument) s.actions.count;
    }

-- The table that an image means.
unfoldable pub meaning : List ℤ → Atn
meaning image = atn_of image (sections_of image)
