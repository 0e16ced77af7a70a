-- The rules of the records of an image, section by section.
use Rattle.std.specs.Prelude.{ℕ, ◌+◌, ◌-◌, Bool, false, cond, not, ◌&&◌, ◌||◌, List, ℤ, pos, negsuc, ◌==◌, int_le, nat_le}
use Rattle.image.specs.declared.raw.RawState.{RawState}
use Rattle.image.specs.declared.raw.RawTransition.{RawTransition}
use Rattle.image.specs.declared.sections.Section.{Section}
use Rattle.image.specs.declared.sections.Section.TheVariants.{States, Transitions, Intervals, Modes, Rules, Actions}
use Rattle.table.specs.declared.sections.Sections.{Sections}
use Rattle.image.specs.Numbers.{natural, is, below, same_number, end_of_text, is_label, all_of}
use Rattle.image.specs.Raw.{raw_state, raw_transition, raw_interval, raw_mode, raw_rule, raw_action, counts_before, source_of}

-- STATES. The kind is 1, 2, 6 or 7; kind 6 belongs to no rule, −1, and the others to one of them.
abbrev pub kind_and_rule : RawState → ℕ → Bool
kind_and_rule r rules =
    (is r.kind 6 && same_number r.rule end_of_text)
    || ((is r.kind 1 || (is r.kind 2 || is r.kind 7)) && below r.rule rules)

-- The flag is 0, or 1 at kind 1.
abbrev pub flag_keeps : RawState → Bool
flag_keeps r = is r.flag 0 || (is r.flag 1 && is r.kind 1)

-- The count is 0 at kind 7 and at least 1 elsewhere.
abbrev pub count_keeps : RawState → Bool
count_keeps r = cond (is r.kind 7) (is r.count 0) (int_le (pos 1) r.count)

-- The transitions begin where those of the states before end, and end within the section; at the last state, with it.
abbrev pub span_keeps : RawState → ℕ → ℕ → Bool → Bool
span_keeps r earlier transitions last =
    is r.first earlier && cond last (earlier + natural r.count == transitions) (nat_le (earlier + natural r.count) transitions)

-- Kinds that read no symbol.
abbrev pub silent_kind : ℤ → Bool
silent_kind kind = is kind 1 || (is kind 3 || (is kind 4 || is kind 6))

unfoldable pub same_target : List ℤ → Sections → ℕ → ℕ → Bool
same_target image s u t = same_number (raw_transition image s u).target (raw_transition image s t).target

-- The transition t reads no symbol, and has another target than those before it, from first on.
unfoldable pub may_decide : List ℤ → Sections → ℕ → ℕ → Bool
may_decide image s first t =
    silent_kind (raw_transition image s t).kind && all_of (λ u. not (same_target image s u t)) first (t - first)

-- One transition at most; or all of them read no symbol, and no two have the same target.
unfoldable pub decides : List ℤ → Sections → ℕ → ℕ → Bool
decides image s first count = nat_le count 1 || all_of (may_decide image s first) first count

-- What a state's own numbers must be, after so many earlier transitions; is it the last state?
unfoldable pub numbers_keep : Sections → RawState → ℕ → Bool → Bool
numbers_keep s r earlier last =
    kind_and_rule r s.rules.count && (flag_keeps r && (count_keeps r && span_keeps r earlier s.transitions.count last))

unfoldable pub state_keeps : List ℤ → Sections → ℕ → Bool
state_keeps image s k =
    numbers_keep s (raw_state image s k) (counts_before image s k) (k + 1 == s.states.count)
    && decides image s (counts_before image s k) (natural (raw_state image s k).count)

-- From low to high: symbols or the end of the text, low not above high.
abbrev pub range_keeps : ℤ → ℤ → Bool
range_keeps low high = is_label low && (int_le low high && is_label high)

-- TRANSITIONS. What p and q mean goes by the kind, and a number without meaning is 0.
-- Two intervals and more, one after the other, from the first on:
abbrev pub intervals_there : ℤ → ℤ → ℕ → Bool
intervals_there (pos p) (pos q) intervals = nat_le 1 q && nat_le (p + q) intervals
intervals_there (pos p) (negsuc q) intervals = false
intervals_there (negsuc p) q intervals = false

abbrev pub fields_keep : Sections → ℤ → ℤ → ℤ → Bool
fields_keep s kind p q =
    -- epsilon; a range of symbols
    (is kind 1 && (is p 0 && is q 0))
    || ((is kind 2 && range_keeps p q)
    -- a call of rule q; predicate q of rule p
    || ((is kind 3 && (below p s.states.count && below q s.rules.count))
    || ((is kind 4 && (below p s.rules.count && below q 65536))
    -- a symbol; an action
    || ((is kind 5 && (is_label p && is q 0))
    || ((is kind 6 && (below p s.actions.count && is q 0))
    -- a set, and what is outside one; any symbol
    || ((is kind 7 && intervals_there p q s.intervals.count)
    || ((is kind 8 && intervals_there p q s.intervals.count)
    || (is kind 9 && (is p 0 && is q 0)))))))))

-- a state of the rule
abbrev pub in_rule : List ℤ → Sections → ℤ → ℤ → Bool
in_rule image s rule x = below x s.states.count && same_number (raw_state image s (natural x)).rule rule

-- a state of the kind
abbrev pub of_kind : List ℤ → Sections → ℤ → ℤ → Bool
of_kind image s kind x = below x s.states.count && same_number (raw_state image s (natural x)).kind kind

-- A call leads to the start of rule q, which is a state, and returns to a state of the source's rule.
abbrev pub call_keeps : List ℤ → Sections → ℤ → RawTransition → Bool
call_keeps image s rule r =
    below r.target s.states.count && (same_number r.target (raw_rule image s (natural r.q)).start && in_rule image s rule r.p)

-- The others lead to a state of the source's rule.
abbrev pub stays_in_rule : List ℤ → Sections → ℤ → RawTransition → Bool
stays_in_rule image s rule r = cond (is r.kind 3) (call_keeps image s rule r) (in_rule image s rule r.target)

-- A transition of a state of kind 6 is of kind 1 and leads to a state of kind 2.
abbrev pub leaves : List ℤ → Sections → RawState → RawTransition → Bool
leaves image s source r =
    cond (is source.kind 6) (is r.kind 1 && of_kind image s (pos 2) r.target) (stays_in_rule image s source.rule r)

abbrev pub may_leave : List ℤ → Sections → RawState → RawTransition → Bool
may_leave image s source r = fields_keep s r.kind r.p r.q && leaves image s source r

unfoldable pub transition_keeps : List ℤ → Sections → ℕ → Bool
transition_keeps image s t = may_leave image s (raw_state image s (source_of image s t)) (raw_transition image s t)

-- INTERVALS. From low to high.
unfoldable pub interval_keeps : List ℤ → Sections → ℕ → Bool
interval_keeps image s k = range_keeps (raw_interval image s k).low (raw_interval image s k).high

-- MODES. A mode is a state of kind 6.
unfoldable pub mode_keeps : List ℤ → Sections → ℕ → Bool
mode_keeps image s k = of_kind image s (pos 6) (raw_mode image s k)

-- RULES. Rule k has a start of kind 2 and a stop of kind 7, both states of rule k, and a token type from 0 to 65,535.
abbrev pub end_keeps : List ℤ → Sections → ℕ → ℤ → ℤ → Bool
end_keeps image s k kind x = of_kind image s kind x && is (raw_state image s (natural x)).rule k

unfoldable pub rule_keeps : List ℤ → Sections → ℕ → Bool
rule_keeps image s k =
    end_keeps image s k (pos 2) (raw_rule image s k).start
    && (end_keeps image s k (pos 7) (raw_rule image s k).stop && below (raw_rule image s k).token_type 65536)

-- ACTIONS. Channel and type, 0 and 7, have an argument from 0 to 65,535; mode and push mode, 2 and 5, a mode's index;
-- more, pop mode and skip, 3, 4 and 6, have 0.
abbrev pub argument_keeps : Sections → ℤ → ℤ → Bool
argument_keeps s kind argument =
    ((is kind 0 || is kind 7) && below argument 65536)
    || (((is kind 2 || is kind 5) && below argument s.modes.count)
    || ((is kind 3 || (is kind 4 || is kind 6)) && is argument 0))

unfoldable pub same_action : List ℤ → Sections → ℕ → ℕ → Bool
same_action image s j k =
    same_number (raw_action image s j).kind (raw_action image s k).kind && same_number (raw_action image s j).argument (raw_action image s k).argument

-- No action before is alike.
unfoldable pub action_keeps : List ℤ → Sections → ℕ → Bool
action_keeps image s k =
    argument_keeps s (raw_action image s k).kind (raw_action image s k).argument
    && all_of (λ j. not (same_action image s j k)) 0 k

-- Record k of a section keeps the rules of that section.
abbrev pub record_keeps : List ℤ → Sections → Section → ℕ → Bool
record_keeps image s States k = state_keeps image s k
record_keeps image s Transitions k = transition_keeps image s k
record_keeps image s Intervals k = interval_keeps image s k
record_keeps image s Modes k = mode_keeps image s k
record_keeps image s Rules k = rule_keeps image s k
record_keeps image s Actions k = action_keeps image s k
