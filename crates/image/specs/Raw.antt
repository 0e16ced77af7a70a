-- The records of an image as they stand there.
use Rattle.std.specs.Prelude.{ℕ, zero, suc, ◌+◌, cond, List, ℤ, nat_le}
use Rattle.image.specs.declared.raw.Interval.{Interval}
use Rattle.image.specs.declared.raw.RawMode.{RawMode}
use Rattle.image.specs.declared.raw.RawState.{RawState}
use Rattle.image.specs.declared.raw.RawTransition.{RawTransition}
use Rattle.image.specs.declared.raw.RawRule.{RawRule}
use Rattle.image.specs.declared.raw.RawAction.{RawAction}
use Rattle.table.specs.declared.sections.Sections.{Sections}
use Rattle.table.specs.Layout.{number}
use Rattle.image.specs.Numbers.{natural}
use Rattle.image.specs.Spans.{place_of}
use Rattle.image.specs.declared.sections.Section.TheVariants.{States, Transitions, Intervals, Modes, Rules, Actions}

-- The record of a section whose first number stands at an index.
abbrev pub state_from : List ℤ → ℕ → RawState
state_from image at =
    record {
      kind = number image at;
      rule = number image (at + 1);
      flag = number image (at + 2);
      first = number image (at + 3);
      count = number image (at + 4);
    }

abbrev pub transition_from : List ℤ → ℕ → RawTransition
transition_from image at =
    record {
      kind = number image at;
      target = number image (at + 1);
      p = number image (at + 2);
      q = number image (at + 3);
    }

abbrev pub interval_from : List ℤ → ℕ → Interval
interval_from image at = record { low = number image at; high = number image (at + 1) }

abbrev pub mode_from : List ℤ → ℕ → RawMode
mode_from image at = record { start = number image at }

abbrev pub rule_from : List ℤ → ℕ → RawRule
rule_from image at = record { start = number image at; stop = number image (at + 1); token_type = number image (at + 2) }

abbrev pub action_from : List ℤ → ℕ → RawAction
action_from image at = record { kind = number image at; argument = number image (at + 1) }

-- Record k of a section.
abbrev pub raw_state : List ℤ → Sections → ℕ → RawState
raw_state image s k = state_from image (place_of s States k)

abbrev pub raw_transition : List ℤ → Sections → ℕ → RawTransition
raw_transition image s k = transition_from image (place_of s Transitions k)

abbrev pub raw_interval : List ℤ → Sections → ℕ → Interval
raw_interval image s k = interval_from image (place_of s Intervals k)

abbrev pub raw_mode : List ℤ → Sections → ℕ → ℤ
raw_mode image s k = (mode_from image (place_of s Modes k)).start

abbrev pub raw_rule : List ℤ → Sections → ℕ → RawRule
raw_rule image s k = rule_from image (place_of s Rules k)

abbrev pub raw_action : List ℤ → Sections → ℕ → RawAction
raw_action image s k = action_from image (place_of s Actions k)

-- the sum of the counts of the states before state k
unfoldable pub counts_before : List ℤ → Sections → ℕ → ℕ
counts_before image s zero = 0
counts_before image s (suc k) = counts_before image s k + natural (raw_state image s k).count

-- the last of the first n states whose transitions begin at t or before
unfoldable pub source_below : List ℤ → Sections → ℕ → ℕ → ℕ
source_below image s t zero = 0
source_below image s t (suc n) = cond (nat_le (counts_before image s n) t) n (source_below image s t n)

-- the state that transition t belongs to
abbrev pub source_of : List ℤ → Sections → ℕ → ℕ
source_of image s t = source_below image s t s.states.count
