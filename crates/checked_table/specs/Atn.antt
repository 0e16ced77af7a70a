-- What a table means: an augmented transition network, and what its transitions match.
use Rattle.std.specs.Prelude.{ℕ, ◌+◌, ◌≤◌, Bool, true, false, not, ◌&&◌, ◌||◌, List, [], ◌∷◌, length, take, drop, ℤ, pos, slice_index, slice_index_or}
use Rattle.image.specs.declared.raw.Interval.{Interval}
use Rattle.image.specs.declared.kinds.LexerAction.{LexerAction}
use Rattle.image.specs.declared.kinds.LexerAction.TheVariants.{More}
use Rattle.checked_table.specs.declared.parts.Rule.{Rule}
use Rattle.checked_table.specs.declared.parts.State.{State}
use Rattle.image.specs.declared.kinds.StateKind.{StateKind}
use Rattle.image.specs.declared.kinds.StateKind.TheVariants.{Basic, RuleStart, TokensStart, RuleStop}
use Rattle.checked_table.specs.declared.parts.Transition.{Transition}
use Rattle.image.specs.declared.kinds.TransitionKind.{TransitionKind}
use Rattle.image.specs.declared.kinds.TransitionKind.TheVariants.{Epsilon, Range, Rule as Call, Predicate, Atom, Action, Set, NotSet, Wildcard}
use Rattle.image.specs.Numbers.{between}

pub record Atn : Type 0 where
  pub states : List State
  pub transitions : List Transition
  pub intervals : List Interval
  -- the start of each mode
  pub modes : List ℕ
  pub rules : List Rule
  pub actions : List LexerAction

-- The state s; past the last one, a state without transitions.
abbrev pub state_at : Atn → ℕ → State
state_at a s = slice_index_or a.states s (record { kind = Basic; rule = 0; non_greedy = false; first = 0; count = 0 })

abbrev pub transition_at : Atn → ℕ → Transition
transition_at a t = slice_index_or a.transitions t (record { kind = Wildcard; target = 0 })

abbrev pub interval_at : Atn → ℕ → Interval
interval_at a i = slice_index_or a.intervals i (record { low = pos 0; high = pos 0 })

abbrev pub mode_at : Atn → ℕ → ℕ
mode_at a m = slice_index a.modes m

abbrev pub rule_at : Atn → ℕ → Rule
rule_at a r = slice_index_or a.rules r (record { start = 0; stop = 0; token_type = 0 })

abbrev pub action_at : Atn → ℕ → LexerAction
action_at a i = slice_index_or a.actions i More

-- The transitions that leave a state, in order.
unfoldable pub outs : Atn → ℕ → List Transition
outs a s = take (state_at a s).count (drop (state_at a s).first a.transitions)

abbrev pub stops : StateKind → Bool
stops Basic = false
stops RuleStart = false
stops TokensStart = false
stops RuleStop = true

abbrev pub is_stop : Atn → ℕ → Bool
is_stop a s = stops (state_at a s).kind

-- A transition that reads no symbol, whatever the symbol is.
abbrev pub silent : TransitionKind → Bool
silent Epsilon = true
silent (Range low high) = false
silent (Call rule follow) = true
silent (Predicate rule predicate) = true
silent (Atom label) = false
silent (Action action) = true
silent (Set first count) = false
silent (NotSet first count) = false
silent Wildcard = false

-- x lies in interval i.
unfoldable pub interval_has : Atn → ℕ → ℤ → Bool
interval_has a i x = between (interval_at a i).low (interval_at a i).high x

-- x lies in one of the intervals.
unfoldable pub within : List Interval → ℤ → Bool
within [] x = false
within (i ∷ is) x = between i.low i.high x || within is x

abbrev pub contains : Atn → ℕ → ℕ → ℤ → Bool
contains a first count x = within (take count (drop first a.intervals)) x

-- The intervals of a set are there.
abbrev pub SetFits : Atn → TransitionKind → Type 0
SetFits a Epsilon = Unit {0}
SetFits a (Range low high) = Unit {0}
SetFits a (Call rule follow) = Unit {0}
SetFits a (Predicate rule predicate) = Unit {0}
SetFits a (Atom label) = Unit {0}
SetFits a (Action action) = Unit {0}
SetFits a (Set first count) = first + count ≤ length a.intervals
SetFits a (NotSet first count) = first + count ≤ length a.intervals
SetFits a Wildcard = Unit {0}

abbrev pub is_symbol : ℤ → Bool
is_symbol = between (pos 0) (pos 1114111)

-- Whether a transition matches the symbol, or the end of the text.
abbrev pub matches : Atn → TransitionKind → ℤ → Bool
matches a Epsilon x = false
matches a (Range low high) x = between low high x
matches a (Call rule follow) x = false
matches a (Predicate rule predicate) x = false
matches a (Atom label) x = between label label x
matches a (Action action) x = false
matches a (Set first count) x = contains a first count x
matches a (NotSet first count) x = is_symbol x && not (contains a first count x)
matches a Wildcard x = is_symbol x
