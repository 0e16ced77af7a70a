-- A table as an automaton of which only the silent steps count, and the measure that they take down.
use Rattle.std.specs.Prelude.{◌≡◌, ℕ, ◌<◌, cond, List, length, slice_index_or}
use Rattle.rounds.specs.declared.passing.Passing.{Passing}
use Rattle.rounds.specs.declared.passing.Passing.TheVariants.{Silent, Call, Reads}
use Rattle.rounds.specs.Rounds.{Graph}
use Rattle.rounds.specs.Rank.{total as total_of}
use Rattle.image.specs.declared.kinds.TransitionKind.{TransitionKind}
use Rattle.image.specs.declared.kinds.TransitionKind.TheVariants.{Epsilon, Range, Rule, Predicate, Atom, Action, Set, NotSet, Wildcard}
use Rattle.image.specs.Numbers.{end_of_text}
use Rattle.checked_table.specs.Atn.{Atn, state_at, transition_at, is_stop, matches}
use Rattle.checked_table.specs.Steps.{Stand}

-- How a transition is passed without reading a symbol.
abbrev pub passing_of : Atn → TransitionKind → Passing
passing_of a Epsilon = Silent
passing_of a (Range low high) = cond (matches a (Range low high) end_of_text) Silent Reads
passing_of a (Rule rule follow) = Call
passing_of a (Predicate rule predicate) = Silent
passing_of a (Atom label) = cond (matches a (Atom label) end_of_text) Silent Reads
passing_of a (Action action) = Silent
passing_of a (Set first count) = cond (matches a (Set first count) end_of_text) Silent Reads
passing_of a (NotSet first count) = Reads
passing_of a Wildcard = Reads

-- The state that a call returns to.
abbrev pub follow_of : TransitionKind → ℕ
follow_of Epsilon = 0
follow_of (Range low high) = 0
follow_of (Rule rule follow) = follow
follow_of (Predicate rule predicate) = 0
follow_of (Atom label) = 0
follow_of (Action action) = 0
follow_of (Set first count) = 0
follow_of (NotSet first count) = 0
follow_of Wildcard = 0

abbrev pub graph_of : Atn → Graph
graph_of a =
    record {
      states = length a.states;
      transitions = length a.transitions;
      first = λ s. (state_at a s).first;
      count = λ s. (state_at a s).count;
      stop = λ s. is_stop a s;
      passing = λ t. passing_of a (transition_at a t).kind;
      target = λ t. (transition_at a t).target;
      return_state = λ t. follow_of (transition_at a t).kind;
    }

-- The measure of a stand: every silent step takes it down where no state goes round.
abbrev pub total : Atn → Stand → ℕ
total a f = total_of (graph_of a) f.state f.returns

-- How each transition is passed is noted in a list.
abbrev pub Noted : Atn → List Passing → Type 0
Noted a passings = (t : ℕ) → t < length a.transitions → slice_index_or passings t Silent ≡ passing_of a (transition_at a t).kind
