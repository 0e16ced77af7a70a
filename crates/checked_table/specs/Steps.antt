-- Steps through a table, walks of silent ones, and going round.
use Rattle.std.specs.Prelude.{◌≡◌, ℕ, ◌<◌, Bool, true, false, cond, ◌&&◌, List, [], ◌∷◌, ◌++◌, length, Some, None, Option, option_and_then}
use Rattle.std.specs.List.{slice_get}
use Rattle.rounds.specs.Rounds.{Step, along, back}
use Rattle.checked_table.specs.declared.parts.Transition.{Transition}
use Rattle.image.specs.declared.kinds.TransitionKind.{TransitionKind}
use Rattle.image.specs.declared.kinds.TransitionKind.TheVariants.{Epsilon, Range, Rule as Call, Predicate, Atom, Action, Set, NotSet, Wildcard}
use Rattle.image.specs.Numbers.{end_of_text}
use Rattle.checked_table.specs.Atn.{Atn, outs, is_stop, silent, matches}

-- A state with its return states, the newest first, and the actions so far, in order.
pub record Stand : Type 0 where
  pub state : ℕ
  pub returns : List ℕ
  pub actions : List ℕ

-- At a state, with nothing else yet.
abbrev pub fresh : ℕ → Stand
fresh s = record { state = s; returns = []; actions = [] }

-- At another state, with the same return states and actions.
abbrev pub move_to : ℕ → Stand → Stand
move_to s f = record { state = s; returns = f.returns; actions = f.actions }

-- An action counts only where there are no return states.
abbrev pub note_action : List ℕ → ℕ → List ℕ → List ℕ
note_action [] a actions = actions ++ (a ∷ [])
note_action (r ∷ rs) a actions = actions

-- Along a transition that reads nothing; `judge` says yes or no to a predicate of a rule.
abbrev pub silently_by : (ℕ → ℕ → Bool) → TransitionKind → ℕ → Stand → Option Stand
silently_by judge Epsilon target f = Some (move_to target f)
silently_by judge (Range low high) target f = None
silently_by judge (Call rule follow) target f = Some (record { state = target; returns = follow ∷ f.returns; actions = f.actions })
silently_by judge (Predicate rule predicate) target f = cond (judge rule predicate) (Some (move_to target f)) None
silently_by judge (Atom label) target f = None
silently_by judge (Action action) target f = Some (record { state = target; returns = f.returns; actions = note_action f.returns action f.actions })
silently_by judge (Set first count) target f = None
silently_by judge (NotSet first count) target f = None
silently_by judge Wildcard target f = None

abbrev pub silently : (ℕ → ℕ → Bool) → Transition → Stand → Option Stand
silently judge t f = silently_by judge t.kind t.target f

-- Where one takes a step: the table, what the judge says there, and whether the end of the text is there to be matched.
pub record Here : Type 0 where
  pub atn : Atn
  pub judge : ℕ → ℕ → Bool
  pub at_end : Bool

-- Along a transition without reading a symbol: silently, or on the end of the text.
unfoldable pub passes : Here → Transition → Stand → Option Stand
passes here t f =
    cond (silent t.kind) (silently here.judge t f)
    (cond (here.at_end && matches here.atn t.kind end_of_text) (Some (move_to t.target f)) None)

-- Back to the newest return state, from a stop.
abbrev pub returned : Bool → Stand → List ℕ → Option Stand
returned false f rs = None
returned true f [] = None
returned true f (r ∷ rs) = Some (record { state = r; returns = rs; actions = f.actions })

-- Where a step that reads no symbol leads, if it can be made: along the k-th transition of the state, or back from a stop.
unfoldable pub step : Here → Step → Stand → Option Stand
step here (along k) f = option_and_then (λ t. passes here t f) (slice_get (outs here.atn f.state) k)
step here back f = returned (is_stop here.atn f.state) f f.returns

-- Where a list of such steps leads, if each of them can be made.
unfoldable pub walk : Here → List Step → Stand → Option Stand
walk here [] f = Some f
walk here (x ∷ xs) f = option_and_then (walk here xs) (step here x f)

-- Predicates count as open, and what matches the end of the text is silent.
abbrev pub openly : Atn → Here
openly a = record { atn = a; judge = λ rule predicate. true; at_end = true }

-- One or more silent steps from the state, without return states, lead back to it, with whatever return states.
abbrev pub Round : Atn → ℕ → Type 0
Round a s =
    (x : Step) × (xs : List Step) × (f : Stand) × (walk (openly a) (x ∷ xs) (fresh s) ≡ Some f) × (f.state ≡ s)

-- No state goes round.
abbrev pub NoRound : Atn → Type 0
NoRound a = (s : ℕ) → Round a s → ⊥

-- s is the lowest state that goes round.
abbrev pub LowestRound : Atn → ℕ → Type 0
LowestRound a s = (s < length a.states) × Round a s × ((k : ℕ) → k < s → Round a k → ⊥)
