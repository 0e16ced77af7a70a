-- Silent walks of an automaton with calls, the states that go round, and the edges that say which do.
use Rattle.std.specs.Prelude.{◌≡◌, ℕ, ◌+◌, ◌<◌, ◌≤◌, Bool, true, cond, ◌&&◌, List, [], ◌∷◌, nat_le, nat_lt}
use Rattle.std.proofs.Math.Option.{Option, none, some}
use Rattle.rounds.specs.declared.passing.Passing.{Passing}
use Rattle.rounds.specs.declared.passing.Passing.TheVariants.{Silent, Call, Reads}

-- An automaton: its states and transitions go by numbers. The transitions of a state s are the `count s` ones
-- from `first s` on; a call goes to its target and has a return state.
pub record Graph : Type 0 where
  pub states : ℕ
  pub transitions : ℕ
  pub first : ℕ → ℕ
  pub count : ℕ → ℕ
  pub stop : ℕ → Bool
  pub passing : ℕ → Passing
  pub target : ℕ → ℕ
  pub return_state : ℕ → ℕ

-- t is one of the transitions of s.
abbrev pub Of : Graph → ℕ → ℕ → Type 0
Of g s t = (g.first s ≤ t) × (t < g.first s + g.count s)

-- Only states of the automaton are stops or have transitions; these lie in the automaton, and the states that
-- they name too.
pub record Sound (g : Graph) : Type 0 where
  pub stops : (s : ℕ) → g.stop s ≡ true → s < g.states
  pub owns : (s t : ℕ) → Of g s t → s < g.states
  pub spans : (s : ℕ) → s < g.states → g.first s + g.count s ≤ g.transitions
  pub targets : (t : ℕ) → t < g.transitions → g.target t < g.states
  pub return_states : (t : ℕ) → t < g.transitions → g.passing t ≡ Call → g.return_state t < g.states

-- The test for Of.
abbrev pub has : Graph → ℕ → ℕ → Bool
has g s t = nat_le (g.first s) t && nat_lt t (g.first s + g.count s)

-- Where a walk stands: at a state, with the states to return to, the newest first.
pub record Stand : Type 0 where
  pub state : ℕ
  pub returns : List ℕ

-- At state s with the return states rs.
abbrev pub standing : ℕ → List ℕ → Stand
standing s rs = record { state = s; returns = rs }

-- A silent step: along a transition, or back from a stop to the newest return state.
pub data Step : Type 0 where
  along : ℕ → Step
  back : Step

-- Where a transition leads without reading: a call leaves its return state as the newest.
abbrev pub follow : Graph → Passing → ℕ → List ℕ → Option Stand
follow g Silent t rs = some (standing (g.target t) rs)
follow g Call t rs = some (standing (g.target t) (g.return_state t ∷ rs))
follow g Reads t rs = none

-- Back at the newest return state, if there is one.
abbrev pub pop : List ℕ → Option Stand
pop [] = none
pop (r ∷ rs) = some (standing r rs)

-- Where a silent step leads, if it can be made.
abbrev pub step : Graph → Step → Stand → Option Stand
step g (along t) p = cond (has g p.state t) (follow g (g.passing t) t p.returns) none
step g back p = cond (g.stop p.state) (pop p.returns) none

-- What f makes of it, if there is one.
abbrev pub and_then : Option Stand → (Stand → Option Stand) → Option Stand
and_then none f = none
and_then (some p) f = f p

-- Where a list of steps leads, if each of them can be made.
abbrev pub walk : Graph → List Step → Stand → Option Stand
walk g [] p = some p
walk g (x ∷ xs) p = and_then (step g x p) (walk g xs)

-- One or more silent steps from s without return states lead back to s, with whatever return states.
abbrev pub Round : Graph → ℕ → Type 0
Round g s =
    (x : Step) × (xs : List Step) × (rs : List ℕ) × (walk g (x ∷ xs) (standing s []) ≡ some (standing s rs))

-- No state goes round.
abbrev pub NoRound : Graph → Type 0
NoRound g = (s : ℕ) → Round g s → ⊥

-- s is the lowest state that goes round.
abbrev pub LowestRound : Graph → ℕ → Type 0
LowestRound g s = (s < g.states) × Round g s × ((k : ℕ) → k < s → Round g k → ⊥)

-- Silent steps lead from s without return states to a stop without return states.
abbrev pub Exits : Graph → ℕ → Type 0
Exits g s =
    (xs : List Step) × (t : ℕ) × (g.stop t ≡ true) × (walk g xs (standing s []) ≡ some (standing t []))

-- Where edges by a transition lead: along a silent one, into a call, and over a call that can come back.
pub data Leads (g : Graph) (t q : ℕ) : Type 0 where
  plain : g.passing t ≡ Silent → g.target t ≡ q → Leads g t q
  into : g.passing t ≡ Call → g.target t ≡ q → Leads g t q
  over : g.passing t ≡ Call → Exits g (g.target t) → g.return_state t ≡ q → Leads g t q

-- An edge from s to q, by one of the transitions of s.
abbrev pub Edge : Graph → ℕ → ℕ → Type 0
Edge g s q = (t : ℕ) × Of g s t × Leads g t q

-- One or more edges lead from s to q.
pub data Reach (g : Graph) (q : ℕ) : ℕ → Type 0 where
  one : {s : ℕ} → Edge g s q → Reach g q s
  more : {s p : ℕ} → Edge g s p → Reach g q p → Reach g q s

-- One or more edges lead from s to s.
abbrev pub Cycle : Graph → ℕ → Type 0
Cycle g s = Reach g s s

-- A state goes round exactly when it reaches itself by edges.
abbrev pub RoundsAreCycles : Type 0
RoundsAreCycles =
    (g : Graph) (s : ℕ) →
    (Round g s → Cycle g s) × (Cycle g s → Round g s)
