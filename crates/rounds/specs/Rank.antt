-- The rank of a state, by computation over the automaton, and the measure that falls with every silent step.
use Rattle.std.specs.Prelude.{◌≡◌, ℕ, zero, suc, ◌+◌, ◌^◌, ◌<◌, Bool, true, false, cond, ◌&&◌, ◌||◌, List, [], ◌∷◌, ◌==◌}
use Rattle.std.proofs.Math.Option.{some}
use Rattle.rounds.specs.declared.passing.Passing.{Passing}
use Rattle.rounds.specs.declared.passing.Passing.TheVariants.{Silent, Call, Reads}
use Rattle.rounds.specs.Rounds.{Graph, Sound, NoRound, Stand, Step, step, Edge}
use Rattle.rounds.specs.Marks.{mark, opened}

-- One of f a, .., f (a + n - 1) is true.
unfoldable pub some_of : (ℕ → Bool) → ℕ → ℕ → Bool
some_of f a zero = false
some_of f a (suc n) = f a || some_of f (suc a) n

-- How many of f 0, .., f (n - 1) are true.
unfoldable pub tally : (ℕ → Bool) → ℕ → ℕ
tally f zero = 0
tally f (suc n) = cond (f n) 1 0 + tally f n

-- The list f 0, .., f (n - 1).
unfoldable pub listed : (ℕ → Bool) → ℕ → List Bool
listed f zero = []
listed f (suc n) = f 0 ∷ listed (λ k. f (suc k)) n

-- One pass marks what the rule says beside what is marked.
unfoldable pub pass : (List Bool → ℕ → Bool) → ℕ → List Bool → List Bool
pass rule n marks = listed (λ s. mark marks s || rule marks s) n

-- k passes over n marks, of which none is set at first.
unfoldable pub passed : (List Bool → ℕ → Bool) → ℕ → ℕ → List Bool
passed rule n zero = listed (λ s. false) n
passed rule n (suc k) = pass rule n (passed rule n k)

-- One of the transitions of s passes the test.
abbrev pub some_transition : Graph → (ℕ → Bool) → ℕ → Bool
some_transition g test s = some_of test (g.first s) (g.count s)

-- s is a stop, or a transition leads to marked states alone.
abbrev pub exit_rule : Graph → List Bool → ℕ → Bool
exit_rule g marks s = g.stop s || some_transition g (opened g marks) s

-- The states that exit, by as many passes as there are states.
unfoldable pub exit_marks : Graph → List Bool
exit_marks g = passed (exit_rule g) g.states g.states

-- The state s exits.
abbrev pub can_exit : Graph → ℕ → Bool
can_exit g s = mark (exit_marks g) s

-- Only what exits is marked.
abbrev pub OnlyExits : Graph → List Bool → Type 0
OnlyExits g marks = (s : ℕ) → mark marks s ≡ true → can_exit g s ≡ true

-- A state is marked exactly when it exits.
abbrev pub ExactlyExits : Graph → List Bool → Type 0
ExactlyExits g marks = (s : ℕ) → mark marks s ≡ can_exit g s

-- An edge by the transition t, passed in the given way, leads to q, where the marks say which states exit.
abbrev pub leads_by : Graph → List Bool → ℕ → Passing → ℕ → Bool
leads_by g marks t Silent q = g.target t == q
leads_by g marks t Call q = g.target t == q || (mark marks (g.target t) && g.return_state t == q)
leads_by g marks t Reads q = false

-- An edge leads from s to q, where the marks say which states exit.
abbrev pub linked : Graph → List Bool → ℕ → ℕ → Bool
linked g marks s q = some_transition g (λ t. leads_by g marks t (g.passing t) q) s

-- An edge leads to q from s, or from a state that was met.
abbrev pub reach_rule : Graph → List Bool → ℕ → List Bool → ℕ → Bool
reach_rule g marks s met q =
    linked g marks s q || some_of (λ x. mark met x && linked g marks x q) 0 g.states

-- The states that s reaches, by as many passes as there are states.
unfoldable pub reach_marks : Graph → ℕ → List Bool
reach_marks g s = passed (reach_rule g (exit_marks g) s) g.states g.states

-- How many states s reaches.
unfoldable pub rank : Graph → ℕ → ℕ
rank g s = tally (mark (reach_marks g s)) g.states

-- The measure of a state with return states: these count only where the state exits.
unfoldable pub total : Graph → ℕ → List ℕ → ℕ
total g s [] = 4 ^ rank g s
total g s (r ∷ rs) = 4 ^ rank g s + cond (can_exit g s) (1 + total g r rs) 0

-- Where no state goes round, the rank falls along every edge.
abbrev pub RanksFall : Type 0
RanksFall =
    (g : Graph) → Sound g → NoRound g →
    (s q : ℕ) → Edge g s q → rank g q < rank g s

-- Where no state goes round, the total falls with every silent step.
abbrev pub StepsFall : Type 0
StepsFall =
    (g : Graph) → Sound g → NoRound g →
    (x : Step) (p q : Stand) → step g x p ≡ some q → total g q.state q.returns < total g p.state p.returns
