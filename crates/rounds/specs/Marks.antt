-- Marks that say which states exit.
use Rattle.std.specs.Prelude.{◌≡◌, ℕ, ◌<◌, Bool, true, false, not, ◌&&◌, ◌⊎◌, List, count_by, slice_index_or}
use Rattle.rounds.specs.declared.passing.Passing.{Passing}
use Rattle.rounds.specs.declared.passing.Passing.TheVariants.{Silent, Call, Reads}
use Rattle.rounds.specs.Rounds.{Graph, Of}

-- The mark of s.
abbrev pub mark : List Bool → ℕ → Bool
mark marks s = slice_index_or marks s false

-- The transition t, passed in the given way, leads to marked states alone.
abbrev pub opens_by : Graph → List Bool → ℕ → Passing → Bool
opens_by g marks t Silent = mark marks (g.target t)
opens_by g marks t Call = mark marks (g.target t) && mark marks (g.return_state t)
opens_by g marks t Reads = false

-- The transition t leads to marked states alone.
abbrev pub opened : Graph → List Bool → ℕ → Bool
opened g marks t = opens_by g marks t (g.passing t)

-- s is due to be marked: it is a stop, or a transition leads to marked states alone.
abbrev pub Due : Graph → List Bool → ℕ → Type 0
Due g marks s = (g.stop s ≡ true) ⊎ ((t : ℕ) × Of g s t × (opened g marks t ≡ true))

-- Every state that is due is marked.
abbrev pub Closed : Graph → List Bool → Type 0
Closed g marks = (s : ℕ) → s < g.states → Due g marks s → mark marks s ≡ true

-- How many are not marked.
abbrev pub unmarked : List Bool → ℕ
unmarked marks = count_by not marks
