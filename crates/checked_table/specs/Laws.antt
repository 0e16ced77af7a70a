-- What holds of every checked table.
use Rattle.std.specs.Prelude.{◌≡◌, ℕ, ◌<◌, Bool, Some}
use Rattle.rounds.specs.Rounds.{Step, Edge}
use Rattle.rounds.specs.Rank.{rank}
use Rattle.checked_table.specs.Atn.{Atn}
use Rattle.checked_table.specs.Graphs.{graph_of, total}
use Rattle.checked_table.specs.Steps.{Stand, step}

-- Every step that reads no symbol, whatever the judge says and whether the end of the text is there, takes the total down.
abbrev pub StepsFall : Atn → Type 0
StepsFall a =
    (judge : ℕ → ℕ → Bool) (at_end : Bool) (x : Step) (f g : Stand) →
    step (record { atn = a; judge = judge; at_end = at_end }) x f ≡ Some g → total a g < total a f

-- The rank of a state falls along silent transitions, into calls, and over calls whose rule can come silently to its end.
abbrev pub RanksFall : Atn → Type 0
RanksFall a = (s q : ℕ) → Edge (graph_of a) s q → rank (graph_of a) q < rank (graph_of a) s
