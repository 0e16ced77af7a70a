use Rattle.std.proofs.Common.{◌≡◌, ℕ, ◌-◌, ◌<◌, ◌≤◌, get_or}
use Rattle.rounds.specs.Rounds.{Reach}
use Rattle.rounds.specs.Growth.{HasMet}
use Rattle.rounds.proofs.Searching.{Covers}
use Rattle.rounds.proofs.edges.Edges.comes_back.Given as goal

-- s reaches what was met, and what s and the states taken so far have an edge to was met
abbrev pub invariant-loop-s : goal.invariant-loop-s
invariant-loop-s g l =
    record {
      from : l.search.from ≡ l.s;
      within : l.head ≤ l.search.end;
      reached : (k : ℕ) → HasMet l.search k → Reach (g.T.Automaton.graph l.self.automaton.now) k l.s;
      start : Covers (g.T.Automaton.graph l.self.automaton.now) l.search l.s;
      taken : (j : ℕ) → j < l.head → Covers (g.T.Automaton.graph l.self.automaton.now) l.search (get_or l.search.list j 0);
    }

abbrev pub decreases-loop-s : goal.decreases-loop-s
decreases-loop-s g l = 4096 - l.head
