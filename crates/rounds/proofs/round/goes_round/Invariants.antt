use Rattle.rounds.specs.Search.{Fresh, NoneBelow}
use Rattle.rounds.proofs.round.goes_round.Given as goal

-- no state passed so far goes round, and no mark of the searches to come is there
abbrev pub invariant-loop-s : goal.invariant-loop-s
invariant-loop-s g l =
    record {
      fresh : Fresh l.s l.search.marks;
      none : NoneBelow (g.T.Automaton.graph l.automaton) l.s;
    }
