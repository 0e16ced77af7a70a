use Rattle.rounds.specs.Growth.{Grown}
use Rattle.rounds.proofs.Searching.{EdgeBelow}
use Rattle.rounds.proofs.edges.Edges.expand.Given as goal

-- what the transitions passed so far lead to was met
abbrev pub invariant-loop-t : goal.invariant-loop-t
invariant-loop-t g l = Grown (EdgeBelow (g.T.Automaton.graph l.self.automaton.now) l.x l.t) l.initial.search l.search
