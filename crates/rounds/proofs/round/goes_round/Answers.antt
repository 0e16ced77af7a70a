use Rattle.std.proofs.Common.{false, refl, arith}
use Rattle.rounds.proofs.Marking.{blank}
use Rattle.rounds.proofs.Searching.{lowest_round, no_round}
use Rattle.rounds.proofs.round.goes_round.Goals as goal

pub mark_exits-requires-clause-blank : goal.mark_exits-requires-clause-blank
mark_exits-requires-clause-blank g c = blank 4096 false

pub returns-then-comes_back : goal.returns-then-comes_back
returns-then-comes_back g c =
    lowest_round (g.T.Automaton.graph c.args.automaton.now) c.loop-s.s (omega arith) (c.if-comes_back.ensures.exact.0 refl) c.loop-s.invariant.none

pub returns : goal.returns
returns g c =
    no_round (g.T.Automaton.graph c.args.automaton.now) c.loop-s.s c.requires.sound (omega arith) c.loop-s.invariant.none
