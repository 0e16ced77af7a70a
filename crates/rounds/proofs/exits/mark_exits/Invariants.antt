use Rattle.std.proofs.Common.{◌≡◌}
use Rattle.rounds.specs.Marks.{unmarked}
use Rattle.rounds.proofs.exits.mark_exits.Given as goal

abbrev pub invariant-loop-marking : goal.invariant-loop-marking
invariant-loop-marking g l =
    record {
      same : l.marking.automaton.now ≡ l.automaton;
      lender : l.marking.marks.ghost_name ≡ l.initial.marking.marks.ghost_name;
    }

abbrev pub decreases-loop-marking : goal.decreases-loop-marking
decreases-loop-marking g l = unmarked l.marking.marks.now
