use Rattle.std.proofs.Common.{◌≡◌, ℕ, ◌<◌, ◌≤◌, true, false}
use Rattle.rounds.specs.Marks.{mark, Due, unmarked}
use Rattle.rounds.proofs.exits.Marking.mark_more.Given as goal

-- once one was marked fewer are unmarked; else what was passed over is not to be marked
abbrev pub invariant-loop-s : goal.invariant-loop-s
invariant-loop-s g l =
    record {
      same : l.self.automaton.now ≡ l.initial.self.automaton.now;
      lender : l.self.marks.ghost_name ≡ l.initial.self.marks.ghost_name;
      less : l.changed ≡ true → unmarked l.self.marks.now < unmarked l.initial.self.marks.now;
      still : l.changed ≡ false → l.self.marks.now ≡ l.initial.self.marks.now;
      passed : l.changed ≡ false → (k : ℕ) → l.s ≤ k → k < (g.T.Automaton.graph l.self.automaton.now).states → Due (g.T.Automaton.graph l.self.automaton.now) l.self.marks.now k → mark l.self.marks.now k ≡ true;
    }
