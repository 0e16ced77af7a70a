use Rattle.std.proofs.Common.{◌≡◌, ℕ, ◌<◌, ◌≤◌, false}
use Rattle.rounds.specs.Marks.{opened}
use Rattle.rounds.proofs.exits.Marking.is_due.Given as goal

-- no transition passed so far opens
abbrev pub invariant-loop-t : goal.invariant-loop-t
invariant-loop-t g l =
    (k : ℕ) → l.first ≤ k → k < l.t → opened (g.T.Automaton.graph l.self.automaton.now) l.self.marks.now k ≡ false
