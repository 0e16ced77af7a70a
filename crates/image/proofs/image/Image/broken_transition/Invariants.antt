use Rattle.std.proofs.Common.{◌≡◌, ℕ, ◌<◌, ◌≤◌, true}
use Rattle.image.specs.Raw.{counts_before}
use Rattle.image.specs.Rules.{transition_keeps}
use Rattle.image.proofs.image.Image.broken_transition.Given as goal

abbrev pub invariant-loop-k : goal.invariant-loop-k
invariant-loop-k l =
    (l.first ≡ counts_before l.self.numbers.now l.self.sections l.k)
    × (l.first ≤ 16384)
    × ((t : ℕ) → t < l.first → transition_keeps l.self.numbers.now l.self.sections t ≡ true)
