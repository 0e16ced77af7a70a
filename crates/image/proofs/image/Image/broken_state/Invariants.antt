use Rattle.std.proofs.Common.{◌≡◌, ℕ, ◌<◌, ◌≤◌, true}
use Rattle.image.specs.Raw.{counts_before}
use Rattle.image.specs.Rules.{state_keeps}
use Rattle.image.proofs.image.Image.broken_state.Given as goal

abbrev pub invariant-loop-k : goal.invariant-loop-k
invariant-loop-k l =
    (l.earlier ≡ counts_before l.self.numbers.now l.self.sections l.k)
    × (l.earlier ≤ 16384)
    × ((j : ℕ) → j < l.k → state_keeps l.self.numbers.now l.self.sections j ≡ true)
