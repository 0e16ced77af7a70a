use Rattle.std.proofs.Common.{◌≡◌, ◌+◌, ◌^◌, ◌<◌, length}
use Rattle.decimals.specs.Words.{left, words_from}
use Rattle.decimals.proofs.words.Words.skip_gap.Given as goal

abbrev pub invariant-loop-byte : goal.invariant-loop-byte
invariant-loop-byte l = (l.line + length l.rest < 2 ^ 64) × (words_from l.comment l.line l.rest ≡ left l.initial.self)

abbrev pub decreases-loop-byte : goal.decreases-loop-byte
decreases-loop-byte l = length l.rest
