use Rattle.std.proofs.Common.{◌≡◌, vec_items}
use Rattle.decimals.proofs.Values.{after}
use Rattle.decimals.specs.Numbers.{numbers_in}
use Rattle.decimals.specs.Words.{left, words_of}
use Rattle.decimals.proofs.numbers.read_numbers.Given as goal

abbrev pub invariant-loop-word : goal.invariant-loop-word
invariant-loop-word l = after (vec_items l.numbers) (numbers_in (left l.word-iterator)) ≡ numbers_in (words_of l.text)
