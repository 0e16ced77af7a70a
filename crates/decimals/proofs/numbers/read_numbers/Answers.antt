use Rattle.std.proofs.Common.{vec_items, rules}
use Rattle.decimals.specs.Numbers.{numbers_in}
use Rattle.decimals.specs.Words.{found, left, words_of}
use Rattle.decimals.proofs.Values.{numbers_more}
use Rattle.decimals.proofs.numbers.read_numbers.Goals as goal

pub loop-word-preserved : goal.loop-word-preserved
loop-word-preserved c =
    let word = c.in-Some.word in
    numbers_more (vec_items c.loop-word.numbers) (vec_items c.push.new.self) c.in_ok-number_of.field-0 (found word.line word.bytes.now)
    (left c.loop-word.word-iterator) (left c.next.new.self) (numbers_in (words_of c.args.text.now)) (search rules)
    c.in_ok-push.ensures.items c.in_ok-number_of.ensures c.in-Some.ensures.steps c.loop-word.invariant
