use Rattle.std.proofs.Common.{arith, rules}
use Rattle.std.proofs.lemmas.List.Sums.{prefix_len-le-length}
use Rattle.decimals.specs.Words.{is_ink}
use Rattle.decimals.proofs.Cuts.{first_word}
use Rattle.decimals.proofs.words.methods.WordsIterator.next.Goals as goal

pub split_at-requires : goal.split_at-requires
split_at-requires c = omega (arith, prefix_len-le-length is_ink c.skip_gap.new.self.rest.now)

pub returns-clause-steps : goal.returns-clause-steps
returns-clause-steps c =
    let s = c.skip_gap.new.self in
    let first = first_word s.line s.rest.now (search rules) (c.skip_gap.ensures.ink (search rules)) in
    cc

pub returns-clause-goes : goal.returns-clause-goes
returns-clause-goes c =
    let first = returns-clause-steps c in
    search rules
