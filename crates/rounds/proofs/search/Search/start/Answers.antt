use Rattle.std.proofs.Common.{arith}
use Rattle.rounds.proofs.Searching.{unmet_le}
use Rattle.rounds.proofs.search.Search.start.Goals as goal

pub invariant_of-self-clause-room : goal.invariant_of-self-clause-room
invariant_of-self-clause-room c = omega (arith, unmet_le c.args.s c.args.self.now.marks)

pub invariant_of-self-clause-listed : goal.invariant_of-self-clause-listed
invariant_of-self-clause-listed c = λ k m. absurd (omega (arith, c.requires.fresh k))
