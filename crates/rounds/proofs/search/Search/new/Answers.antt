use Rattle.std.proofs.Common.{ℕ, ◌≤◌, replicate, arith}
use lib.ListN.{length-replicate}
use Rattle.rounds.specs.Search.{Fresh, unmet}
use Rattle.rounds.proofs.Marking.{blank}
use Rattle.rounds.proofs.Searching.{unmet_le}
use Rattle.rounds.proofs.search.Search.new.Goals as goal

unmarked : Fresh 0 (replicate 4096 0)
unmarked k = omega (arith, blank {A = ℕ} 4096 0 k)

fits : unmet 0 (replicate 4096 0) ≤ 4096
fits = rw (length-replicate {A = ℕ} 4096 0) at (unmet_le 0 (replicate 4096 0))

pub invariant_of-result-clause-fresh : goal.invariant_of-result-clause-fresh
invariant_of-result-clause-fresh c = λ k. omega (arith, unmarked k)

pub invariant_of-result-clause-room : goal.invariant_of-result-clause-room
invariant_of-result-clause-room c = fits

pub invariant_of-result-clause-listed : goal.invariant_of-result-clause-listed
invariant_of-result-clause-listed c = λ k m. absurd (omega (arith, unmarked k))

pub returns : goal.returns
returns c = unmarked
