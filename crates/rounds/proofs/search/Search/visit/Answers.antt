use Rattle.std.proofs.Common.{◌<◌, length, arith}
use Rattle.rounds.specs.Growth.{HasMet}
use Rattle.rounds.proofs.Searching.{unmet-visit, fresh_visit, met_visit, listed_visit}
use Rattle.rounds.proofs.search.Search.visit.Goals as goal

pub invariant_of-self : goal.invariant_of-self
invariant_of-self c =
    let a = c.args.self.now in
    let q = c.args.q in
    let unmetq : HasMet a q → ⊥ = λ m. let h = c.has_met.ensures.1 m in cc in
    let inside : q < length a.marks = omega arith in
    let fewer = unmet-visit a q unmetq inside in
    let fits : a.end < length a.list = omega (arith, a.room) in
    rw c.from.ensures
    record {
      few = a.few;
      fresh = fresh_visit a q unmetq inside;
      room = omega (arith, a.room);
      met = met_visit a q unmetq inside fits;
      listed = listed_visit a q unmetq inside fits;
    }
