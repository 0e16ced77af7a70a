use Rattle.std.proofs.Common.{arith, length-set}
use Rattle.std.proofs.lemmas.List.{take_more_set}
use Rattle.ordered_set.specs.Members.{members}
use Rattle.ordered_set.proofs.Distinct.{distinct_push}
use Rattle.ordered_set.proofs.set.OrderedSet.add.Goals as goal

pub invariant_of-self-then-at-self : goal.invariant_of-self-then-at-self
invariant_of-self-then-at-self g c =
    let s = c.args.self.now in
    let size = length-set s.items.now s.len c.args.x in
    let within = c.if-at-self.true in
    record {
      fits = omega arith;
      distinct = rw take_more_set (distinct_push (members s) c.args.x s.distinct c.in_default.ensures.means);
    }
