use Rattle.std.proofs.Common.{◌∙◌, arith, rules}
use Rattle.std.proofs.lemmas.Bool.{false≢true}
use Rattle.checked_table.proofs.Holding.{transitions_are, transition_kept}
use Rattle.checked_table.proofs.records.Records.transition.Goals as goal

pub record-r-requires : goal.record-r-requires
record-r-requires c = omega (arith, transitions_are c.args.self.now, c.requires)

pub unreachable-requires : goal.unreachable-requires
unreachable-requires c = false≢true (c.in_default.ensures.keeps ∙ (transition_kept c.args.self.now c.args.t c.record-r.result c.requires c.record-r.ensures).keeps)

pub small-requires : goal.small-requires
small-requires c = let small = (transition_kept c.args.self.now c.args.t c.record-r.result c.requires c.record-r.ensures).small in search rules

pub returns-clause-is : goal.returns-clause-is
returns-clause-is c = rw (transition_kept c.args.self.now c.args.t c.record-r.result c.requires c.record-r.ensures).is (search rules)

pub returns-clause-fits : goal.returns-clause-fits
returns-clause-fits c = rw c.in-Some.ensures.means (transition_kept c.args.self.now c.args.t c.record-r.result c.requires c.record-r.ensures).fits
