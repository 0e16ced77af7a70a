use Rattle.std.proofs.Common.{arith, rules}
use Rattle.checked_table.proofs.Holding.{states_are, state_kept}
use Rattle.checked_table.proofs.records.Records.span.Goals as goal

pub record-r-requires : goal.record-r-requires
record-r-requires c = omega (arith, states_are c.args.self.now, c.requires)

pub small-requires : goal.small-requires
small-requires c = let small = (state_kept c.args.self.now c.args.s c.record-r.result c.requires c.record-r.ensures).small.1 in search rules

pub small-requires-2 : goal.small-requires-2
small-requires-2 c = let small = (state_kept c.args.self.now c.args.s c.record-r.result c.requires c.record-r.ensures).small.2 in search rules

pub returns-clause-first : goal.returns-clause-first
returns-clause-first c = rw (state_kept c.args.self.now c.args.s c.record-r.result c.requires c.record-r.ensures).is (search rules)

pub returns-clause-count : goal.returns-clause-count
returns-clause-count c = rw (state_kept c.args.self.now c.args.s c.record-r.result c.requires c.record-r.ensures).is (search rules)
