use Rattle.std.proofs.Common.{arith, rules}
use Rattle.checked_table.proofs.Holding.{transitions_are, transition_kept}
use Rattle.checked_table.proofs.records.Records.leads_to.Goals as goal

pub record-raw-requires : goal.record-raw-requires
record-raw-requires c = omega (arith, transitions_are c.args.self.now, c.requires)

pub small-requires : goal.small-requires
small-requires c = let small = (transition_kept c.args.self.now c.args.t c.record-raw.result c.requires c.record-raw.ensures).small in search rules

pub returns : goal.returns
returns c = rw (transition_kept c.args.self.now c.args.t c.record-raw.result c.requires c.record-raw.ensures).is (search rules)
