use Rattle.std.proofs.Common.{arith, rules}
use Rattle.checked_table.proofs.Holding.{rules_are, rule_kept}
use Rattle.checked_table.proofs.records.Records.rule.Goals as goal

pub record-raw-requires : goal.record-raw-requires
record-raw-requires c = omega (arith, rules_are c.args.self.now, c.requires)

pub small-requires : goal.small-requires
small-requires c = let small = (rule_kept c.args.self.now c.args.r c.record-raw.result c.requires c.record-raw.ensures).small.0 in search rules

pub small-requires-2 : goal.small-requires-2
small-requires-2 c = let small = (rule_kept c.args.self.now c.args.r c.record-raw.result c.requires c.record-raw.ensures).small.1 in search rules

pub small-requires-3 : goal.small-requires-3
small-requires-3 c = let small = (rule_kept c.args.self.now c.args.r c.record-raw.result c.requires c.record-raw.ensures).small.2 in search rules

pub returns : goal.returns
returns c = rw (rule_kept c.args.self.now c.args.r c.record-raw.result c.requires c.record-raw.ensures).is (search rules)
