use Rattle.std.proofs.Common.{◌∙◌, arith, rules}
use Rattle.std.proofs.lemmas.Bool.{false≢true}
use Rattle.checked_table.proofs.Holding.{actions_are, action_kept}
use Rattle.checked_table.proofs.records.Records.action.Goals as goal

pub record-raw-requires : goal.record-raw-requires
record-raw-requires c = omega (arith, actions_are c.args.self.now, c.requires)

pub unreachable-requires : goal.unreachable-requires
unreachable-requires c = false≢true (c.in_default.ensures.keeps ∙ (action_kept c.args.self.now c.args.a c.record-raw.result c.requires c.record-raw.ensures).keeps)

pub returns : goal.returns
returns c = rw (action_kept c.args.self.now c.args.a c.record-raw.result c.requires c.record-raw.ensures).is (search rules)
