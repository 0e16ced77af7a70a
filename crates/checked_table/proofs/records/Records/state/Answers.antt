use Rattle.std.proofs.Common.{◌∙◌, arith, rules}
use Rattle.std.proofs.lemmas.Bool.{false≢true}
use Rattle.checked_table.proofs.Holding.{states_are, state_kept}
use Rattle.checked_table.proofs.records.Records.state.Goals as goal

pub record-r-requires : goal.record-r-requires
record-r-requires c = omega (arith, states_are c.args.self.now, c.requires)

pub unreachable-requires : goal.unreachable-requires
unreachable-requires c = false≢true (c.in_default.ensures.keeps ∙ (state_kept c.args.self.now c.args.s c.record-r.result c.requires c.record-r.ensures).keeps)

pub small-requires-2 : goal.small-requires-2
small-requires-2 c = let small = (state_kept c.args.self.now c.args.s c.record-r.result c.requires c.record-r.ensures).small.1 in search rules

pub small-requires-3 : goal.small-requires-3
small-requires-3 c = let small = (state_kept c.args.self.now c.args.s c.record-r.result c.requires c.record-r.ensures).small.2 in search rules

pub returns : goal.returns
returns c = rw (state_kept c.args.self.now c.args.s c.record-r.result c.requires c.record-r.ensures).is (search rules)
