use Rattle.std.proofs.Common.{arith, rules}
use Rattle.checked_table.proofs.Holding.{modes_are, mode_kept}
use Rattle.checked_table.proofs.records.Records.mode.Goals as goal

pub record-raw-requires : goal.record-raw-requires
record-raw-requires c = omega (arith, modes_are c.args.self.now, c.requires)

pub small-requires : goal.small-requires
small-requires c = let small = (mode_kept c.args.self.now c.args.m c.record-raw.result c.requires c.record-raw.ensures).small in search rules

pub returns : goal.returns
returns c = rw (mode_kept c.args.self.now c.args.m c.record-raw.result c.requires c.record-raw.ensures).is (search rules)
