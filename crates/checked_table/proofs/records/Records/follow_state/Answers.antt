use Rattle.std.proofs.Common.{arith, rules}
use Rattle.checked_table.proofs.Calls.{back_is}
use Rattle.checked_table.proofs.Holding.{transitions_are}
use Rattle.checked_table.proofs.records.Records.follow_state.Goals as goal

pub record-raw-requires : goal.record-raw-requires
record-raw-requires c = omega (arith, transitions_are c.args.self.now, c.requires.inside)

pub small-requires : goal.small-requires
small-requires c = let back = back_is c.args.self.now c.args.t c.record-raw.result c.requires.inside c.record-raw.ensures c.requires.call in search rules

pub returns : goal.returns
returns c = let back = back_is c.args.self.now c.args.t c.record-raw.result c.requires.inside c.record-raw.ensures c.requires.call in search rules
