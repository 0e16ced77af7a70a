use Rattle.std.proofs.Common.{arith, rules}
use Rattle.checked_table.proofs.Holding.{states_are, state_kept}
use Rattle.checked_table.proofs.records.Records.is_stop.Goals as goal

pub record-raw-requires : goal.record-raw-requires
record-raw-requires c = omega (arith, states_are c.args.self.now, c.requires)

pub returns : goal.returns
returns c =
    let kept = state_kept c.args.self.now c.args.s c.record-raw.result c.requires c.record-raw.ensures in
    let stop = kept.stop in
    rw kept.is (search rules)
