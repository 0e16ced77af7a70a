use Rattle.std.proofs.Common.{sym, ◌∙◌, arith}
use Rattle.checked_table.proofs.Holding.{intervals_are, interval_is}
use Rattle.checked_table.proofs.records.Records.interval.Goals as goal

pub record-requires : goal.record-requires
record-requires c = omega (arith, intervals_are c.args.self.now, c.requires)

pub returns : goal.returns
returns c =
    let r = c.args.self.now in
    c.record.ensures ∙ sym (interval_is r c.args.i (omega (arith, intervals_are r, c.requires)))
