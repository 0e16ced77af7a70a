use Rattle.checked_table.specs.Means.{atn_in}
use Rattle.checked_table.proofs.Holding.{formed}
use Rattle.checked_table.proofs.Bridging.{ranks_fall_lem, steps_fall_lem}
use Rattle.checked_table.proofs.checked.Table.laws.Goals as goal

pub returns : goal.returns
returns c =
    let t = c.args.self.now in
    let good = formed t.records in
    record { formed = good; ends = t.ends; ranks = ranks_fall_lem (atn_in t.records) good t.ends; falls = steps_fall_lem (atn_in t.records) good t.ends }
