use Rattle.std.proofs.Common.{rules}
use Rattle.checked_table.specs.Atn.{interval_has}
use Rattle.checked_table.proofs.records.Records.interval_has.Goals as goal

pub returns : goal.returns
unfolding interval_has
returns c = search rules
