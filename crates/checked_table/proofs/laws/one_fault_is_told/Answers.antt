use Rattle.checked_table.proofs.Judging.{one_fault}
use Rattle.checked_table.proofs.laws.one_fault_is_told.Goals as goal

pub returns : goal.returns
returns c = one_fault
