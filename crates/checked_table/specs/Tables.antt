-- What a checked table means.
use Rattle.checked_table.specs.declared.checked.Table.{Table}
use Rattle.checked_table.specs.Atn.{Atn}
use Rattle.checked_table.specs.Means.{atn_in}

abbrev pub atn : Table → Atn
atn t = atn_in t.records
