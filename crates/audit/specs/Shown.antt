-- What reports and totals read as.
use Rattle.std.specs.Prelude.{ℕ, List, ◌++◌, Ok, Err, Result, codes, decimal}
use Rattle.audit.specs.declared.report.Read.{Read}
use Rattle.input.specs.declared.fault.Fault.{Fault}
use Rattle.audit.specs.declared.totals.Totals.{Totals}
use Rattle.input.specs.Words.{line_of}

abbrev pub read_line : Read → List ℕ
read_line r = decimal r.symbols ++ (codes " symbols, " ++ (decimal r.bytes ++ codes " bytes"))

abbrev pub report_line : Result Read Fault → List ℕ
report_line (Ok read) = read_line read
report_line (Err fault) = line_of fault

abbrev pub totals_line : Totals → List ℕ
totals_line t = decimal t.lines ++ (codes " lines, " ++ (decimal t.symbols ++ (codes " symbols, " ++ (decimal t.refused ++ codes " refused"))))
