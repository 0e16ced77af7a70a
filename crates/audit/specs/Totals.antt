-- The totals of lines, and of a whole recording.
use Rattle.std.specs.Prelude.{ℕ, ◌+◌, ◌^◌, ◌<◌, List, length, Ok, Err, Result}
use Rattle.audit.specs.Lines.{lines_of}
use Rattle.audit.specs.Reports.{symbols_in, refused_in}
use Rattle.audit.specs.declared.report.Read.{Read}
use Rattle.input.specs.declared.fault.Fault.{Fault}
use Rattle.audit.specs.declared.totals.Totals.{Totals}

-- the totals with one more line, by its report
abbrev pub counted : Totals → Result Read Fault → Totals
counted t (Ok read) = record { lines = t.lines + 1; symbols = t.symbols + read.symbols; refused = t.refused }
counted t (Err fault) = record { lines = t.lines + 1; symbols = t.symbols; refused = t.refused + 1 }

-- the totals of lines
abbrev pub total_in : List (List ℕ) → Totals
total_in ls = record { lines = length ls; symbols = symbols_in ls; refused = refused_in ls }

-- the totals of a whole recording
abbrev pub total_of : List ℕ → Totals
total_of recording = total_in (lines_of recording)

-- two totals together
abbrev pub both : Totals → Totals → Totals
both t u = record { lines = t.lines + u.lines; symbols = t.symbols + u.symbols; refused = t.refused + u.refused }

-- each number fits a `usize`
abbrev pub Fit : Totals → Type 0
Fit t = (t.lines < 2 ^ 64) × (t.symbols < 2 ^ 64) × (t.refused < 2 ^ 64)
