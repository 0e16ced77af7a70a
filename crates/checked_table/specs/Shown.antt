-- What the counts of a table read as.
use Rattle.std.specs.Prelude.{ℕ, List, ◌++◌, codes, decimal}
use Rattle.checked_table.specs.declared.counts.Counts.{Counts}

abbrev pub counts_line : Counts → List ℕ
counts_line c =
    decimal c.states ++ (codes " states, "
    ++ (decimal c.transitions ++ (codes " transitions, "
    ++ (decimal c.intervals ++ (codes " intervals, "
    ++ (decimal c.modes ++ (codes " modes, "
    ++ (decimal c.rules ++ (codes " rules, "
    ++ (decimal c.actions ++ codes " actions"))))))))))
