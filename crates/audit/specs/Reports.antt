-- What an audit reports of a line, and of all lines together.
use Rattle.std.specs.Prelude.{◌≡◌, ℕ, ◌+◌, Bool, cond, ◌&&◌, List, [], ◌∷◌, length, Ok, Err, Result, ◌==◌, nat_le}
use Rattle.audit.specs.declared.report.Read.{Read}
use Rattle.input.specs.declared.fault.Fault.{Fault}
use Rattle.input.specs.Faults.{told}
use Rattle.input.specs.Utf8.{Readable, Refused, stop_of, text_of}

-- a text is read with all its symbols, and what is no text is refused for the reason that the rules fix
abbrev pub Audited : List ℕ → Result Read Fault → Type 0
Audited line (Ok read) = Readable line × (read.symbols ≡ length (text_of line).symbols) × (read.bytes ≡ length line)
Audited line (Err fault) = Refused line (told fault)

-- is the line a text?
abbrev pub is_text : List ℕ → Bool
is_text line = nat_le (length line) 1048576 && stop_of line == length line

-- the symbols of all lines that are texts
abbrev pub symbols_in : List (List ℕ) → ℕ
symbols_in [] = 0
symbols_in (l ∷ ls) = cond (is_text l) (length (text_of l).symbols) 0 + symbols_in ls

-- the lines that are no texts
abbrev pub refused_in : List (List ℕ) → ℕ
refused_in [] = 0
refused_in (l ∷ ls) = cond (is_text l) 0 1 + refused_in ls
