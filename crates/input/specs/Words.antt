-- What a fault reads as.
use Rattle.std.specs.Prelude.{ℕ, List, ◌++◌, codes, decimal}
use Rattle.input.specs.Faults.{told}
use Rattle.input.specs.declared.fault.Fault.{Fault}
use Rattle.input.specs.declared.fault.Fault.TheVariants.{ImageEndsEarly, CountOutOfRange, NumbersLeftOver, RecordBreaksRule, GoesRound, NoSuchMode, BadSymbol, TextTooLong, JudgeAtEnd, SetFull, ReturnsFull, ActionsFull, PositionTooLarge, FirstListShort, SecondListShort}
use Rattle.input.specs.declared.fault.Part.{Part}
use Rattle.input.specs.declared.fault.Part.TheVariants.{Table, Text, Run}

abbrev pub name_of : Part → List ℕ
name_of Table = codes "table"
name_of Text = codes "text"
name_of Run = codes "run"

abbrev pub words_of : Fault → List ℕ
words_of (ImageEndsEarly _) = codes "the table ends before its sections are complete"
words_of (CountOutOfRange _) = codes "a count of the table is outside its limits"
words_of (NumbersLeftOver _) = codes "numbers are left over after the table's last section"
words_of (RecordBreaksRule _) = codes "a record of the table breaks a rule"
words_of (GoesRound _) = codes "the table can go round without reading a symbol"
words_of (NoSuchMode _) = codes "the table has no such mode"
words_of (BadSymbol _) = codes "not a symbol, or not well-formed UTF-8"
words_of TextTooLong = codes "longer than 1048576 numbers or bytes"
words_of (JudgeAtEnd _) = codes "a predicate would be asked past the end of the text"
words_of (SetFull _) = codes "more than 256 configurations"
words_of (ReturnsFull _) = codes "more than 16 return states"
words_of (ActionsFull _) = codes "more than 8 actions"
words_of (PositionTooLarge _) = codes "line or column above 2000000000"
words_of (FirstListShort _) = codes "the first work list has fewer than 256 entries"
words_of (SecondListShort _) = codes "the second work list has fewer than 256 entries"

-- the number, the place and the part, and then the words
abbrev pub line_of : Fault → List ℕ
line_of f = codes "refused " ++ (decimal (told f).number ++ (codes " at " ++ (decimal (told f).place ++ (codes " in " ++ (name_of (told f).part ++ (codes ": " ++ words_of f))))))
