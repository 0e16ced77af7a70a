-- What an error reads as.
use Rattle.std.specs.Prelude.{ℕ, List, ◌++◌, codes, decimal}
use Rattle.decimals.specs.declared.error.NumbersError.{NumbersError}
use Rattle.decimals.specs.declared.error.NumbersError.TheVariants.{NoNumber, NotANumber, OutOfRange, NoMemory}

abbrev pub line_of : NumbersError → List ℕ
line_of NoNumber = codes "holds no number"
line_of (NotANumber line) = codes "line " ++ (decimal line ++ codes ": not a decimal number")
line_of (OutOfRange line) = codes "line " ++ (decimal line ++ codes ": a number that does not fit 32 bits")
line_of NoMemory = codes "no memory for the numbers"
