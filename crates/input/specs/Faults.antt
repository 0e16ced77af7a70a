-- What each fault tells: its number, the place it names and the part it is about. Every promise about a refusal goes through `told`.
use Rattle.std.specs.Prelude.{ℕ}
use Rattle.input.specs.declared.fault.Fault.{Fault}
use Rattle.input.specs.declared.fault.Fault.TheVariants.{ImageEndsEarly, CountOutOfRange, NumbersLeftOver, RecordBreaksRule, GoesRound, NoSuchMode, BadSymbol, TextTooLong, JudgeAtEnd, SetFull, ReturnsFull, ActionsFull, PositionTooLarge, FirstListShort, SecondListShort}
use Rattle.input.specs.declared.fault.Notice.{Notice}
use Rattle.input.specs.declared.fault.Part.{Part}
use Rattle.input.specs.declared.fault.Part.TheVariants.{Table, Text, Run}

abbrev pub notice : ℕ → ℕ → Part → Notice
notice n p q = record { number = n; place = p; part = q }

abbrev pub told : Fault → Notice
told (ImageEndsEarly p) = notice 1 p Table
told (CountOutOfRange p) = notice 2 p Table
told (NumbersLeftOver p) = notice 3 p Table
told (RecordBreaksRule p) = notice 4 p Table
told (GoesRound p) = notice 5 p Table
told (NoSuchMode p) = notice 6 p Run
told (BadSymbol p) = notice 7 p Text
told TextTooLong = notice 8 1048576 Text
told (JudgeAtEnd p) = notice 9 p Run
told (SetFull p) = notice 10 p Run
told (ReturnsFull p) = notice 11 p Run
told (ActionsFull p) = notice 12 p Run
told (PositionTooLarge p) = notice 13 p Run
told (FirstListShort p) = notice 14 p Run
told (SecondListShort p) = notice 15 p Run
