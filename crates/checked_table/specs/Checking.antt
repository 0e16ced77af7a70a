-- When an image is that of a table, and which fault is told of any other.
use Rattle.std.specs.Prelude.{◌≡◌, ℕ, List, ℤ}
use Rattle.input.specs.Faults.{notice}
use Rattle.input.specs.declared.fault.Notice.{Notice}
use Rattle.input.specs.declared.fault.Part.TheVariants.{Table}
use Rattle.table.specs.Layout.{Laid, Broken}
use Rattle.image.specs.Spans.{sections_of}
use Rattle.table.specs.Spans.{forms, counts_of}
use Rattle.image.specs.Keeping.{RecordsKeep, BreaksFirst}
use Rattle.checked_table.specs.Decoding.{meaning}
use Rattle.checked_table.specs.Steps.{NoRound, LowestRound}

-- Its six sections are laid one after the other to its end, with counts within their limits.
abbrev pub LaidOut : List ℤ → Type 0
LaidOut image = Laid forms image 0 (counts_of (sections_of image))

-- It is laid out, every record keeps the rules of its section, and no state goes round.
abbrev pub Keeps : List ℤ → Type 0
Keeps image = LaidOut image × RecordsKeep image (sections_of image) × NoRound (meaning image)

-- What is told of an image that does not keep the rules: faults 1 to 3 of its layout, else 4 of the first record
-- that breaks a rule, else 5 of the lowest state that goes round.
pub data Faulty (image : List ℤ) (told : Notice) : Type 0 where
  layout : Broken forms image 0 told → Faulty image told
  «record» : LaidOut image → (at : ℕ) → BreaksFirst image (sections_of image) at → told ≡ notice 4 at Table → Faulty image told
  round : LaidOut image → RecordsKeep image (sections_of image) → (s : ℕ) → LowestRound (meaning image) s → told ≡ notice 5 s Table → Faulty image told

-- One fault is told of an image, and none of one that keeps the rules.
abbrev pub OneFault : Type 0
OneFault =
    (image : List ℤ) (told : Notice) → Faulty image told →
    (Keeps image → ⊥) × ((other : Notice) → Faulty image other → other ≡ told)
