-- The six sections and where their records are.
use Rattle.std.specs.Prelude.{◌≡◌, ℕ, ◌+◌, ◌*◌, List, [], ◌∷◌, ℤ}
use Rattle.table.specs.Layout.{Holds, past}
use Rattle.table.specs.declared.sections.Form.{Form}
use Rattle.table.specs.declared.sections.Sections.{Sections}
use Rattle.table.specs.declared.sections.Span.{Span}

abbrev form : ℕ → ℕ → ℕ → Form
form width least most = record { width = width; least = least; most = most }

-- states, transitions, intervals, modes, rules and actions: how many numbers a record has, and the limits of the count
abbrev pub forms : List Form
forms = form 5 1 4096 ∷ form 4 0 16384 ∷ form 2 0 8192 ∷ form 1 1 64 ∷ form 3 1 512 ∷ form 2 0 256 ∷ []

abbrev pub counts_of : Sections → List ℕ
counts_of s = s.states.count ∷ s.transitions.count ∷ s.intervals.count ∷ s.modes.count ∷ s.rules.count ∷ s.actions.count ∷ []

-- the records of a section, of so many numbers each, begin after the count at an index, and end after the last
abbrev pub Lies : Span → ℕ → ℕ → Type 0
Lies span at width = (span.start ≡ at + 1) × (span.end ≡ span.start + width * span.count)

-- the count of the first section stands at 0, and that of each other after the records before it
abbrev pub Placed : Sections → Type 0
Placed s =
    Lies s.states 0 5
    × Lies s.transitions s.states.end 4
    × Lies s.intervals s.transitions.end 2
    × Lies s.modes s.intervals.end 1
    × Lies s.rules s.modes.end 3
    × Lies s.actions s.rules.end 2

-- the section whose count stands at an index holds, and the span tells where its records are
pub record Reads (image : List ℤ) (at : ℕ) (form : Form) (span : Span) : Type 0 where
  pub start : span.start ≡ at + 1
  pub end : span.end ≡ past at form span.count
  pub holds : Holds image at form span.count
