-- Which record of an image is the first to break a rule.
use Rattle.std.specs.Prelude.{◌≡◌, ℕ, ◌+◌, ◌*◌, ◌<◌, ◌≤◌, Bool, true, false, List, ℤ, Some, None, Option}
use Rattle.image.specs.declared.sections.Section.{Section}
use Rattle.table.specs.declared.sections.Sections.{Sections}
use Rattle.image.specs.Spans.{order_of, span_of, width_of}
use Rattle.image.specs.Rules.{record_keeps}

-- The first of n numbers of which the test is false, if there is one.
abbrev pub FirstFailure : (ℕ → Bool) → ℕ → Option ℕ → Type 0
FirstFailure test n None = (k : ℕ) → k < n → test k ≡ true
FirstFailure test n (Some k) = (k < n) × (test k ≡ false) × ((j : ℕ) → j < k → test j ≡ true)

-- All records of a section keep its rules.
abbrev pub SectionKeeps : List ℤ → Sections → Section → Type 0
SectionKeeps image s section = (k : ℕ) → k < (span_of s section).count → record_keeps image s section k ≡ true

-- All records keep the rules of their sections.
abbrev pub RecordsKeep : List ℤ → Sections → Type 0
RecordsKeep image s = (section : Section) → SectionKeeps image s section

-- A section that comes after the first two.
abbrev pub Late : Section → Type 0
Late section = 2 ≤ order_of section

-- All records before a section keep their rules.
abbrev pub KeptBefore : List ℤ → Sections → Section → Type 0
KeptBefore image s section = (earlier : Section) → order_of earlier < order_of section → SectionKeeps image s earlier

-- A record that starts at an index breaks a rule of its section.
abbrev pub Breaks : List ℤ → Sections → ℕ → Type 0
Breaks image s at =
    (section : Section)
    × (k : ℕ)
    × (k < (span_of s section).count)
    × (at ≡ (span_of s section).start + width_of section * k)
    × (record_keeps image s section k ≡ false)

-- It is the first such record of the image.
abbrev pub BreaksFirst : List ℤ → Sections → ℕ → Type 0
BreaksFirst image s at = Breaks image s at × ((k : ℕ) → k < at → Breaks image s k → ⊥)
