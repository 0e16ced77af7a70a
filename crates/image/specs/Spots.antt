-- Where in an image an index is, and which spot a fault is about.
use Rattle.std.specs.Prelude.{◌≡◌, ℕ, ◌+◌, ◌*◌, ◌<◌, ◌≤◌}
use Rattle.image.specs.declared.sections.Section.{Section}
use Rattle.table.specs.declared.sections.Sections.{Sections}
use Rattle.image.specs.declared.spot.Spot.{Spot}
use Rattle.image.specs.declared.spot.Spot.TheVariants.{Count, Record, Past}
use Rattle.image.specs.Spans.{span_of, width_of}

-- The count of each section stands right after the section before.
abbrev pub Chained : Sections → Type 0
Chained s =
    (s.states.start ≡ 1)
    × (s.transitions.start ≡ s.states.end + 1)
    × (s.intervals.start ≡ s.transitions.end + 1)
    × (s.modes.start ≡ s.intervals.end + 1)
    × (s.rules.start ≡ s.modes.end + 1)
    × (s.actions.start ≡ s.rules.end + 1)

-- Each section ends after its records.
abbrev pub Shaped : Sections → Type 0
Shaped s = (section : Section) → (span_of s section).end ≡ (span_of s section).start + width_of section * (span_of s section).count

-- The index is that of the section's count, lies in record k of the section, or lies past all sections.
abbrev pub Lying : Sections → ℕ → Spot → Type 0
Lying s at (Count section) = at + 1 ≡ (span_of s section).start
Lying s at (Record section k) =
    (k < (span_of s section).count)
    × ((span_of s section).start + width_of section * k ≤ at)
    × (at < (span_of s section).start + width_of section * (k + 1))
Lying s at Past = s.actions.end ≤ at
