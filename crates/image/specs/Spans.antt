-- The six sections by name, and the limits of their counts.
use Rattle.std.specs.Prelude.{◌≡◌, ℕ, ◌+◌, ◌*◌, ◌≤◌, List, ℤ}
use Rattle.image.specs.declared.sections.Section.{Section}
use Rattle.image.specs.declared.sections.Section.TheVariants.{States, Transitions, Intervals, Modes, Rules, Actions}
use Rattle.table.specs.declared.sections.Sections.{Sections}
use Rattle.table.specs.declared.sections.Span.{Span}
use Rattle.table.specs.Layout.{number}
use Rattle.table.specs.Spans.{Lies}
use Rattle.image.specs.Numbers.{natural}

-- Which section comes first, second and so on.
abbrev pub order_of : Section → ℕ
order_of States = 0
order_of Transitions = 1
order_of Intervals = 2
order_of Modes = 3
order_of Rules = 4
order_of Actions = 5

abbrev pub span_of : Sections → Section → Span
span_of s States = s.states
span_of s Transitions = s.transitions
span_of s Intervals = s.intervals
span_of s Modes = s.modes
span_of s Rules = s.rules
span_of s Actions = s.actions

-- how many numbers a record of a section has
abbrev pub width_of : Section → ℕ
width_of States = 5
width_of Transitions = 4
width_of Intervals = 2
width_of Modes = 1
width_of Rules = 3
width_of Actions = 2

-- where record k of a section starts
abbrev pub place_of : Sections → Section → ℕ → ℕ
place_of s section k = (span_of s section).start + width_of section * k

-- the records of a section lie after the count at an index, and are so many at least and at most
abbrev pub LiesWithin : Span → ℕ → ℕ → ℕ → ℕ → Type 0
LiesWithin span at width least most = Lies span at width × (least ≤ span.count) × (span.count ≤ most)

-- the sections follow one another from index 0 on, and each count is within its limits
abbrev pub PlacedWithin : Sections → Type 0
PlacedWithin s =
    LiesWithin s.states 0 5 1 4096
    × LiesWithin s.transitions s.states.end 4 0 16384
    × LiesWithin s.intervals s.transitions.end 2 0 8192
    × LiesWithin s.modes s.intervals.end 1 1 64
    × LiesWithin s.rules s.modes.end 3 1 512
    × LiesWithin s.actions s.rules.end 2 0 256

-- so placed, the sections end with an image of that size
abbrev pub Fits : Sections → ℕ → Type 0
Fits s size = PlacedWithin s × (s.actions.end ≡ size)

-- the section whose count stands at an index
abbrev pub span_at : List ℤ → ℕ → ℕ → Span
span_at image at width =
    record { start = at + 1; count = natural (number image at); end = at + 1 + width * natural (number image at) }

-- where the six sections of an image are, one after the other
unfoldable pub sections_of : List ℤ → Sections
sections_of image =
    let states = span_at image 0 5 in
    let transitions = span_at image states.end 4 in
    let intervals = span_at image transitions.end 2 in
    let modes = span_at image intervals.end 1 in
    let rules = span_at image modes.end 3 in
    record {
      states = states;
      transitions = transitions;
      intervals = intervals;
      modes = modes;
      rules = rules;
      actions = span_at image rules.end 2;
    }
