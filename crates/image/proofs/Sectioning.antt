-- Where sections are.
use Rattle.std.proofs.Common.{◌≡◌, ℕ, ◌+◌, ◌*◌, ◌<◌, ◌≤◌, List, [], ◌∷◌, length, get_or, zero, suc, ℤ, pos, sym, refl, ap, ◌∙◌, arith}
use Rattle.table.specs.Layout.{Laid, number}
use Rattle.image.specs.Numbers.{natural}
use Rattle.image.specs.Spans.{order_of, span_of, PlacedWithin, Fits, span_at, sections_of}
use Rattle.table.specs.Spans.{forms, counts_of, Lies, Placed}
use Rattle.image.specs.Spots.{Chained}
use Rattle.image.specs.declared.sections.Section.{Section}
use Rattle.image.specs.declared.sections.Section.TheVariants.{States, Transitions, Intervals, Modes, Rules, Actions}
use Rattle.table.specs.declared.sections.Sections.{Sections}
use Rattle.table.specs.declared.sections.Span.{Span}

-- A section whose count stands at an index is the one that is read there.
span_is : (image : List ℤ) (at width : ℕ) (span : Span) → Lies span at width → number image at ≡ pos span.count → span ≡ span_at image at width
span_is image at width span lies count =
    let n : span.count ≡ natural (number image at) = sym (ap natural count) in
    let e : span.end ≡ at + 1 + width * natural (number image at) = lies.1 ∙ (λ j. lies.0 j + width * n j) in
    λ j. record { start = lies.0 j; count = n j; end = e j }

-- Each section is the one that is read after the section before.
abbrev pub ReadFrom : List ℤ → Sections → Type 0
ReadFrom image s =
    (s.states ≡ span_at image 0 5)
    × (s.transitions ≡ span_at image s.states.end 4)
    × (s.intervals ≡ span_at image s.transitions.end 2)
    × (s.modes ≡ span_at image s.intervals.end 1)
    × (s.rules ≡ span_at image s.modes.end 3)
    × (s.actions ≡ span_at image s.rules.end 2)

pub read_sections : (image : List ℤ) (s : Sections) → ReadFrom image s → s ≡ sections_of image
unfolding sections_of
read_sections image s (states, transitions, intervals, modes, rules, actions) =
    let t = transitions ∙ ap (λ (x : Span). span_at image x.end 4) states in
    let i = intervals ∙ ap (λ (x : Span). span_at image x.end 2) t in
    let m = modes ∙ ap (λ (x : Span). span_at image x.end 1) i in
    let r = rules ∙ ap (λ (x : Span). span_at image x.end 3) m in
    let a = actions ∙ ap (λ (x : Span). span_at image x.end 2) r in
    λ j. record { states = states j; transitions = t j; intervals = i j; modes = m j; rules = r j; actions = a j }

-- The sections stand in their order.
pub all_in_order : (i : ℕ) → i < 6 → order_of (get_or (States ∷ Transitions ∷ Intervals ∷ Modes ∷ Rules ∷ Actions ∷ []) i States) ≡ i
all_in_order zero h = refl
all_in_order (suc zero) h = refl
all_in_order (suc (suc zero)) h = refl
all_in_order (suc (suc (suc zero))) h = refl
all_in_order (suc (suc (suc (suc zero)))) h = refl
all_in_order (suc (suc (suc (suc (suc zero))))) h = refl
all_in_order (suc (suc (suc (suc (suc (suc n)))))) h = absurd (omega arith)

-- A section begins at most one index after the ends of those before it.
pub starts_after : (s : Sections) (at : ℕ) (section : Section) → Chained s
    → ((earlier : Section) → order_of earlier < order_of section → (span_of s earlier).end ≤ at) → (span_of s section).start ≤ at + 1
starts_after s at States chained h = omega (arith, chained)
starts_after s at Transitions chained h = omega (arith, chained, h States (omega arith))
starts_after s at Intervals chained h = omega (arith, chained, h Transitions (omega arith))
starts_after s at Modes chained h = omega (arith, chained, h Intervals (omega arith))
starts_after s at Rules chained h = omega (arith, chained, h Modes (omega arith))
starts_after s at Actions chained h = omega (arith, chained, h Rules (omega arith))

module _ (image : List ℤ) (s : Sections) (laid : Laid forms image 0 (counts_of s)) (placed : Placed s) where
  placed_within : PlacedWithin s
  placed_within = (
    (placed.0, laid.0.least, laid.0.most),
    (placed.1, laid.1.0.least, laid.1.0.most),
    (placed.2, laid.1.1.0.least, laid.1.1.0.most),
    (placed.3, laid.1.1.1.0.least, laid.1.1.1.0.most),
    (placed.4, laid.1.1.1.1.0.least, laid.1.1.1.1.0.most),
    (placed.5, laid.1.1.1.1.1.0.least, laid.1.1.1.1.1.0.most),
  )

  pub sections_fit : Fits s (length image)
  sections_fit = (placed_within, omega (arith, laid.1.1.1.1.1.1, placed))

  pub sections_are : s ≡ sections_of image
  sections_are =
      let moved : (x y n : ℕ) → number image x ≡ pos n → x ≡ y → number image y ≡ pos n = λ x y n h e. sym (ap (number image) e) ∙ h in
      read_sections image s (
        span_is image 0 5 s.states placed.0 laid.0.count,
        span_is image s.states.end 4 s.transitions placed.1 (moved _ _ _ laid.1.0.count (omega (arith, placed))),
        span_is image s.transitions.end 2 s.intervals placed.2 (moved _ _ _ laid.1.1.0.count (omega (arith, placed))),
        span_is image s.intervals.end 1 s.modes placed.3 (moved _ _ _ laid.1.1.1.0.count (omega (arith, placed))),
        span_is image s.modes.end 3 s.rules placed.4 (moved _ _ _ laid.1.1.1.1.0.count (omega (arith, placed))),
        span_is image s.rules.end 2 s.actions placed.5 (moved _ _ _ laid.1.1.1.1.1.0.count (omega (arith, placed))),
      )
