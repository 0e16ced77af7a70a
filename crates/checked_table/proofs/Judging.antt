-- One fault is told of an image, and none of one that keeps the rules.
use Rattle.std.proofs.Common.{◌≡◌, ◌↔◌, ℕ, true, false, List, ℤ, sym, ap, ◌∙◌}
use Rattle.input.specs.Faults.{notice}
use Rattle.input.specs.declared.fault.Notice.{Notice}
use Rattle.input.specs.declared.fault.Part.TheVariants.{Table}
use Rattle.table.specs.declared.sections.Sections.{Sections}
use Rattle.image.specs.Spans.{sections_of}
use Rattle.table.specs.Spans.{counts_of}
use Rattle.image.specs.Keeping.{Breaks}
use Rattle.image.proofs.Refusals.{lowest_one, breaks_keeps}
use Rattle.table.proofs.Refusals.{layout_laid, layout_one}
use Rattle.checked_table.specs.Decoding.{meaning}
use Rattle.checked_table.specs.Steps.{Round}
use Rattle.checked_table.specs.Checking.{Keeps, Faulty, layout, «record», round, OneFault}

module _ (image : List ℤ) where
  abbrev s : Sections
  s = sections_of image

  -- What is faulty does not keep the rules.
  pub faulty_breaks : (t : Notice) → Faulty image t → Keeps image → ⊥
  faulty_breaks t (layout b) (l, keep, ends) = layout_laid image (counts_of s) t b l
  faulty_breaks t («record» l at first e) (_, keep, ends) = breaks_keeps image s at first.0 keep
  faulty_breaks t (round l keep k lowest e) (_, _, ends) = ends k lowest.1

  -- So a refusal that tells what is faulty answers no, rightly.
  pub refused : (t : Notice) → Faulty image t → (false ≡ true) ↔ Keeps image
  refused t f = (λ (e : false ≡ true). absurd cc, λ keeps. absurd (faulty_breaks t f keeps))

  faulty_one : (t u : Notice) → Faulty image t → Faulty image u → u ≡ t
  faulty_one t u (layout a) (layout b) = sym (layout_one image t u a b)
  faulty_one t u (layout a) («record» l at first e) = absurd (layout_laid image (counts_of s) t a l)
  faulty_one t u (layout a) (round l keep k lowest e) = absurd (layout_laid image (counts_of s) t a l)
  faulty_one t u («record» l at first e) (layout b) = absurd (layout_laid image (counts_of s) u b l)
  faulty_one t u («record» l p first e) («record» m q other f) =
      f ∙ (ap (λ (k : ℕ). notice 4 k Table) (lowest_one (Breaks image s) q p other.0 other.1 first.0 first.1) ∙ sym e)
  faulty_one t u («record» l p first e) (round m keep k lowest f) = absurd (breaks_keeps image s p first.0 keep)
  faulty_one t u (round l keep k lowest e) (layout b) = absurd (layout_laid image (counts_of s) u b l)
  faulty_one t u (round l keep k lowest e) («record» m q other f) = absurd (breaks_keeps image s q other.0 keep)
  faulty_one t u (round l keep j lowest e) (round m kept k other f) =
      f ∙ (ap (λ (i : ℕ). notice 5 i Table) (lowest_one (Round (meaning image)) k j other.1 other.2 lowest.1 lowest.2) ∙ sym e)

pub one_fault : OneFault
one_fault image told f = (faulty_breaks image told f, λ other g. faulty_one image told other f g)
