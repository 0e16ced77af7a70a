-- An image over sections that were found in it.
use Rattle.std.proofs.Common.{◌≡◌, List, ℤ, sym, ap, ◌∙◌, subst}
use Rattle.table.specs.declared.sections.Sections.{Sections}
use Rattle.table.specs.Layout.{Laid}
use Rattle.table.specs.Spans.{forms, counts_of, Placed}
use Rattle.image.specs.declared.image.Image.{Image}
use Rattle.image.specs.Spans.{sections_of}
use Rattle.image.proofs.Sectioning.{sections_are}
use Rattle.checked_table.specs.Checking.{LaidOut}

module _ (image : List ℤ) (s : Sections) (laid : Laid forms image 0 (counts_of s)) (placed : Placed s) where
  pub laid_out : LaidOut image
  laid_out = subst (λ (x : Sections). Laid forms image 0 (counts_of x)) (sections_are image s laid placed) laid

  module _ (x : Image) (numbers : x.numbers.now ≡ image) (sections : x.sections ≡ s) where
    pub laid_in : x.sections ≡ sections_of x.numbers.now
    laid_in = sections ∙ (sections_are image s laid placed ∙ ap sections_of (sym numbers))

    -- What holds of it holds of the numbers alone.
    pub told : (P : List ℤ → Sections → Type 0) → P x.numbers.now x.sections → P image (sections_of image)
    told P p = subst (λ (i : List ℤ). P i (sections_of i)) numbers (subst (P x.numbers.now) laid_in p)

    pub told_of : (P : List ℤ → Sections → Type 0) → P image (sections_of image) → P x.numbers.now x.sections
    told_of P p = subst (P x.numbers.now) (sym laid_in) (subst (λ (i : List ℤ). P i (sections_of i)) (sym numbers) p)
