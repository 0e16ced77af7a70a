-- One section after another. Assumes nothing.
use Rattle.std.proofs.Common.{ℕ, List, ◌∷◌, ℤ, subst, inr}
use Rattle.input.specs.declared.fault.Notice.{Notice}
use Rattle.table.specs.Layout.{Broken}
use Rattle.table.specs.Spans.{Reads}
use Rattle.table.specs.declared.sections.Form.{Form}
use Rattle.table.specs.declared.sections.Span.{Span}

-- What breaks after a section breaks the layout from that section on.
pub broken_after : {image : List ℤ} {at : ℕ} {form : Form} {told : Notice} (forms : List Form) (span : Span)
    → Reads image at form span → Broken forms image span.end told → Broken (form ∷ forms) image at told
broken_after {image} {told = told} forms span r b = inr (span.count, r.holds, subst (λ (p : ℕ). Broken forms image p told) r.end b)
