use Rattle.table.specs.declared.sections.Sections.{Sections}
use Rattle.image.proofs.Sectioning.{read_sections}
use Rattle.image.proofs.spotting.sections_of.Goals as goal

pub returns-clause-is : goal.returns-clause-is
returns-clause-is c =
    let s : Sections = record {
      states = c.span_at-states.result;
      transitions = c.span_at-transitions.result;
      intervals = c.span_at-intervals.result;
      modes = c.span_at-modes.result;
      rules = c.span_at-rules.result;
      actions = c.span_at-actions.result;
    } in
    read_sections c.args.image.now s (
      c.span_at-states.ensures.is,
      c.span_at-transitions.ensures.is,
      c.span_at-intervals.ensures.is,
      c.span_at-modes.ensures.is,
      c.span_at-rules.ensures.is,
      c.span_at-actions.ensures.is,
    )
