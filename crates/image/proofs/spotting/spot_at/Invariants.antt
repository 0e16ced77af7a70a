use Rattle.std.proofs.Common.{◌<◌, ◌≤◌}
use Rattle.image.specs.declared.sections.Section.{Section}
use Rattle.image.specs.Spans.{order_of, span_of}
use Rattle.image.proofs.spotting.spot_at.Given as goal

abbrev pub invariant-loop-section : goal.invariant-loop-section
invariant-loop-section l = (earlier : Section) → order_of earlier < l.section-index → (span_of l.s earlier).end ≤ l.at
