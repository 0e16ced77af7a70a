use Rattle.std.proofs.Common.{◌<◌}
use Rattle.image.specs.declared.sections.Section.{Section}
use Rattle.image.specs.Spans.{order_of}
use Rattle.image.specs.Keeping.{SectionKeeps}
use Rattle.image.proofs.image.Image.broken_place.Given as goal

abbrev pub invariant-loop-section : goal.invariant-loop-section
invariant-loop-section l = (earlier : Section) → order_of earlier < l.section-index → SectionKeeps l.self.numbers.now l.self.sections earlier
