use Rattle.std.proofs.Common.{ap, arith}
use Rattle.image.specs.declared.sections.Section.TheVariants.{States}
use Rattle.image.specs.Spans.{order_of}
use Rattle.image.proofs.image.Image.broken_record.Goals as goal

pub broken_transition-requires : goal.broken_transition-requires
broken_transition-requires c = c.requires States (omega (arith, ap order_of c.in-Transitions.is))
