use Rattle.audit.proofs.Cuts.{cut, only_cut}
use Rattle.audit.proofs.lines.Lines.of.Goals as goal

pub returns-clause-cut : goal.returns-clause-cut
returns-clause-cut c = cut c.args.recording.now

pub returns-clause-only : goal.returns-clause-only
returns-clause-only c = only_cut c.args.recording.now
