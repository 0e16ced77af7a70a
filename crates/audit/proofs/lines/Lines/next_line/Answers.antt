use Rattle.std.proofs.Common.{rules}
use Rattle.std.proofs.lemmas.List.{take_rest}
use Rattle.audit.proofs.Steps.{next_line}
use Rattle.audit.proofs.lines.Lines.next_line.Goals as goal

pub returns-clause-lines : goal.returns-clause-lines
returns-clause-lines c =
    let s = c.args.self.now in
    let bs = s.recording.now in
    next_line bs _ s.at c.line_len.result c.min-self.result (search rules) (take_rest bs s.at) c.line_len.ensures c.min-self.ensures
