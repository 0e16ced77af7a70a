use Rattle.audit.specs.Lines.{left}
use Rattle.audit.proofs.Reports.{count_fits}
use Rattle.audit.proofs.totals.Audit.next_report.Goals as goal

pub counting-self-requires : goal.counting-self-requires
counting-self-requires c =
    let s = c.args.self.now in
    count_fits s.ahead.recording.now s.totals c.in_ok-line.line.now (left s.ahead) (left c.next_line.new.self) c.audit_line-report.result
    s.ahead.small c.audit_line-report.ensures c.in_ok-line.ensures.lines s.whole
