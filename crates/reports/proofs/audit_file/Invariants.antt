use Rattle.audit.specs.Lines.{bytes_left}
use Rattle.reports.proofs.audit_file.Given as goal

abbrev pub decreases-loop-report : goal.decreases-loop-report
decreases-loop-report l = bytes_left l.audit.ahead
