use Rattle.std.proofs.Common.{◌≡◌}
use Rattle.audit.specs.Lines.{bytes_left}
use Rattle.audit.proofs.totals.methods.audit_recording.Given as goal

abbrev pub invariant-loop-report : goal.invariant-loop-report
invariant-loop-report l = l.audit.ahead.recording.now ≡ l.recording

abbrev pub decreases-loop-report : goal.decreases-loop-report
decreases-loop-report l = bytes_left l.audit.ahead
