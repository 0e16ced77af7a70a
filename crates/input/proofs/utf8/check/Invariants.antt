use Rattle.std.proofs.Common.{◌≡◌, ◌-◌, ◌≤◌, length}
use Rattle.input.specs.Utf8.{stop_of}
use Rattle.input.proofs.Stops.{stop_after}
use Rattle.input.proofs.utf8.check.Given as goal

-- what is left stops where the whole does
abbrev pub invariant-loop-at : goal.invariant-loop-at
invariant-loop-at l = record { inside : l.at ≤ length l.bytes; stops : stop_after l.bytes l.at ≡ stop_of l.bytes }

abbrev pub decreases-loop-at : goal.decreases-loop-at
decreases-loop-at l = length l.bytes - l.at
