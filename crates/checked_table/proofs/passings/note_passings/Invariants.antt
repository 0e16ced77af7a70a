use Rattle.std.proofs.Common.{◌≡◌, ℕ, ◌<◌, get_or}
use Rattle.rounds.specs.declared.passing.Passing.TheVariants.{Silent}
use Rattle.checked_table.specs.Atn.{transition_at}
use Rattle.checked_table.specs.Graphs.{passing_of}
use Rattle.checked_table.specs.Means.{atn_in}
use Rattle.checked_table.proofs.passings.note_passings.Given as goal

abbrev pub invariant-loop-t : goal.invariant-loop-t
invariant-loop-t l = (k : ℕ) → k < l.t → get_or l.passings k Silent ≡ passing_of (atn_in l.records) (transition_at (atn_in l.records) k).kind
