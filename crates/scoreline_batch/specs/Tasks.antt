-- Which word names which task.
use Rattle.std.specs.Prelude.{◌≡◌, ℕ, List, Some, None, Option, codes, ◌≢◌}
use Rattle.audit.specs.declared.tasks.Task.TheVariants.{Audit, Time, Help}
use Rattle.scoreline_batch.specs.declared.tasks.Task.{Task}
use Rattle.scoreline_batch.specs.declared.tasks.Task.TheVariants.{Scoreline, Check, Batch}

abbrev pub Asks : List ℕ → Option Task → Type 0
Asks word (Some (Scoreline Audit)) = word ≡ codes "audit"
Asks word (Some (Scoreline Time)) = word ≡ codes "time"
Asks word (Some Check) = word ≡ codes "check"
Asks word (Some Batch) = word ≡ codes "batch"
Asks word (Some (Scoreline Help)) = word ≡ codes "help"
Asks word None =
    (word ≢ codes "audit")
    × (word ≢ codes "time")
    × (word ≢ codes "check")
    × (word ≢ codes "batch")
    × (word ≢ codes "help")
