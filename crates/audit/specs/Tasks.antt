-- Which word names which task.
use Rattle.std.specs.Prelude.{◌≡◌, ℕ, List, Some, None, Option, codes, ◌≢◌}
use Rattle.audit.specs.declared.tasks.Task.{Task}
use Rattle.audit.specs.declared.tasks.Task.TheVariants.{Audit, Time, Help}

abbrev pub Asks : List ℕ → Option Task → Type 0
Asks word (Some Audit) = word ≡ codes "audit"
Asks word (Some Time) = word ≡ codes "time"
Asks word (Some Help) = word ≡ codes "help"
Asks word None = (word ≢ codes "audit") × (word ≢ codes "time") × (word ≢ codes "help")
