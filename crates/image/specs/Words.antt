-- What spots of an image are called.
use Rattle.std.specs.Prelude.{ℕ, List, ◌++◌, codes, decimal}
use Rattle.image.specs.declared.sections.Section.{Section}
use Rattle.image.specs.declared.sections.Section.TheVariants.{States, Transitions, Intervals, Modes, Rules, Actions}
use Rattle.image.specs.declared.spot.Spot.{Spot}
use Rattle.image.specs.declared.spot.Spot.TheVariants.{Count, Record, Past}

abbrev pub plural_of : Section → List ℕ
plural_of States = codes "states"
plural_of Transitions = codes "transitions"
plural_of Intervals = codes "intervals"
plural_of Modes = codes "modes"
plural_of Rules = codes "rules"
plural_of Actions = codes "actions"

abbrev pub singular_of : Section → List ℕ
singular_of States = codes "state"
singular_of Transitions = codes "transition"
singular_of Intervals = codes "interval"
singular_of Modes = codes "mode"
singular_of Rules = codes "rule"
singular_of Actions = codes "action"

abbrev pub spot_line : Spot → List ℕ
spot_line (Count section) = codes "count of " ++ plural_of section
spot_line (Record section k) = singular_of section ++ (codes " " ++ decimal k)
spot_line Past = codes "past the last section"
