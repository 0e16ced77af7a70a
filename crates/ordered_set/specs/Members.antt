-- What an ordered set stands for. Assumes nothing.
use Rattle.std.specs.Prelude.{ℕ, List, length, take}
use Rattle.ordered_set.specs.declared.set.OrderedSet.{OrderedSet}

-- what the lent slice holds, members and others
abbrev pub slice : {T : Type 0} → OrderedSet T → List T
slice s = s.items.now

-- the members, in the order in which they came
abbrev pub members : {T : Type 0} → OrderedSet T → List T
members s = take s.len (slice s)

-- how many members its slice can hold
abbrev pub room : {T : Type 0} → OrderedSet T → ℕ
room s = length (slice s)
