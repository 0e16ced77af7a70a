-- What the seat judge answers.
use Rattle.std.specs.Prelude.{ℕ, Bool, false, cond, List, nat_lt, slice_index_or}

-- is there a seat n among the eight, and is it open?
abbrev pub seated : List Bool → ℕ → Bool
seated seats n = cond (nat_lt n 8) (slice_index_or seats n false) false
