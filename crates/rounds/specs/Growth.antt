-- What a search meets on its way.
use Rattle.std.specs.Prelude.{◌≡◌, ℕ, ◌<◌, ◌≤◌, ◌⊎◌, slice_index}
use Rattle.rounds.specs.declared.search.Search.{Search}
use Rattle.rounds.specs.Search.{Met}

-- The search has met k.
abbrev pub HasMet : Search → ℕ → Type 0
HasMet search k = Met search.from search.marks k

-- The search went on from old to new, from the same state: it met what it had, and all that is such, but for what
-- lies below that state, and no more; and the list only grew.
pub record Grown (Such : ℕ → Type 0) (old new : Search) : Type 0 where
  pub from : new.from ≡ old.from
  pub kept : (k : ℕ) → HasMet old k → HasMet new k
  pub added : (k : ℕ) → Such k → old.from ≤ k → HasMet new k
  pub right : (k : ℕ) → HasMet new k → HasMet old k ⊎ Such k
  pub ends : old.end ≤ new.end
  pub same : (j : ℕ) → j < old.end → slice_index new.list j ≡ slice_index old.list j
