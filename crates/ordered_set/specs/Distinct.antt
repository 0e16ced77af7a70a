-- Which elements a list has, by equality. Assumes nothing.
use Rattle.std.specs.Prelude.{◌≡◌, ℕ, ◌<◌, List, length, ◌≢◌, slice_index_or}

-- no two elements of xs are equal
abbrev pub Distinct : {X : Type 0} → List X → Type 0
Distinct {X} xs = (i j : ℕ) (d : X) → (i < j) × (j < length xs) × (slice_index_or xs i d ≡ slice_index_or xs j d) → ⊥

-- x stands nowhere in xs
abbrev pub Absent : {X : Type 0} → X → List X → Type 0
Absent {X} x xs = (k : ℕ) (d : X) → k < length xs → slice_index_or xs k d ≢ x

-- x stands at index i of xs
abbrev pub At : {X : Type 0} → X → List X → ℕ → Type 0
At {X} x xs i = (i < length xs) × ((d : X) → slice_index_or xs i d ≡ x)
