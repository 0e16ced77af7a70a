-- What a look-up and an addition come to, in words that name no test. Assumes nothing.
use Rattle.std.specs.Prelude.{◌≡◌, ℕ, ◌<◌, List, [], ◌∷◌, ◌++◌, length, Some, None, Option}
use Rattle.ordered_set.specs.declared.set.Added.{Added}
use Rattle.ordered_set.specs.declared.set.Added.TheVariants.{Found, Appended, Full}
use Rattle.ordered_set.specs.Distinct.{Absent, At}

-- x was looked for in xs: it stands at the index, or nowhere
abbrev pub Sought : {X : Type 0} → X → List X → Option ℕ → Type 0
Sought x xs (Some i) = At x xs i
Sought x xs None = Absent x xs

-- x was added to xs, which became ys, where there is room for `limit` elements
abbrev pub Outcome : {X : Type 0} → X → ℕ → List X → List X → Added → Type 0
Outcome x limit xs ys (Found i) = At x xs i × (ys ≡ xs)
Outcome x limit xs ys (Appended i) = Absent x xs × (length xs < limit) × (i ≡ length xs) × (ys ≡ xs ++ (x ∷ []))
Outcome x limit xs ys Full = Absent x xs × (length xs ≡ limit) × (ys ≡ xs)
