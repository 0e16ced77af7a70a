-- What adding an element to a list does, computed by a test of sameness. Assumes nothing.
use Rattle.std.specs.Prelude.{ℕ, Bool, cond, List, [], ◌∷◌, ◌++◌, length, nat_lt, slice_set}
use Rattle.ordered_set.specs.declared.set.Added.{Added}
use Rattle.ordered_set.specs.declared.set.Added.TheVariants.{Found, Appended, Full}
use Rattle.ordered_set.specs.Position.{place, among}

-- the list after x was added to xs, where there is room for `limit` elements
abbrev pub added : {X : Type 0} → (X → X → Bool) → ℕ → List X → X → List X
added same limit xs x = cond (among same x xs) xs (cond (nat_lt (length xs) limit) (xs ++ (x ∷ [])) xs)

-- what is answered then
abbrev pub answer : {X : Type 0} → (X → X → Bool) → ℕ → List X → X → Added
answer same limit xs x = cond (among same x xs) (Found (place same x xs)) (cond (nat_lt (length xs) limit) (Appended (length xs)) Full)

-- what the lent slice holds then, where it held xs
abbrev pub written : {X : Type 0} → Added → List X → X → List X
written (Found i) xs x = xs
written (Appended i) xs x = slice_set xs i x
written Full xs x = xs
