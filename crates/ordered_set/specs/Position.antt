-- Where an element stands in a list, computed by a test of sameness. Assumes nothing.
use Rattle.std.specs.Prelude.{ℕ, suc, Bool, cond, List, [], ◌∷◌, length, Some, None, Option, nat_lt}

-- the first index at which `same` says yes to x, or the length where there is none
abbrev pub place : {X : Type 0} → (X → X → Bool) → X → List X → ℕ
place same x [] = 0
place same x (y ∷ ys) = cond (same y x) 0 (suc (place same x ys))

-- is an element that is the same as x among xs?
abbrev pub among : {X : Type 0} → (X → X → Bool) → X → List X → Bool
among same x xs = nat_lt (place same x xs) (length xs)

-- its index, where there is one
abbrev pub position : {X : Type 0} → (X → X → Bool) → X → List X → Option ℕ
position same x xs = cond (among same x xs) (Some (place same x xs)) None
