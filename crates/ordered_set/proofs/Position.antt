-- The computed position is the library's, for the test of sameness with x. Assumes nothing.
use Rattle.std.proofs.Common.{◌≡◌, ℕ, cond, Bool, List, Option, refl, ap, ◌∙◌, arith}
use Rattle.std.specs.List.{position as first_at}
use Rattle.std.proofs.lemmas.List.Recursion.{is_position_or_len}
use Rattle.ordered_set.specs.Position.{place, position}

pub is_position : {X : Type 0} (same : X → X → Bool) (x : X) (xs : List X) (o : Option ℕ) → o ≡ first_at (λ y. same y x) xs → o ≡ position same x xs
is_position same x xs o e = e ∙ rw (is_position_or_len (place same x) (λ y. same y x) refl (λ y ys. ap (cond (same y x) 0) (omega arith)) xs) refl
