-- What is asked of all numbers of a range. Assumes nothing.
use Rattle.std.proofs.Common.{◌≡◌, ℕ, zero, suc, ◌+◌, ◌<◌, ◌≤◌, Bool, true, false, ◌&&◌, Some, None, Option, MatchOption, refl, ap, ◌∙◌, add-one, arith}
use Rattle.std.specs.List.{list_all, range_with_len}
use Rattle.image.specs.Keeping.{FirstFailure}
use Rattle.image.specs.Numbers.{all_of}

pub all_of_range : (f : ℕ → Bool) (a n : ℕ) → list_all f (range_with_len a n) ≡ all_of f a n
unfolding all_of
all_of_range f a zero = refl
all_of_range f a (suc n) = ap (λ b. f a && b) (all_of_range f (a + 1) n ∙ ap (λ x. all_of f x n) (add-one a))

-- What `find` returns, as the first number of which a test is false.
pub first_failure : (test : ℕ → Bool) (n : ℕ) (r : Option ℕ)
    → MatchOption r ((k : ℕ) → 0 ≤ k → k < n → test k ≡ true) (λ i. (0 ≤ i) × (i < n) × (test i ≡ false) × ((k : ℕ) → 0 ≤ k → k < i → test k ≡ true))
    → FirstFailure test n r
first_failure test n None h = λ k l. h k (omega arith) l
first_failure test n (Some i) h = (h.1, h.2, λ k l. h.3 k (omega arith) l)
