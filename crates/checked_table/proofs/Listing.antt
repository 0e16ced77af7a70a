-- Lists of what a function gives.
use Rattle.std.proofs.Common.{◌≡◌, ℕ, zero, suc, ◌<◌, length, get_or, refl, ap, arith}
use Rattle.checked_table.specs.Decoding.{listed}

pub listed-length : {A : Type 0} (f : ℕ → A) (n : ℕ) → length (listed f n) ≡ n
unfolding listed
listed-length f zero = refl
listed-length f (suc n) = ap suc (listed-length (λ k. f (suc k)) n)

pub listed_at : {A : Type 0} (f : ℕ → A) (n k : ℕ) (d : A) → k < n → get_or (listed f n) k d ≡ f k
unfolding listed
listed_at f zero k d h = absurd (omega arith)
listed_at f (suc n) zero d h = refl
listed_at f (suc n) (suc k) d h = listed_at (λ i. f (suc i)) n k d (omega arith)
