-- What the count of leading ones says of a byte. Assumes nothing.
use Rattle.std.proofs.Common.{◌≡◌, ℕ, ◌+◌, ◌-◌, ◌*◌, ◌^◌, ◌<◌, ◌≤◌, ◌⊎◌, subst, inl, inr, ⊎_elim, arith, pow_mono}
use lib.Count.{count_leading_zeros, leading_length, leading_le}
use Rattle.std.proofs.lemmas.Bool.{cases_lt}

-- the leading ones of a byte, as the prover counts them
abbrev pub ones : ℕ → ℕ
ones a = count_leading_zeros 8 (255 - a)

-- they leave a number of k = 8 - ones bits
ones_are : (a k : ℕ) → ones a + k ≡ 8 → (255 - a < 2 ^ k) × (2 ^ k ≤ 2 * (255 - a) + 1)
ones_are a k s =
    let l = leading_length 8 (255 - a) (omega arith) in
    let m : l.0 ≡ k = omega (arith, l.1) in
    subst (λ (x : ℕ). (255 - a < 2 ^ x) × (2 ^ x ≤ 2 * (255 - a) + 1)) m (l.2, l.3)

pub ones_0 : (a : ℕ) → ones a ≡ 0 → a ≤ 127
ones_0 a z = let h = ones_are a 8 (omega arith) in omega arith

pub ones_2 : (a : ℕ) → ones a ≡ 2 → (192 ≤ a) × (a ≤ 223)
ones_2 a z = let h = ones_are a 6 (omega arith) in (omega arith, omega arith)

pub ones_3 : (a : ℕ) → ones a ≡ 3 → (224 ≤ a) × (a ≤ 239)
ones_3 a z = let h = ones_are a 5 (omega arith) in (omega arith, omega arith)

-- one, or four and more
pub ones_else : (a : ℕ) → (ones a ≡ 0 → ⊥) → (ones a ≡ 2 → ⊥) → (ones a ≡ 3 → ⊥) → ((128 ≤ a) × (a ≤ 191)) ⊎ (240 ≤ a)
ones_else a n0 n2 n3 =
    let le = leading_le 8 (255 - a) in
    ⊎_elim
    (λ l. let h = ones_are a 7 (omega arith) in inl (omega arith, omega arith))
    (λ l. let h = ones_are a (8 - ones a) (omega arith) in let p : 2 ^ (8 - ones a) ≤ 2 ^ 4 = let q : 8 - ones a ≤ 4 = omega arith in pow_mono q in inr (omega arith))
    (cases_lt (ones a) 4)
