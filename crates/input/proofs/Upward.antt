-- The places of an array are its indices. Assumes nothing.
use Rattle.std.proofs.Common.{◌≡◌, ℕ, ◌≤◌, List, length, get_or, ⊎_elim, arith}
use Rattle.std.proofs.lemmas.List.{get_or_past}
use Rattle.std.proofs.lemmas.Bool.{cases_lt}
use Rattle.input.specs.Arrays.{upward, length-upward, get_or-upward}

pub place_of_array : (xs : List ℕ) (k : ℕ) → k ≤ length xs → get_or (upward 0 (length xs)) k (length xs) ≡ k
place_of_array xs k h =
    let n = length xs in
    ⊎_elim (λ l. omega (arith, get_or-upward 0 n k n l)) (λ l. omega (arith, get_or_past (upward 0 n) k n (omega (arith, length-upward 0 n)))) (cases_lt k n)
