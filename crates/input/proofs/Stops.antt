-- Where the sequences stop, from a place on. Assumes nothing.
use Rattle.std.proofs.Common.{◌≡◌, ℕ, zero, suc, ◌+◌, ◌-◌, ◌<◌, ◌≤◌, eqb, List, length, sym, ap, ◌∙◌, arith}
use Rattle.std.proofs.lemmas.Bool.{cond-true, cond-false, eq-eqb, ne_eqb}
use Rattle.input.specs.Utf8.{size_at, stop_from, stop_of}
use Rattle.input.specs.Rows.{size_inside}

-- the first place from p on where a sequence should begin and none does, or the end
unfoldable pub stop_after : List ℕ → ℕ → ℕ
stop_after bs p = stop_from bs (length bs - p) 0 p

none_at : (bs : List ℕ) (n p : ℕ) → 0 < n → size_at bs p ≡ 0 → stop_from bs n 0 p ≡ p
none_at bs zero p h e = absurd (omega arith)
none_at bs (suc n) p h e = cond-true (eqb (size_at bs p) 0) _ _ (eq-eqb (size_at bs p) 0 e)

pub stop_none : (bs : List ℕ) (p : ℕ) → p < length bs → size_at bs p ≡ 0 → stop_after bs p ≡ p
unfolding stop_after
stop_none bs p l e = none_at bs (length bs - p) p (omega arith) e

skip : (bs : List ℕ) (k s m p : ℕ) → k ≡ m + s → stop_from bs k s p ≡ stop_from bs m 0 (p + s)
skip bs k zero m p e = ap (λ (x : ℕ). stop_from bs x 0 p) (omega arith) ∙ ap (λ (x : ℕ). stop_from bs m 0 x) (omega arith)
skip bs zero (suc s) m p e = absurd (omega arith)
skip bs (suc k) (suc s) m p e = skip bs k s m (suc p) (omega arith) ∙ ap (λ (x : ℕ). stop_from bs m 0 x) (omega arith)

-- a sequence of n bytes further
pub stop_more : (bs : List ℕ) (p n : ℕ) → p < length bs → n ≡ size_at bs p → 0 < n → stop_after bs (p + n) ≡ stop_after bs p
unfolding stop_after
stop_more bs p n l h some =
    let inside = size_inside bs p l in
    let m = length bs - p - 1 in
    let rest = length bs - (p + n) in
    let e : length bs - p ≡ suc m = omega arith in
    sym (ap (λ (x : ℕ). stop_from bs x 0 p) e
    ∙ cond-false (eqb (size_at bs p) 0) _ _ (ne_eqb (size_at bs p) 0 (λ z. omega arith))
    ∙ skip bs m (size_at bs p - 1) rest (suc p) (omega arith)
    ∙ ap (λ (x : ℕ). stop_from bs rest 0 x) (omega arith))

pub stop_start : (bs : List ℕ) → stop_after bs 0 ≡ stop_of bs
unfolding stop_after stop_of
stop_start bs = ap (λ (x : ℕ). stop_from bs x 0 0) (omega arith)

pub stop_end : (bs : List ℕ) (p : ℕ) → length bs ≤ p → stop_after bs p ≡ p
unfolding stop_after
stop_end bs p h = let z : length bs - p ≡ 0 = omega arith in ap (λ (x : ℕ). stop_from bs x 0 p) z

-- one sequence after the other
pub ruleset stops = (stop_none, stop_more, stop_start, stop_end, size_inside)
