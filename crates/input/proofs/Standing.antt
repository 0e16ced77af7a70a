-- A source in UTF-8 that stands at a place of its text. Assumes nothing.
use Rattle.std.proofs.Common.{◌≡◌, ℕ, zero, suc, ◌+◌, ◌-◌, ◌<◌, ◌≤◌, Bool, true, false, cond, eqb, ltb, ◌⊎◌, List, [], ◌∷◌, map, length, get_or, sym, refl, ap, ◌∙◌, subst, inl, inr, ⊎_elim, arith}
use Rattle.std.proofs.lemmas.List.{get_or_past, get_or-map}
use Rattle.std.proofs.lemmas.Bool.{cases_lt, cond-true, cond-false, lt-ltb, le-ltb}
use Rattle.input.specs.Utf8.{size_at, symbol_at, places_from, stop_from, places_of, stop_of, WellFormed, before, Stands}
use Rattle.input.specs.Rows.{Tail}
use Rattle.input.specs.Places.{Up, up_at, up_places, Covered, covered_more, covered_size, chain_places, chain_next}

-- ---- elements of a rising list

abbrev pub Member : ℕ → List ℕ → Type 0
Member q [] = ⊥
Member q (x ∷ xs) = (q ≡ x) ⊎ Member q xs

member_above : (lo hi q : ℕ) (xs : List ℕ) → Up lo hi xs → Member q xs → lo ≤ q
member_above lo hi q [] u m = absurd m
member_above lo hi q (x ∷ xs) u m = ⊎_elim (λ e. omega arith) (λ n. omega (arith, member_above (suc x) hi q xs u.2 n)) m

before-past : (q x : ℕ) (xs : List ℕ) → x < q → before q (x ∷ xs) ≡ suc (before q xs)
before-past q x xs h = cond-true (ltb x q) _ _ (lt-ltb x q h)

before_none : (q x : ℕ) (xs : List ℕ) → q ≤ x → before q (x ∷ xs) ≡ 0
before_none q x xs h = cond-false (ltb x q) _ _ (le-ltb x q h)

-- an element stands where as many are before it
pub before_member : (lo hi q d : ℕ) (xs : List ℕ) → Up lo hi xs → Member q xs → (before q xs < length xs) × (get_or xs (before q xs) d ≡ q)
before_member lo hi q d [] u m = absurd m
before_member lo hi q d (x ∷ xs) u (inl e) =
    let z : before q (x ∷ xs) ≡ 0 = before_none q x xs (omega arith) in
    (omega arith, ap (λ (k : ℕ). get_or (x ∷ xs) k d) z ∙ sym e)
before_member lo hi q d (x ∷ xs) u (inr m) =
    let z : before q (x ∷ xs) ≡ suc (before q xs) = before-past q x xs (member_above (suc x) hi q xs u.2 m) in
    let r = before_member (suc x) hi q d xs u.2 m in
    (omega arith, ap (λ (k : ℕ). get_or (x ∷ xs) k d) z ∙ r.1)

pub before_end : (lo hi : ℕ) (xs : List ℕ) → Up lo hi xs → before hi xs ≡ length xs
before_end lo hi [] u = refl
before_end lo hi (x ∷ xs) u = before-past hi x xs u.1 ∙ ap suc (before_end (suc x) hi xs u.2)

-- as many are before a place as its number says
pub before-place : (lo hi : ℕ) (xs : List ℕ) (k : ℕ) → Up lo hi xs → k ≤ length xs → before (get_or xs k hi) xs ≡ k
before-place lo hi [] k u h = omega arith
before-place lo hi (x ∷ xs) zero u h = before_none x x xs (omega arith)
before-place lo hi (x ∷ xs) (suc k) u h =
    ⊎_elim
    (λ l. before-past (get_or xs k hi) x xs (up_at (suc x) hi xs k hi u.2 l).0 ∙ ap suc (before-place (suc x) hi xs k u.2 (omega arith)))
    (λ l. let e : get_or xs k hi ≡ hi = get_or_past xs k hi l in
    before-past (get_or xs k hi) x xs (omega arith) ∙ ap suc (before-place (suc x) hi xs k u.2 (omega arith)))
    (cases_lt k (length xs))

-- ---- a byte that is no tail begins a sequence

hits_at : (bs : List ℕ) (n p stop q : ℕ) (b : Bool) (rest : List ℕ) → p + suc n ≡ length bs → p ≤ q
    → (stop ≡ length bs → suc p ≤ q → Member q rest)
    → cond b p stop ≡ length bs → Member q (cond b [] (p ∷ rest))
hits_at bs n p stop q true rest l h r w = absurd (omega arith)
hits_at bs n p stop q false rest l h r w = ⊎_elim (λ m. inr (r w m)) (λ m. inl (omega arith)) (cases_lt p q)

hits : (bs : List ℕ) (n s p q : ℕ) → p + n ≡ length bs → Covered bs s p → stop_from bs n s p ≡ length bs
    → p ≤ q → q < length bs → (Tail (get_or bs q 0) → ⊥) → Member q (places_from bs n s p)
hits bs zero s p q e c w h l nt = absurd (omega arith)
hits bs (suc n) (suc s) p q e c w h l nt =
    ⊎_elim
    (λ m. hits bs n s (suc p) q (omega arith) (covered_more bs s p c) w m l nt)
    (λ m. let z : p + 0 ≡ q = omega arith in absurd (nt (subst (λ (x : ℕ). Tail (get_or bs x 0)) z (c 0 (omega arith)))))
    (cases_lt p q)
hits bs (suc n) zero p q e c w h l nt =
    hits_at bs n p (stop_from bs n (size_at bs p - 1) (suc p)) q (eqb (size_at bs p) 0) (places_from bs n (size_at bs p - 1) (suc p)) e h
    (λ w' m. hits bs n (size_at bs p - 1) (suc p) q (omega arith) (covered_size bs p) w' m l nt) w

pub begins_at : (bs : List ℕ) (q : ℕ) → WellFormed bs → q < length bs → (Tail (get_or bs q 0) → ⊥) → Member q (places_of bs)
unfolding places_of stop_of
begins_at bs q w l nt = hits bs (length bs) 0 0 q (omega arith) (λ i h. absurd (omega arith)) w (omega arith) l nt

-- ---- the symbol at the place, and the next place

pub stand_lt : (bs : List ℕ) (at : ℕ) → Stands bs at → at < length bs → before at (places_of bs) < length (places_of bs)
stand_lt bs at s h =
    let ps = places_of bs in
    ⊎_elim (λ l. l) (λ l. absurd (omega (arith, get_or_past ps (before at ps) (length bs) l, s))) (cases_lt (before at ps) (length ps))

pub stand_ge : (bs : List ℕ) (at : ℕ) → Stands bs at → length bs ≤ at → length (places_of bs) ≤ before at (places_of bs)
stand_ge bs at s h =
    let ps = places_of bs in
    ⊎_elim (λ l. absurd (omega (arith, (up_at 0 (length bs) ps (before at ps) (length bs) (up_places bs) l).1, s))) (λ l. l) (cases_lt (before at ps) (length ps))

pub stand_size : (bs : List ℕ) (at : ℕ) → WellFormed bs → Stands bs at → at < length bs → 0 < size_at bs at
stand_size bs at w s h =
    let ps = places_of bs in
    subst (λ (x : ℕ). 0 < size_at bs x) s (chain_next bs ps (before at ps) (chain_places bs w).1 (stand_lt bs at s h)).0

pub stand_symbol : (bs : List ℕ) (at : ℕ) → Stands bs at → at < length bs → get_or (map (symbol_at bs) (places_of bs)) (before at (places_of bs)) 0 ≡ symbol_at bs at
stand_symbol bs at s h =
    let ps = places_of bs in
    get_or-map (symbol_at bs) ps (before at ps) (length bs) 0 (stand_lt bs at s h) ∙ ap (symbol_at bs) s

-- one sequence on
pub stand_next : (bs : List ℕ) (at : ℕ) → WellFormed bs → Stands bs at → at < length bs
    → (before (at + size_at bs at) (places_of bs) ≡ before at (places_of bs) + 1) × Stands bs (at + size_at bs at)
stand_next bs at w s h =
    let ps = places_of bs in
    let k = before at ps in
    let lt = stand_lt bs at s h in
    let e : get_or ps (suc k) (length bs) ≡ at + size_at bs at =
    (chain_next bs ps k (chain_places bs w).1 lt).1 ∙ ap (λ (x : ℕ). x + size_at bs x) s in
    let b : before (at + size_at bs at) ps ≡ suc k =
    ap (λ (x : ℕ). before x ps) (sym e) ∙ before-place 0 (length bs) ps (suc k) (up_places bs) lt in
    (b ∙ omega arith, ap (λ (x : ℕ). get_or ps x (length bs)) b ∙ e)

pub before_zero : (ps : List ℕ) → before 0 ps ≡ 0
before_zero [] = refl
before_zero (x ∷ xs) = before_none 0 x xs (omega arith)

pub stand_start : (bs : List ℕ) → WellFormed bs → Stands bs 0
stand_start bs w = ap (λ (k : ℕ). get_or (places_of bs) k (length bs)) (before_zero (places_of bs)) ∙ (chain_places bs w).0
