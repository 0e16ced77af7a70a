-- Laws of the places of a text in UTF-8: they rise, each is followed by the next sequence, and the text is good. Assumes nothing.
use Rattle.std.specs.Prelude.{◌≡◌, ℕ, zero, suc, ◌+◌, ◌-◌, ◌<◌, ◌≤◌, Bool, true, false, cond, List, [], ◌∷◌, map, length, ◌==◌, nat_lt, slice_index, slice_index_or, refl}
use Rattle.std.proofs.Common.{sym, subst, ⊎_elim, arith}
use Rattle.std.proofs.lemmas.List.{get_or-map, length-map}
use Rattle.std.proofs.lemmas.Bool.{cases_lt, cond_both, eqb-false}
use Rattle.input.specs.Text.{Good}
use Rattle.input.specs.Utf8.{size_at, symbol_at, places_from, stop_from, places_of, stop_of, WellFormed, Readable, before, of_bytes}
use Rattle.input.specs.Rows.{Tail, tails_at, tail_inside, symbol_at_small}

-- ---- rising lists

-- the elements rise, from lo on and below hi
abbrev pub Up : ℕ → ℕ → List ℕ → Type 0
Up lo hi [] = Unit {0}
Up lo hi (x ∷ xs) = (lo ≤ x) × (x < hi) × Up (suc x) hi xs

up_weaker : (lo lo' hi : ℕ) (xs : List ℕ) → lo ≤ lo' → Up lo' hi xs → Up lo hi xs
up_weaker lo lo' hi [] h u = tt
up_weaker lo lo' hi (x ∷ xs) h u = (omega arith, u.1, u.2)

pub up_at : (lo hi : ℕ) (xs : List ℕ) (k d : ℕ) → Up lo hi xs → k < length xs → (lo ≤ slice_index_or xs k d) × (slice_index_or xs k d < hi)
up_at lo hi [] k d u h = absurd (omega arith)
up_at lo hi (x ∷ xs) zero d u h = (u.0, u.1)
up_at lo hi (x ∷ xs) (suc k) d u h = let r = up_at (suc x) hi xs k d u.2 (omega arith) in (omega arith, r.1)

up_rising : (lo hi : ℕ) (xs : List ℕ) (j k d : ℕ) → Up lo hi xs → j < k → k < length xs → slice_index_or xs j d < slice_index_or xs k d
up_rising lo hi [] j k d u l h = absurd (omega arith)
up_rising lo hi (x ∷ xs) j zero d u l h = absurd (omega arith)
up_rising lo hi (x ∷ xs) zero (suc k) d u l h = (up_at (suc x) hi xs k d u.2 (omega arith)).0
up_rising lo hi (x ∷ xs) (suc j) (suc k) d u l h = up_rising (suc x) hi xs j k d u.2 (omega arith) (omega arith)

pub up_length : (lo hi : ℕ) (xs : List ℕ) → Up lo hi xs → lo ≤ hi → lo + length xs ≤ hi
up_length lo hi [] u h = omega arith
up_length lo hi (x ∷ xs) u h = omega (arith, up_length (suc x) hi xs u.2 u.1)

pub before_le : (q : ℕ) (xs : List ℕ) → before q xs ≤ length xs
before_le q [] = omega arith
before_le q (x ∷ xs) = cond_both (nat_lt x q) (suc (before q xs)) 0 (λ n. n ≤ suc (length xs)) (λ _. omega (arith, before_le q xs)) (λ _. omega arith)

-- ---- the places of bytes rise

ups_at : (bs : List ℕ) (n p hi : ℕ) (b : Bool) (rest : List ℕ) → p + suc n ≡ hi → Up (suc p) hi rest → Up p hi (cond b [] (p ∷ rest))
ups_at bs n p hi true rest e u = tt
ups_at bs n p hi false rest e u = (omega arith, omega arith, u)

ups : (bs : List ℕ) (n s p hi : ℕ) → p + n ≡ hi → Up p hi (places_from bs n s p)
ups bs zero s p hi e = tt
ups bs (suc n) (suc s) p hi e = up_weaker p (suc p) hi (places_from bs n s (suc p)) (omega arith) (ups bs n s (suc p) hi (omega arith))
ups bs (suc n) zero p hi e =
    ups_at bs n p hi (size_at bs p == 0) (places_from bs n (size_at bs p - 1) (suc p)) e (ups bs n (size_at bs p - 1) (suc p) hi (omega arith))

pub up_places : (bs : List ℕ) → Up 0 (length bs) (places_of bs)
unfolding places_of
up_places bs = ups bs (length bs) 0 0 (length bs) (omega arith)

-- ---- each place follows from the one before

-- the s bytes from p on are tails
abbrev pub Covered : List ℕ → ℕ → ℕ → Type 0
Covered bs s p = (i : ℕ) → i < s → Tail (slice_index bs (p + i))

-- each place is followed by that of the next sequence, or by the end
abbrev pub Chain : List ℕ → List ℕ → Type 0
Chain bs [] = Unit {0}
Chain bs (x ∷ xs) = (0 < size_at bs x) × (slice_index_or xs 0 (length bs) ≡ x + size_at bs x) × Chain bs xs

pub covered_more : (bs : List ℕ) (s p : ℕ) → Covered bs (suc s) p → Covered bs s (suc p)
covered_more bs s p c i h = let e : p + suc i ≡ suc p + i = omega arith in subst (λ (q : ℕ). Tail (slice_index bs q)) e (c (suc i) (omega arith))

pub covered_size : (bs : List ℕ) (p : ℕ) → Covered bs (size_at bs p - 1) (suc p)
covered_size bs p i h = let e : p + suc i ≡ suc p + i = omega arith in subst (λ (q : ℕ). Tail (slice_index bs q)) e (tails_at bs p (suc i) (omega arith) (omega arith))

chain_at : (bs : List ℕ) (n p stop : ℕ) (b : Bool) (rest : List ℕ) → (size_at bs p == 0) ≡ b → p + suc n ≡ length bs
    → (stop ≡ length bs → (slice_index_or rest 0 (length bs) ≡ suc p + (size_at bs p - 1)) × Chain bs rest)
    → cond b p stop ≡ length bs
    → (slice_index_or (cond b [] (p ∷ rest)) 0 (length bs) ≡ p + 0) × Chain bs (cond b [] (p ∷ rest))
chain_at bs n p stop true rest e l r w = absurd (omega arith)
chain_at bs n p stop false rest e l r w =
    let z : size_at bs p ≡ 0 → ⊥ = eqb-false (size_at bs p) 0 e in
    let pos : 0 < size_at bs p = ⊎_elim (λ h. absurd (z (omega arith))) (λ h. h) (cases_lt (size_at bs p) 1) in
    let q = r w in
    (omega arith, (pos, omega (arith, q.0), q.1))

chain : (bs : List ℕ) (n s p : ℕ) → p + n ≡ length bs → Covered bs s p → stop_from bs n s p ≡ length bs
    → (slice_index_or (places_from bs n s p) 0 (length bs) ≡ p + s) × Chain bs (places_from bs n s p)
chain bs zero zero p e c w = (omega arith, tt)
chain bs zero (suc s) p e c w = absurd (omega (arith, tail_inside bs (p + 0) (c 0 (omega arith))))
chain bs (suc n) (suc s) p e c w = let r = chain bs n s (suc p) (omega arith) (covered_more bs s p c) w in (omega (arith, r.0), r.1)
chain bs (suc n) zero p e c w =
    chain_at bs n p (stop_from bs n (size_at bs p - 1) (suc p)) (size_at bs p == 0) (places_from bs n (size_at bs p - 1) (suc p)) refl e
    (λ w'. chain bs n (size_at bs p - 1) (suc p) (omega arith) (covered_size bs p) w') w

pub chain_places : (bs : List ℕ) → WellFormed bs → (slice_index_or (places_of bs) 0 (length bs) ≡ 0) × Chain bs (places_of bs)
unfolding places_of stop_of
chain_places bs w = chain bs (length bs) 0 0 (omega arith) (λ i h. absurd (omega arith)) w

pub chain_next : (bs xs : List ℕ) (k : ℕ) → Chain bs xs → k < length xs
    → (0 < size_at bs (slice_index_or xs k (length bs))) × (slice_index_or xs (suc k) (length bs) ≡ slice_index_or xs k (length bs) + size_at bs (slice_index_or xs k (length bs)))
chain_next bs [] k c h = absurd (omega arith)
chain_next bs (x ∷ xs) zero c h = (c.0, c.1)
chain_next bs (x ∷ xs) (suc k) c h = chain_next bs xs k c.2 (omega arith)

-- ---- the text of well-formed bytes is good

pub good_bytes : (bs : List ℕ) (at : ℕ) → Readable bs → Good (of_bytes bs at)
good_bytes bs at readable =
    let ps = places_of bs in
    let u = up_places bs in
    let len : length (map (symbol_at bs) ps) ≡ length ps = length-map ps (symbol_at bs) in
    record {
      level = sym len;
      inside = omega (arith, before_le at ps);
      few = omega (arith, up_length 0 (length bs) ps u (omega arith), readable.0);
      fit = λ k h.
          let l : k < length ps = omega arith in
          let e = get_or-map (symbol_at bs) ps k (length bs) 0 l in
          omega (arith, e, symbol_at_small bs (slice_index_or ps k (length bs)) (chain_next bs ps k (chain_places bs readable.1).1 l).0);
      rising = λ j k l h. up_rising 0 (length bs) ps j k 0 u l (omega arith);
      below = λ k h. (up_at 0 (length bs) ps k 0 u (omega arith)).1;
    }
