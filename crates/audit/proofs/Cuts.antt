-- The lines of a recording keep the law of a cut, and no other list of lines does. Assumes nothing.
use Rattle.std.proofs.Common.{◌≡◌, ℕ, suc, ◌-◌, Bool, true, false, cond, eqb, List, [], ◌∷◌, ◌++◌, length, get_or, sym, refl, ap, ◌∙◌, append_assoc, arith}
use Rattle.std.specs.List.{flat_map, AllByRecursion}
use Rattle.std.proofs.lemmas.Bool.{eqb-true, eqb-false, ne_eqb, cond_both, cond-false}
use Rattle.audit.specs.Lines.{Cut, NoFeed, ended, lines_of, onto, with_feed}

cons_cond : (b : ℕ) (t : Bool) (xs ys : List ℕ) → cond t (b ∷ xs) (b ∷ ys) ≡ b ∷ cond t xs ys
cons_cond b true xs ys = refl
cons_cond b false xs ys = refl

-- a byte that others follow does not matter to the end
ended_cons : (b c : ℕ) (cs : List ℕ) → ended (b ∷ (c ∷ cs)) ≡ b ∷ ended (c ∷ cs)
ended_cons b c cs =
    let far : suc (suc (length cs)) - 1 ≡ suc (length cs) = omega arith in
    let near : suc (length cs) - 1 ≡ length cs = omega arith in
    simp (far, near) (cons_cond b (eqb (get_or (c ∷ cs) (length cs) 10) 10) (c ∷ cs) (with_feed (c ∷ cs)))

-- such a byte stands in front of what the lines after it give
joined_cons : (b c : ℕ) (cs : List ℕ) → flat_map with_feed (lines_of (b ∷ (c ∷ cs))) ≡ b ∷ flat_map with_feed (lines_of (c ∷ cs))
joined_cons b c cs =
    let ls = lines_of (c ∷ cs) in
    cond_both (eqb b 10) ([] ∷ ls) (onto b ls) (λ ms. flat_map with_feed ms ≡ b ∷ flat_map with_feed ls)
    (λ e. ap (λ d. d ∷ flat_map with_feed ls) (sym (eqb-true b 10 e)))
    (λ _. cond_both (eqb c 10) ([] ∷ lines_of cs) (onto c (lines_of cs)) (λ ms. flat_map with_feed (onto b ms) ≡ b ∷ flat_map with_feed ms)
    (λ _. refl)
    (λ _. elim (lines_of cs) as (λ ms. flat_map with_feed (onto b (onto c ms)) ≡ b ∷ flat_map with_feed (onto c ms)) [ [] ↦ refl | l ∷ ms ↦ refl ]))

joined_one : (b : ℕ) (t : Bool) → (t ≡ true → b ≡ 10) → flat_map with_feed (cond t ([] ∷ []) ((b ∷ []) ∷ [])) ≡ cond t (b ∷ []) (with_feed (b ∷ []))
joined_one b true h = ap (λ d. d ∷ []) (sym (h refl))
joined_one b false h = refl

joined_lines : (bs : List ℕ) → flat_map with_feed (lines_of bs) ≡ ended bs
joined_lines [] = refl
joined_lines (b ∷ []) = joined_one b (eqb b 10) (eqb-true b 10)
joined_lines (b ∷ (c ∷ cs)) = joined_cons b c cs ∙ (ap (λ l. b ∷ l) (joined_lines (c ∷ cs)) ∙ sym (ended_cons b c cs))

onto_feedless : (b : ℕ) (ls : List (List ℕ)) → (b ≡ 10 → ⊥) → AllByRecursion NoFeed ls → AllByRecursion NoFeed (onto b ls)
onto_feedless b [] other h = ((other, tt), tt)
onto_feedless b (l ∷ ls) other h = ((other, h.0), h.1)

lines_feedless : (bs : List ℕ) → AllByRecursion NoFeed (lines_of bs)
lines_feedless [] = tt
lines_feedless (b ∷ bs) =
    cond_both (eqb b 10) ([] ∷ lines_of bs) (onto b (lines_of bs)) (AllByRecursion NoFeed) (λ _. (tt, lines_feedless bs))
    (λ e. onto_feedless b (lines_of bs) (eqb-false b 10 e) (lines_feedless bs))

pub cut : (bs : List ℕ) → Cut bs (lines_of bs)
cut bs = record { feedless = lines_feedless bs; whole = joined_lines bs }

lines_cons : (b : ℕ) (bs : List ℕ) → (b ≡ 10 → ⊥) → lines_of (b ∷ bs) ≡ onto b (lines_of bs)
lines_cons b bs other = cond-false (eqb b 10) ([] ∷ lines_of bs) (onto b (lines_of bs)) (ne_eqb b 10 other)

-- a line that a line feed ends
first_line : (l bs : List ℕ) → NoFeed l → lines_of (l ++ (10 ∷ bs)) ≡ l ∷ lines_of bs
first_line [] bs h = refl
first_line (b ∷ l) bs h = lines_cons b (l ++ (10 ∷ bs)) h.0 ∙ ap (onto b) (first_line l bs h.1)

lines_joined : (ls : List (List ℕ)) → AllByRecursion NoFeed ls → lines_of (flat_map with_feed ls) ≡ ls
lines_joined [] h = refl
lines_joined (l ∷ ls) h =
    ap lines_of (append_assoc l (10 ∷ []) (flat_map with_feed ls))
    ∙ (first_line l (flat_map with_feed ls) h.0 ∙ ap (λ ms. l ∷ ms) (lines_joined ls h.1))

lines_ended : (bs : List ℕ) → lines_of (ended bs) ≡ lines_of bs
lines_ended [] = refl
lines_ended (b ∷ []) =
    cond_both (eqb b 10) (b ∷ []) (with_feed (b ∷ [])) (λ l. lines_of l ≡ lines_of (b ∷ [])) (λ _. refl)
    (λ e. let other = eqb-false b 10 e in lines_cons b (10 ∷ []) other ∙ sym (lines_cons b [] other))
lines_ended (b ∷ (c ∷ cs)) =
    ap lines_of (ended_cons b c cs) ∙ ap (λ ls. cond (eqb b 10) ([] ∷ ls) (onto b ls)) (lines_ended (c ∷ cs))

pub only_cut : (bs : List ℕ) (ls : List (List ℕ)) → Cut bs ls → ls ≡ lines_of bs
only_cut bs ls h = sym (lines_joined ls h.feedless) ∙ (ap lines_of h.whole ∙ lines_ended bs)
