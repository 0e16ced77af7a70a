-- The first line of what is left of a recording. Assumes nothing.
use Rattle.std.proofs.Common.{◌≡◌, ℕ, suc, ◌+◌, ◌<◌, true, false, cond, not, List, [], ◌∷◌, length, min, take, drop, sym, refl, ap, ◌∙◌, arith}
use Rattle.std.specs.Bool.{◌==◌}
use Rattle.std.specs.List.{prefix_len}
use Rattle.std.proofs.lemmas.List.{drop-drop, drop_min, length-drop}
use Rattle.std.proofs.lemmas.List.Folds.{length-prefix_len}
use Rattle.audit.specs.Lines.{lines_of, onto}

-- how many bytes at the front are before a line feed
abbrev pub feedless : List ℕ → ℕ
feedless = prefix_len (λ b. not (b == 10))

-- a list cut after k bytes, and past the byte there
abbrev cut_at : List ℕ → ℕ → List (List ℕ)
cut_at bs k = take k bs ∷ lines_of (drop (suc k) bs)

other_line : (b : ℕ) (bs : List ℕ) → (0 < length bs → lines_of bs ≡ cut_at bs (feedless bs)) → onto b (lines_of bs) ≡ cut_at (b ∷ bs) (1 + feedless bs)
other_line b [] first = refl
other_line b (c ∷ cs) first = ap (onto b) (first (omega arith)) ∙ ap (cut_at (b ∷ (c ∷ cs))) {x = suc (feedless (c ∷ cs))} (omega arith)

first : (bs : List ℕ) → 0 < length bs → lines_of bs ≡ cut_at bs (feedless bs)
first [] some = absurd (omega arith)
first (b ∷ bs) some =
    elim (b == 10) as (λ t. cond t ([] ∷ lines_of bs) (onto b (lines_of bs)) ≡ cut_at (b ∷ bs) (cond (not t) (1 + feedless bs) 0)) [ true ↦ refl | false ↦ other_line b bs (first bs) ]

-- what is left after a line of k bytes and its line feed
pub next_line : (bs rest : List ℕ) (at k next : ℕ) → at < length bs → rest ≡ drop at bs → k ≡ feedless rest → next ≡ min (at + length (take k rest) + 1) (length bs)
    → lines_of (drop at bs) ≡ take k rest ∷ lines_of (drop next bs)
next_line bs rest at k next more left is after =
    let size : length (take k rest) ≡ k = ap (λ j. length (take j rest)) is ∙ (length-prefix_len (λ b. not (b == 10)) rest ∙ sym is) in
    let past : drop (suc k) rest ≡ drop next bs =
    ap (drop (suc k)) left
    ∙ (drop-drop (suc k) at bs
    ∙ (ap (λ n. drop n bs) {x = at + suc k} {y = at + length (take k rest) + 1} (omega arith)
    ∙ (sym (drop_min (at + length (take k rest) + 1) bs) ∙ ap (λ n. drop n bs) (sym after)))) in
    sym (ap lines_of left)
    ∙ (first rest (omega (arith, length-drop at bs, ap length left)) ∙ (ap (cut_at rest) (sym is) ∙ ap (λ l. take k rest ∷ lines_of l) past))
