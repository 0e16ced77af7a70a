-- How a text is cut into words byte by byte, and word by word. Assumes nothing.
use Rattle.std.proofs.Common.{◌≡◌, ℕ, zero, suc, ◌+◌, ◌<◌, true, false, cond, List, [], ◌∷◌, length, get_or, take, drop, refl, ap, ◌∙◌, arith, rules}
use Rattle.std.specs.List.{prefix_len}
use Rattle.decimals.specs.Words.{Cut, found, apart, onto, cut_of, is_ink, words_in, words_from}

module _ (n b : ℕ) (bs : List ℕ) where
  cut_ink : is_ink b ≡ true → cut_of false n (b ∷ bs) ≡ onto b (cut_of false n bs)
  cut_ink e = search rules

  cut_gap : is_ink b ≡ false → cut_of false n (b ∷ bs) ≡ apart (words_from false n (b ∷ bs))
  cut_gap e = search rules

-- the text cut at an index
abbrev cut_at : ℕ → List ℕ → ℕ → Cut
cut_at n bs k = record { front = take k bs; after = words_from false n (drop k bs) }

-- a text is cut after the bytes at its front that are of a word
cut_front : (n : ℕ) (bs : List ℕ) → cut_of false n bs ≡ cut_at n bs (prefix_len is_ink bs)
cut_front n [] = refl
cut_front n (b ∷ bs) =
    elim (is_ink b) as (λ t. is_ink b ≡ t → cut_of false n (b ∷ bs) ≡ cut_at n (b ∷ bs) (cond t (1 + prefix_len is_ink bs) 0)) [
      | true ↦ λ e. cut_ink n b bs e ∙ (ap (onto b) (cut_front n bs) ∙ ap (cut_at n (b ∷ bs)) {x = suc (prefix_len is_ink bs)} (omega arith))
      | false ↦ λ e. cut_gap n b bs e
    ] refl

-- the word at the front of a cut, where there is one
word_cut : (n b : ℕ) (bs : List ℕ) (k : ℕ) → 0 < k → words_in n (cut_at n (b ∷ bs) k) ≡ found n (take k (b ∷ bs)) ∷ words_from false n (drop k (b ∷ bs))
word_cut n b bs zero some = absurd (omega arith)
word_cut n b bs (suc k) some = refl

pub first_word : (n : ℕ) (bs : List ℕ) → 0 < length bs → is_ink (get_or bs 0 0) ≡ true
    → let k = prefix_len is_ink bs in words_from false n bs ≡ found n (take k bs) ∷ words_from false n (drop k bs)
first_word n [] some ink = absurd (omega arith)
first_word n (b ∷ bs) some ink = ap (words_in n) (cut_front n (b ∷ bs)) ∙ word_cut n b bs (prefix_len is_ink (b ∷ bs)) (search rules)
