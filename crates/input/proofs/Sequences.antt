-- The sequence at a place, by its first byte. Assumes nothing.
use Rattle.std.proofs.Common.{◌≡◌, ℕ, ◌+◌, ◌<◌, ◌≤◌, List, get_or, refl, arith}
use Rattle.input.specs.Rows.{Tail, Follows, Shape, no_seq, of_one, of_two, of_three, of_four, sized, ShapeAt, shape_at}
use Rattle.input.specs.Utf8.{size_at}

-- bytes of a shape are what the table answers at their place
pub sized_at : (bs : List ℕ) (p n : ℕ) → ShapeAt bs p n → 0 < n → size_at bs p ≡ n
unfolding size_at
sized_at bs p n s h = sized n _ _ _ _ s h

-- where no row of the table fits, it answers 0
no_row : (n a b c d : ℕ) → Shape n a b c d → (a ≤ 127 → ⊥) → (194 ≤ a → a ≤ 223 → Tail b → ⊥)
    → (224 ≤ a → a ≤ 239 → Follows a b → Tail c → ⊥) → (240 ≤ a → a ≤ 244 → Follows a b → Tail c → Tail d → ⊥) → n ≡ 0
no_row n a b c d (no_seq e) one two three four = e
no_row n a b c d (of_one e i) one two three four = absurd (one i)
no_row n a b c d (of_two e i j tb) one two three four = absurd (two i j tb)
no_row n a b c d (of_three e i j f tc) one two three four = absurd (three i j f tc)
no_row n a b c d (of_four e i j f tc td) one two three four = absurd (four i j f tc td)

pub size_none : (bs : List ℕ) (p : ℕ) → (get_or bs p 0 ≤ 127 → ⊥) → (194 ≤ get_or bs p 0 → get_or bs p 0 ≤ 223 → Tail (get_or bs (p + 1) 0) → ⊥)
    → (224 ≤ get_or bs p 0 → get_or bs p 0 ≤ 239 → Follows (get_or bs p 0) (get_or bs (p + 1) 0) → Tail (get_or bs (p + 2) 0) → ⊥)
    → (240 ≤ get_or bs p 0 → get_or bs p 0 ≤ 244 → Follows (get_or bs p 0) (get_or bs (p + 1) 0) → Tail (get_or bs (p + 2) 0) → Tail (get_or bs (p + 3) 0) → ⊥)
    → size_at bs p ≡ 0
size_none bs p = no_row _ _ _ _ _ (shape_at bs p)

module _ (bs : List ℕ) (p : ℕ) where
  pub size_one : get_or bs p 0 ≤ 127 → size_at bs p ≡ 1
  size_one h = sized_at bs p 1 (of_one refl h) (omega arith)

  pub size_two : 194 ≤ get_or bs p 0 → get_or bs p 0 ≤ 223 → Tail (get_or bs (p + 1) 0) → size_at bs p ≡ 2
  size_two h l tb = sized_at bs p 2 (of_two refl h l tb) (omega arith)

  pub size_three : 224 ≤ get_or bs p 0 → get_or bs p 0 ≤ 239 → Follows (get_or bs p 0) (get_or bs (p + 1) 0) → Tail (get_or bs (p + 2) 0) → size_at bs p ≡ 3
  size_three h l f tc = sized_at bs p 3 (of_three refl h l f tc) (omega arith)

  pub size_four : 240 ≤ get_or bs p 0 → get_or bs p 0 ≤ 244 → Follows (get_or bs p 0) (get_or bs (p + 1) 0) → Tail (get_or bs (p + 2) 0) → Tail (get_or bs (p + 3) 0) → size_at bs p ≡ 4
  size_four h l f tc td = sized_at bs p 4 (of_four refl h l f tc td) (omega arith)

-- the size at a place, by the bytes there
pub ruleset sizes_by_bytes = (size_none, size_one, size_two, size_three, size_four)
