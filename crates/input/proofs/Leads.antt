-- The leading ones of the first byte of a sequence of a text tell its size, and so what a reading step answers. Assumes nothing.
use Rattle.std.proofs.Common.{◌≡◌, ℕ, ◌+◌, ◌-◌, ◌*◌, ◌%◌, ◌<◌, ◌≤◌, List, length, get_or, Some, None, refl, ⊎_elim, arith}
use Rattle.std.proofs.lemmas.Bool.{cond-true, cond-false, lt-ltb, le-ltb}
use Rattle.input.specs.Rows.{Tail, Shape, no_seq, of_one, of_two, of_three, of_four, shape_at, lead_at, size_inside}
use Rattle.input.specs.Utf8.{symbol_of, size_at, symbol_at, Readable, Stands, read_at}
use Rattle.input.proofs.Ones.{ones, ones_0, ones_2, ones_3, ones_else}
use Rattle.input.proofs.Standing.{stand_size}

-- ---- the symbol by the low bits of the bytes, by the first of them
low_tail : (b : ℕ) → Tail b → b % 64 ≡ b - 128
low_tail b t = omega arith

-- a sequence of n bytes is one of m, and v is its symbol
abbrev Row : ℕ → ℕ → ℕ → ℕ → ℕ → ℕ → ℕ → Type 0
Row n a b c d m v = (n ≡ m) × (v ≡ symbol_of n a b c d)

module _ (n a b c d : ℕ) (any : 0 < n) where
  one_row : Shape n a b c d → a ≤ 127 → Row n a b c d 1 a
  one_row (no_seq e) h = absurd (omega arith)
  one_row (of_one e i) h = (e, rw e refl)
  one_row (of_two e i j tb) h = absurd (omega arith)
  one_row (of_three e i j f tc) h = absurd (omega arith)
  one_row (of_four e i j f tc td) h = absurd (omega arith)

  two_row : Shape n a b c d → 192 ≤ a → a ≤ 223 → Row n a b c d 2 (a % 32 * 64 + b % 64)
  two_row (no_seq e) h l = absurd (omega arith)
  two_row (of_one e i) h l = absurd (omega arith)
  two_row (of_two e i j tb) h l = (e, rw e (omega arith))
  two_row (of_three e i j f tc) h l = absurd (omega arith)
  two_row (of_four e i j f tc td) h l = absurd (omega arith)

  three_row : Shape n a b c d → 224 ≤ a → a ≤ 239 → Row n a b c d 3 (a % 16 * 4096 + b % 64 * 64 + c % 64)
  three_row (no_seq e) h l = absurd (omega arith)
  three_row (of_one e i) h l = absurd (omega arith)
  three_row (of_two e i j tb) h l = absurd (omega arith)
  three_row (of_three e i j f tc) h l =
      let k : a % 16 ≡ a - 224 = omega arith in
      (e, rw (e, k, low_tail b f.0, low_tail c tc) refl)
  three_row (of_four e i j f tc td) h l = absurd (omega arith)

  four_row : Shape n a b c d → 240 ≤ a → Row n a b c d 4 (a % 8 * 262144 + b % 64 * 4096 + c % 64 * 64 + d % 64)
  four_row (no_seq e) h = absurd (omega arith)
  four_row (of_one e i) h = absurd (omega arith)
  four_row (of_two e i j tb) h = absurd (omega arith)
  four_row (of_three e i j f tc) h = absurd (omega arith)
  four_row (of_four e i j f tc td) h =
      let k : a % 8 ≡ a - 240 = omega arith in
      (e, rw (e, k, low_tail b f.0, low_tail c tc, low_tail d td) refl)

-- what a reading step answers: the sequence of n bytes at place p lies inside, and it is the symbol v
abbrev pub Reads : List ℕ → ℕ → ℕ → ℕ → Type 0
Reads bs p n v = (read_at bs p ≡ Some (v, n)) × (p + n ≤ length bs)

pub read_none : (bs : List ℕ) (p : ℕ) → length bs ≤ p → read_at bs p ≡ None
unfolding read_at
read_none bs p h = cond-false _ _ _ (le-ltb p (length bs) h)

module _ (bs : List ℕ) (p : ℕ) (readable : Readable bs) (stands : Stands bs p) (inside : p < length bs) where
  any : 0 < size_at bs p
  any = stand_size bs p readable.1 stands inside

  reads : (m v : ℕ) → Row (size_at bs p) (get_or bs p 0) (get_or bs (p + 1) 0) (get_or bs (p + 2) 0) (get_or bs (p + 3) 0) m v → Reads bs p m v
  unfolding read_at symbol_at
  reads m v r =
      (rw (r.1, ← r.0) (cond-true _ _ _ (lt-ltb p (length bs) inside)), omega (arith, r.0, size_inside bs p inside))

  pub read_one : ones (get_or bs p 0) ≡ 0 → Reads bs p 1 (get_or bs p 0)
  read_one e = reads _ _ (one_row _ _ _ _ _ any (shape_at bs p) (ones_0 _ e))

  pub read_two : ones (get_or bs p 0) ≡ 2 → Reads bs p 2 (get_or bs p 0 % 32 * 64 + get_or bs (p + 1) 0 % 64)
  read_two e = let a = ones_2 _ e in reads _ _ (two_row _ _ _ _ _ any (shape_at bs p) a.0 a.1)

  pub read_three : ones (get_or bs p 0) ≡ 3
      → Reads bs p 3 (get_or bs p 0 % 16 * 4096 + get_or bs (p + 1) 0 % 64 * 64 + get_or bs (p + 2) 0 % 64)
  read_three e = let a = ones_3 _ e in reads _ _ (three_row _ _ _ _ _ any (shape_at bs p) a.0 a.1)

  pub read_four : (ones (get_or bs p 0) ≡ 0 → ⊥) → (ones (get_or bs p 0) ≡ 2 → ⊥) → (ones (get_or bs p 0) ≡ 3 → ⊥)
      → Reads bs p 4 (get_or bs p 0 % 8 * 262144 + get_or bs (p + 1) 0 % 64 * 4096 + get_or bs (p + 2) 0 % 64 * 64 + get_or bs (p + 3) 0 % 64)
  read_four n0 n2 n3 =
      let large : 240 ≤ get_or bs p 0 = ⊎_elim (λ t. absurd (lead_at bs p any t)) (λ l. l) (ones_else _ n0 n2 n3) in
      reads _ _ (four_row _ _ _ _ _ any (shape_at bs p) large)

-- what a reading step answers, by the leading ones
pub ruleset reads_by_ones = (read_none, read_one, read_two, read_three, read_four)
