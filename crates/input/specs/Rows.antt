-- Laws of the table of well-formed sequences: what the bytes of a sequence of each size are, and that such bytes are one. Assumes nothing.
use Rattle.std.specs.Prelude.{◌≡◌, ℕ, ◌+◌, ◌-◌, ◌<◌, ◌≤◌, Bool, true, false, cond, ◌&&◌, ◌⊎◌, List, length, slice_index, refl}
use Rattle.std.proofs.Common.{sym, ◌∙◌, subst, inr, ⊎_elim, arith}
use Rattle.std.proofs.lemmas.List.{get_or_past}
use Rattle.std.proofs.lemmas.Bool.{cases_lt, cond-true, cond-false, cond_both, and_from, and_parts, and_left}
use Rattle.input.specs.Utf8.{within, tail, size_of, symbol_of, size_at, symbol_at}

pub within_says : (lo hi a : ℕ) → within lo hi a ≡ true → (lo ≤ a) × (a ≤ hi)
unfolding within
within_says lo hi a e = grind arith

pub within_yes : (lo hi a : ℕ) → lo ≤ a → a ≤ hi → within lo hi a ≡ true
unfolding within
within_yes lo hi a l h = grind arith

within_out : (lo hi a : ℕ) → (a < lo) ⊎ (hi < a) → within lo hi a ≡ false
unfolding within
within_out lo hi a out = grind arith

-- a byte that goes on with a sequence
abbrev pub Tail : ℕ → Type 0
Tail b = (128 ≤ b) × (b ≤ 191)

-- b may stand second, after the first byte a of three or four
abbrev pub Follows : ℕ → ℕ → Type 0
Follows a b = Tail b × (a ≡ 224 → 160 ≤ b) × (a ≡ 237 → b ≤ 159) × (a ≡ 240 → 144 ≤ b) × (a ≡ 244 → b ≤ 143)

-- the sequences of each size n; n is 0 where there is none
pub data Shape (n a b c d : ℕ) : Type 0 where
  no_seq : n ≡ 0 → Shape n a b c d
  of_one : n ≡ 1 → a ≤ 127 → Shape n a b c d
  of_two : n ≡ 2 → 194 ≤ a → a ≤ 223 → Tail b → Shape n a b c d
  of_three : n ≡ 3 → 224 ≤ a → a ≤ 239 → Follows a b → Tail c → Shape n a b c d
  of_four : n ≡ 4 → 240 ≤ a → a ≤ 244 → Follows a b → Tail c → Tail d → Shape n a b c d

-- ---- what the table answers has a shape

-- a row of the table, where it fits and where it does not
row : (lo hi a : ℕ) (others : Bool) (n m : ℕ) (P : ℕ → Type 0) → (lo ≤ a → a ≤ hi → others ≡ true → P n) → P m → P (cond (within lo hi a && others) n m)
row lo hi a others n m P fits below =
    cond_both (within lo hi a && others) n m P
    (λ t. let p = and_parts (within lo hi a) others t in let w = within_says lo hi a p.0 in fits w.0 w.1 p.1)
    (λ _. below)

second : (a b lo hi : ℕ) → within lo hi b ≡ true → 128 ≤ lo → hi ≤ 191 → (a ≡ 224 → 160 ≤ lo) → (a ≡ 237 → hi ≤ 159) → (a ≡ 240 → 144 ≤ lo) → (a ≡ 244 → hi ≤ 143) → Follows a b
second a b lo hi e l h p q r s =
    let w = within_says lo hi b e in
    ((omega arith, omega arith), (λ z. let k = p z in omega arith), (λ z. let k = q z in omega arith), (λ z. let k = r z in omega arith), (λ z. let k = s z in omega arith))

three : (a b c d lo hi : ℕ) → 224 ≤ a → a ≤ 239 → 128 ≤ lo → hi ≤ 191 → (a ≡ 224 → 160 ≤ lo) → (a ≡ 237 → hi ≤ 159) → (within lo hi b && tail c) ≡ true → Shape 3 a b c d
three a b c d lo hi i j l h p q t =
    let e = and_parts (within lo hi b) (tail c) t in
    of_three refl i j (second a b lo hi e.0 l h p q (λ z. omega arith) (λ z. omega arith)) (within_says 128 191 c e.1)

four : (a b c d lo hi : ℕ) → 240 ≤ a → a ≤ 244 → 128 ≤ lo → hi ≤ 191 → (a ≡ 240 → 144 ≤ lo) → (a ≡ 244 → hi ≤ 143) → (within lo hi b && (tail c && tail d)) ≡ true → Shape 4 a b c d
four a b c d lo hi i j l h p q t =
    let e = and_parts (within lo hi b) (tail c && tail d) t in
    let f = and_parts (tail c) (tail d) e.1 in
    of_four refl i j (second a b lo hi e.0 l h (λ z. omega arith) (λ z. omega arith) p q) (within_says 128 191 c f.0) (within_says 128 191 d f.1)

pub shape : (a b c d : ℕ) → Shape (size_of a b c d) a b c d
shape a b c d =
    let P : ℕ → Type 0 = λ n. Shape n a b c d in
    cond_both (within 0 127 a) 1 _ P (λ t. of_one refl (within_says 0 127 a t).1) (λ _.
    row 194 223 a (tail b) 2 _ P (λ i j t. of_two refl i j (within_says 128 191 b t))
    (row 224 224 a (within 160 191 b && tail c) 3 _ P (λ i j. three a b c d 160 191 (omega arith) (omega arith) (omega arith) (omega arith) (λ z. omega arith) (λ z. omega arith))
    (row 225 236 a (within 128 191 b && tail c) 3 _ P (λ i j. three a b c d 128 191 (omega arith) (omega arith) (omega arith) (omega arith) (λ z. omega arith) (λ z. omega arith))
    (row 237 237 a (within 128 159 b && tail c) 3 _ P (λ i j. three a b c d 128 159 (omega arith) (omega arith) (omega arith) (omega arith) (λ z. omega arith) (λ z. omega arith))
    (row 238 239 a (within 128 191 b && tail c) 3 _ P (λ i j. three a b c d 128 191 (omega arith) (omega arith) (omega arith) (omega arith) (λ z. omega arith) (λ z. omega arith))
    (row 240 240 a (within 144 191 b && (tail c && tail d)) 4 _ P (λ i j. four a b c d 144 191 (omega arith) (omega arith) (omega arith) (omega arith) (λ z. omega arith) (λ z. omega arith))
    (row 241 243 a (within 128 191 b && (tail c && tail d)) 4 _ P (λ i j. four a b c d 128 191 (omega arith) (omega arith) (omega arith) (omega arith) (λ z. omega arith) (λ z. omega arith))
    (row 244 244 a (within 128 143 b && (tail c && tail d)) 4 _ P (λ i j. four a b c d 128 143 (omega arith) (omega arith) (omega arith) (omega arith) (λ z. omega arith) (λ z. omega arith))
    (no_seq refl)))))))))

-- ---- bytes of a shape are what the table answers

miss : (lo hi a : ℕ) (others : Bool) (n m : ℕ) → (a < lo) ⊎ (hi < a) → cond (within lo hi a && others) n m ≡ m
miss lo hi a others n m out = cond-false {A = ℕ} _ n m (and_left _ others (within_out lo hi a out))

hit : (lo hi a : ℕ) (others : Bool) (n m : ℕ) → lo ≤ a → a ≤ hi → others ≡ true → cond (within lo hi a && others) n m ≡ n
hit lo hi a others n m l h t = cond-true {A = ℕ} _ n m (and_from _ others (within_yes lo hi a l h) t)

tail_yes : (b : ℕ) → Tail b → tail b ≡ true
tail_yes b t = within_yes 128 191 b t.0 t.1

size_one : (a b c d : ℕ) → a ≤ 127 → size_of a b c d ≡ 1
size_one a b c d h = cond-true {A = ℕ} _ 1 _ (within_yes 0 127 a (omega arith) h)

past_one : (a m : ℕ) → 127 < a → cond (within 0 127 a) 1 m ≡ m
past_one a m h = cond-false {A = ℕ} _ 1 m (within_out 0 127 a (inr h))

size_two : (a b c d : ℕ) → 194 ≤ a → a ≤ 223 → Tail b → size_of a b c d ≡ 2
size_two a b c d l h tb = past_one a _ (omega arith) ∙ hit 194 223 a (tail b) 2 _ l h (tail_yes b tb)

-- the rows for 224 and above
past_two : (a m : ℕ) (others : Bool) → 224 ≤ a → cond (within 0 127 a) 1 (cond (within 194 223 a && others) 2 m) ≡ m
past_two a m others h = past_one a _ (omega arith) ∙ miss 194 223 a others 2 m (inr (omega arith))

size_three : (a b c d : ℕ) → 224 ≤ a → a ≤ 239 → Follows a b → Tail c → size_of a b c d ≡ 3
size_three a b c d l h f tc =
    let tb = f.0 in
    let t : (lo hi : ℕ) → lo ≤ b → b ≤ hi → (within lo hi b && tail c) ≡ true = λ lo hi i j. and_from _ _ (within_yes lo hi b i j) (tail_yes c tc) in
    past_two a _ (tail b) l
    ∙ ⊎_elim
    (λ k. hit 224 224 a (within 160 191 b && tail c) 3 _ l (omega arith) (t 160 191 (f.1 (omega arith)) tb.1))
    (λ k. miss 224 224 a _ 3 _ (inr k)
    ∙ ⊎_elim
    (λ m. hit 225 236 a (within 128 191 b && tail c) 3 _ k (omega arith) (t 128 191 tb.0 tb.1))
    (λ m. miss 225 236 a _ 3 _ (inr m)
    ∙ ⊎_elim
    (λ n. hit 237 237 a (within 128 159 b && tail c) 3 _ m (omega arith) (t 128 159 tb.0 (f.2 (omega arith))))
    (λ n. miss 237 237 a _ 3 _ (inr n) ∙ hit 238 239 a (within 128 191 b && tail c) 3 _ n h (t 128 191 tb.0 tb.1))
    (cases_lt a 238))
    (cases_lt a 237))
    (cases_lt a 225)

size_four : (a b c d : ℕ) → 240 ≤ a → a ≤ 244 → Follows a b → Tail c → Tail d → size_of a b c d ≡ 4
size_four a b c d l h f tc td =
    let tb = f.0 in
    let t : (lo hi : ℕ) → lo ≤ b → b ≤ hi → (within lo hi b && (tail c && tail d)) ≡ true =
    λ lo hi i j. and_from _ _ (within_yes lo hi b i j) (and_from _ _ (tail_yes c tc) (tail_yes d td)) in
    past_two a _ (tail b) (omega arith)
    ∙ miss 224 224 a _ 3 _ (inr (omega arith)) ∙ miss 225 236 a _ 3 _ (inr (omega arith)) ∙ miss 237 237 a _ 3 _ (inr (omega arith)) ∙ miss 238 239 a _ 3 _ (inr (omega arith))
    ∙ ⊎_elim
    (λ k. hit 240 240 a (within 144 191 b && (tail c && tail d)) 4 _ l (omega arith) (t 144 191 (f.3 (omega arith)) tb.1))
    (λ k. miss 240 240 a _ 4 _ (inr k)
    ∙ ⊎_elim
    (λ m. hit 241 243 a (within 128 191 b && (tail c && tail d)) 4 _ k (omega arith) (t 128 191 tb.0 tb.1))
    (λ m. miss 241 243 a _ 4 _ (inr m) ∙ hit 244 244 a (within 128 143 b && (tail c && tail d)) 4 _ m h (t 128 143 tb.0 (f.4 (omega arith))))
    (cases_lt a 244))
    (cases_lt a 241)

pub sized : (n a b c d : ℕ) → Shape n a b c d → 0 < n → size_of a b c d ≡ n
sized n a b c d (no_seq e) h = absurd (omega arith)
sized n a b c d (of_one e i) h = size_one a b c d i ∙ sym e
sized n a b c d (of_two e i j tb) h = size_two a b c d i j tb ∙ sym e
sized n a b c d (of_three e i j f tc) h = size_three a b c d i j f tc ∙ sym e
sized n a b c d (of_four e i j f tc td) h = size_four a b c d i j f tc td ∙ sym e

-- ---- the sequence at a place

-- the shape of the n bytes at place p
abbrev pub ShapeAt : List ℕ → ℕ → ℕ → Type 0
ShapeAt bs p n = Shape n (slice_index bs p) (slice_index bs (p + 1)) (slice_index bs (p + 2)) (slice_index bs (p + 3))

pub shape_at : (bs : List ℕ) (p : ℕ) → ShapeAt bs p (size_at bs p)
unfolding size_at
shape_at bs p = shape (slice_index bs p) (slice_index bs (p + 1)) (slice_index bs (p + 2)) (slice_index bs (p + 3))

-- its symbol is small enough
symbol_small : (n a b c d : ℕ) → Shape n a b c d → 0 < n → symbol_of n a b c d ≤ 1114111
symbol_small n a b c d (no_seq e) h = absurd (omega arith)
symbol_small n a b c d (of_one e i) h = subst (λ (m : ℕ). symbol_of m a b c d ≤ 1114111) (sym e) (omega arith)
symbol_small n a b c d (of_two e i j tb) h = subst (λ (m : ℕ). symbol_of m a b c d ≤ 1114111) (sym e) (omega arith)
symbol_small n a b c d (of_three e i j f tc) h = subst (λ (m : ℕ). symbol_of m a b c d ≤ 1114111) (sym e) (omega (arith, f.0))
symbol_small n a b c d (of_four e i j f tc td) h =
    subst (λ (m : ℕ). symbol_of m a b c d ≤ 1114111) (sym e)
    (⊎_elim (λ k. omega (arith, f.0)) (λ k. omega (arith, f.0, f.4 (omega arith))) (cases_lt a 244))

pub symbol_at_small : (bs : List ℕ) (p : ℕ) → 0 < size_at bs p → symbol_at bs p ≤ 1114111
unfolding symbol_at
symbol_at_small bs p h = symbol_small (size_at bs p) _ _ _ _ (shape_at bs p) h

-- it does not begin with a tail
lead : (n a b c d : ℕ) → Shape n a b c d → 0 < n → Tail a → ⊥
lead n a b c d (no_seq e) h t = omega arith
lead n a b c d (of_one e i) h t = omega arith
lead n a b c d (of_two e i j tb) h t = omega arith
lead n a b c d (of_three e i j f tc) h t = omega arith
lead n a b c d (of_four e i j f tc td) h t = omega arith

pub lead_at : (bs : List ℕ) (p : ℕ) → 0 < size_at bs p → Tail (slice_index bs p) → ⊥
lead_at bs p h t = lead (size_at bs p) _ _ _ _ (shape_at bs p) h t

-- and the others of its bytes are tails
tail_on : (bs : List ℕ) (p k i : ℕ) → k ≡ i → Tail (slice_index bs (p + k)) → Tail (slice_index bs (p + i))
tail_on bs p k i e t = subst (λ (x : ℕ). Tail (slice_index bs (p + x))) e t

others_at : (bs : List ℕ) (p n : ℕ) → ShapeAt bs p n → (i : ℕ) → 0 < i → i < n → Tail (slice_index bs (p + i))
others_at bs p n (no_seq e) i l h = absurd (omega arith)
others_at bs p n (of_one e k) i l h = absurd (omega arith)
others_at bs p n (of_two e k j tb) i l h = tail_on bs p 1 i (omega arith) tb
others_at bs p n (of_three e k j f tc) i l h =
    ⊎_elim (λ m. tail_on bs p 1 i (omega arith) f.0) (λ m. tail_on bs p 2 i (omega arith) tc) (cases_lt i 2)
others_at bs p n (of_four e k j f tc td) i l h =
    ⊎_elim (λ m. tail_on bs p 1 i (omega arith) f.0)
    (λ m. ⊎_elim (λ z. tail_on bs p 2 i (omega arith) tc) (λ z. tail_on bs p 3 i (omega arith) td) (cases_lt i 3))
    (cases_lt i 2)

pub tails_at : (bs : List ℕ) (p i : ℕ) → 0 < i → i < size_at bs p → Tail (slice_index bs (p + i))
tails_at bs p i l h = others_at bs p (size_at bs p) (shape_at bs p) i l h

-- a tail lies inside the bytes, and so does the whole sequence
pub tail_inside : (bs : List ℕ) (p : ℕ) → Tail (slice_index bs p) → p < length bs
tail_inside bs p t = ⊎_elim (λ l. l) (λ l. absurd (omega (arith, get_or_past bs p 0 l))) (cases_lt p (length bs))

pub size_inside : (bs : List ℕ) (p : ℕ) → p < length bs → p + size_at bs p ≤ length bs
size_inside bs p h =
    ⊎_elim
    (λ l. omega arith)
    (λ l. omega (arith, tail_inside bs (p + (size_at bs p - 1)) (tails_at bs p (size_at bs p - 1) (omega arith) (omega arith))))
    (cases_lt (size_at bs p) 2)
