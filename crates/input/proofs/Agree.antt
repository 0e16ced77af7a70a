-- Bytes that are a text here are one to the standard library, with the same symbols. Assumes nothing.
use Rattle.std.proofs.Common.{◌≡◌, ℕ, zero, suc, ◌+◌, ◌-◌, ◌*◌, ◌/◌, ◌%◌, ◌<◌, ◌≤◌, Bool, true, false, cond, eqb, List, [], ◌∷◌, ◌++◌, map, length, get_or, drop, IsUtf8, sym, refl, ap, ◌∙◌, subst, ⊎_elim, arith, rules}
use lib.Utf8.{encode, encodes, scalar, scalars, low_scalar}
use Rattle.std.proofs.lemmas.List.{drop_more, drop_all}
use Rattle.std.proofs.lemmas.Str.{encode_ascii, chars_from_encodes}
use Rattle.std.specs.Str.{chars}
use Rattle.std.proofs.lemmas.Bool.{cases_lt, and_from, eqb-false}
use Rattle.input.specs.Utf8.{symbol_of, symbol_at, size_at, places_from, stop_from, places_of, stop_of, WellFormed, text_of}
use Rattle.input.specs.Rows.{Tail, Follows, ShapeAt, no_seq, of_one, of_two, of_three, of_four, shape_at, size_inside, tail_inside}
use Rattle.input.specs.Places.{Covered, covered_more, covered_size}

div2 : (a b v : ℕ) → 192 ≤ a → Tail b → v ≡ (a - 192) * 64 + (b - 128) → (192 + v / 64 ≡ a) × (128 + v % 64 ≡ b)
div2 a b v h t e = (omega arith, omega arith)

div3 : (a b c v : ℕ) → 224 ≤ a → Tail b → Tail c → v ≡ (a - 224) * 4096 + (b - 128) * 64 + (c - 128) → (224 + v / 4096 ≡ a) × (128 + (v / 64) % 64 ≡ b) × (128 + v % 64 ≡ c)
div3 a b c v h tb tc e = (omega arith, omega arith, omega arith)

div4 : (a b c d v : ℕ) → 240 ≤ a → Tail b → Tail c → Tail d → v ≡ (a - 240) * 262144 + (b - 128) * 4096 + (c - 128) * 64 + (d - 128)
    → (240 + v / 262144 ≡ a) × (128 + (v / 4096) % 64 ≡ b) × (128 + (v / 64) % 64 ≡ c) × (128 + v % 64 ≡ d)
div4 a b c d v h tb tc td e = (omega arith, omega arith, omega arith, omega arith)

pub encode_2 : (v : ℕ) → 128 ≤ v → v < 2048 → encode v ≡ (192 + v / 64) ∷ (128 + v % 64) ∷ []
unfolding encode
encode_2 v h l = search rules

pub encode_3 : (v : ℕ) → 2048 ≤ v → v < 65536 → encode v ≡ (224 + v / 4096) ∷ (128 + (v / 64) % 64) ∷ (128 + v % 64) ∷ []
unfolding encode
encode_3 v h l = grind arith

pub encode_4 : (v : ℕ) → 65536 ≤ v → encode v ≡ (240 + v / 262144) ∷ (128 + (v / 4096) % 64) ∷ (128 + (v / 64) % 64) ∷ (128 + v % 64) ∷ []
unfolding encode
encode_4 v h = search rules

high_scalar : (v : ℕ) → 57344 ≤ v → v < 1114112 → scalar v ≡ true
high_scalar v h l = search rules

-- a sequence is the encoding of its symbol, which is a scalar value
abbrev Spelt : ℕ → List ℕ → Type 0
Spelt v xs = (scalar v ≡ true) × (encode v ≡ xs)

two_spelt : (a b v : ℕ) → 194 ≤ a → a ≤ 223 → Tail b → v ≡ (a - 192) * 64 + (b - 128) → Spelt v (a ∷ b ∷ [])
two_spelt a b v i j tb e =
    let r = div2 a b v (omega arith) tb e in
    (low_scalar v (omega arith), let k = encode_2 v (omega arith) (omega arith) in cc)

three_scalar : (a b c v : ℕ) → 224 ≤ a → a ≤ 239 → Follows a b → Tail c → v ≡ (a - 224) * 4096 + (b - 128) * 64 + (c - 128) → scalar v ≡ true
three_scalar a b c v i j f tc e =
    let tb = f.0 in
    ⊎_elim
    (λ l. low_scalar v (omega arith))
    (λ l. ⊎_elim (λ k. let h : b ≤ 159 = f.2 (omega arith) in low_scalar v (omega arith)) (λ k. high_scalar v (omega arith) (omega arith)) (cases_lt a 238))
    (cases_lt a 237)

three_spelt : (a b c v : ℕ) → 224 ≤ a → a ≤ 239 → Follows a b → Tail c → v ≡ (a - 224) * 4096 + (b - 128) * 64 + (c - 128) → Spelt v (a ∷ b ∷ c ∷ [])
three_spelt a b c v i j f tc e =
    let tb = f.0 in
    let r = div3 a b c v i tb tc e in
    let low : 2048 ≤ v = ⊎_elim (λ l. let h : 160 ≤ b = f.1 (omega arith) in omega arith) (λ l. omega arith) (cases_lt a 225) in
    (three_scalar a b c v i j f tc e, let k = encode_3 v low (omega arith) in cc)

four_spelt : (a b c d v : ℕ) → 240 ≤ a → a ≤ 244 → Follows a b → Tail c → Tail d → v ≡ (a - 240) * 262144 + (b - 128) * 4096 + (c - 128) * 64 + (d - 128) → Spelt v (a ∷ b ∷ c ∷ d ∷ [])
four_spelt a b c d v i j f tc td e =
    let tb = f.0 in
    let r = div4 a b c d v i tb tc td e in
    let low : 65536 ≤ v = ⊎_elim (λ l. let h : 144 ≤ b = f.3 (omega arith) in omega arith) (λ l. omega arith) (cases_lt a 241) in
    let top : v < 1114112 = ⊎_elim (λ l. omega arith) (λ l. let h : b ≤ 143 = f.4 (omega arith) in omega arith) (cases_lt a 244) in
    (high_scalar v (omega arith) top, let k = encode_4 v low in cc)

-- what is left of the bytes, some bytes further
drop_2 : (bs : List ℕ) (p : ℕ) → p + 1 < length bs → drop p bs ≡ get_or bs p 0 ∷ get_or bs (p + 1) 0 ∷ drop (p + 2) bs
drop_2 bs p h =
    drop_more bs p 0 (omega arith)
    ∙ ap (λ (x : List ℕ). get_or bs p 0 ∷ x) (drop_more bs (p + 1) 0 h ∙ ap (λ (q : ℕ). get_or bs (p + 1) 0 ∷ drop q bs) (omega arith))

drop_3 : (bs : List ℕ) (p : ℕ) → p + 2 < length bs → drop p bs ≡ get_or bs p 0 ∷ get_or bs (p + 1) 0 ∷ get_or bs (p + 2) 0 ∷ drop (p + 3) bs
drop_3 bs p h =
    drop_2 bs p (omega arith)
    ∙ ap (λ (x : List ℕ). get_or bs p 0 ∷ get_or bs (p + 1) 0 ∷ x) (drop_more bs (p + 2) 0 h ∙ ap (λ (q : ℕ). get_or bs (p + 2) 0 ∷ drop q bs) (omega arith))

drop_4 : (bs : List ℕ) (p : ℕ) → p + 3 < length bs → drop p bs ≡ get_or bs p 0 ∷ get_or bs (p + 1) 0 ∷ get_or bs (p + 2) 0 ∷ get_or bs (p + 3) 0 ∷ drop (p + 4) bs
drop_4 bs p h =
    drop_3 bs p (omega arith)
    ∙ ap (λ (x : List ℕ). get_or bs p 0 ∷ get_or bs (p + 1) 0 ∷ get_or bs (p + 2) 0 ∷ x) (drop_more bs (p + 3) 0 h ∙ ap (λ (q : ℕ). get_or bs (p + 3) 0 ∷ drop q bs) (omega arith))

-- what is left of the bytes at a place begins with the encoding of the symbol there
abbrev Begins : List ℕ → ℕ → ℕ → Type 0
Begins bs p n =
    let v = symbol_of n (get_or bs p 0) (get_or bs (p + 1) 0) (get_or bs (p + 2) 0) (get_or bs (p + 3) 0) in
    (scalar v ≡ true) × (encode v ++ drop (p + n) bs ≡ drop p bs)

begins : (bs : List ℕ) (p n : ℕ) → ShapeAt bs p n → 0 < n → p + n ≤ length bs → Begins bs p n
begins bs p n (no_seq e) h l = absurd (omega arith)
begins bs p n (of_one e i) h l =
    subst (Begins bs p) (sym e)
    (low_scalar (get_or bs p 0) (omega arith), ap (λ (x : List ℕ). x ++ drop (p + 1) bs) (encode_ascii (get_or bs p 0) (omega arith)) ∙ sym (drop_more bs p 0 (omega arith)))
begins bs p n (of_two e i j tb) h l =
    let s = two_spelt (get_or bs p 0) (get_or bs (p + 1) 0) _ i j tb refl in
    subst (Begins bs p) (sym e) (s.0, ap (λ (x : List ℕ). x ++ drop (p + 2) bs) s.1 ∙ sym (drop_2 bs p (omega arith)))
begins bs p n (of_three e i j f tc) h l =
    let s = three_spelt (get_or bs p 0) (get_or bs (p + 1) 0) (get_or bs (p + 2) 0) _ i j f tc refl in
    subst (Begins bs p) (sym e) (s.0, ap (λ (x : List ℕ). x ++ drop (p + 3) bs) s.1 ∙ sym (drop_3 bs p (omega arith)))
begins bs p n (of_four e i j f tc td) h l =
    let s = four_spelt (get_or bs p 0) (get_or bs (p + 1) 0) (get_or bs (p + 2) 0) (get_or bs (p + 3) 0) _ i j f tc td refl in
    subst (Begins bs p) (sym e) (s.0, ap (λ (x : List ℕ). x ++ drop (p + 4) bs) s.1 ∙ sym (drop_4 bs p (omega arith)))

begins_at : (bs : List ℕ) (p : ℕ) → p < length bs → 0 < size_at bs p → (scalar (symbol_at bs p) ≡ true) × (encode (symbol_at bs p) ++ drop (p + size_at bs p) bs ≡ drop p bs)
unfolding symbol_at
begins_at bs p l h = begins bs p (size_at bs p) (shape_at bs p) h (size_inside bs p l)

abbrev Spells : List ℕ → List ℕ → ℕ → Type 0
Spells bs ps q = (scalars (map (symbol_at bs) ps) ≡ true) × (encodes (map (symbol_at bs) ps) ≡ drop q bs)

spells_at : (bs : List ℕ) (n p stop : ℕ) (b : Bool) (rest : List ℕ) → eqb (size_at bs p) 0 ≡ b → p + suc n ≡ length bs
    → (stop ≡ length bs → Spells bs rest (suc p + (size_at bs p - 1)))
    → cond b p stop ≡ length bs → Spells bs (cond b [] (p ∷ rest)) (p + 0)
spells_at bs n p stop true rest e l r w = absurd (omega arith)
spells_at bs n p stop false rest e l r w =
    let z : size_at bs p ≡ 0 → ⊥ = eqb-false (size_at bs p) 0 e in
    let pos : 0 < size_at bs p = ⊎_elim (λ h. absurd (z (omega arith))) (λ h. h) (cases_lt (size_at bs p) 1) in
    let q = r w in
    let b = begins_at bs p (omega arith) pos in
    let e1 : suc p + (size_at bs p - 1) ≡ p + size_at bs p = omega arith in
    let e2 : p ≡ p + 0 = omega arith in (
      and_from (scalar (symbol_at bs p)) (scalars (map (symbol_at bs) rest)) b.0 q.0,
      ap (λ (x : List ℕ). encode (symbol_at bs p) ++ x) (q.1 ∙ ap (λ (k : ℕ). drop k bs) e1) ∙ b.1 ∙ ap (λ (k : ℕ). drop k bs) e2,
    )

spells : (bs : List ℕ) (n s p : ℕ) → p + n ≡ length bs → Covered bs s p → stop_from bs n s p ≡ length bs → Spells bs (places_from bs n s p) (p + s)
spells bs zero zero p e c w = (refl, sym (drop_all (p + 0) bs (omega arith)))
spells bs zero (suc s) p e c w = absurd (omega (arith, tail_inside bs (p + 0) (c 0 (omega arith))))
spells bs (suc n) (suc s) p e c w =
    let r = spells bs n s (suc p) (omega arith) (covered_more bs s p c) w in
    let e1 : suc p + s ≡ p + suc s = omega arith in
    (r.0, r.1 ∙ ap (λ (k : ℕ). drop k bs) e1)
spells bs (suc n) zero p e c w =
    spells_at bs n p (stop_from bs n (size_at bs p - 1) (suc p)) (eqb (size_at bs p) 0) (places_from bs n (size_at bs p - 1) (suc p)) refl e
    (λ w'. spells bs n (size_at bs p - 1) (suc p) (omega arith) (covered_size bs p) w') w

pub formed_spells : (bs : List ℕ) → WellFormed bs → (scalars (text_of bs).symbols ≡ true) × (encodes (text_of bs).symbols ≡ bs)
unfolding places_of stop_of
formed_spells bs w = spells bs (length bs) 0 0 (omega arith) (λ i h. absurd (omega arith)) w

pub formed_utf8 : (bs : List ℕ) → WellFormed bs → IsUtf8 bs × ((text_of bs).symbols ≡ chars bs)
formed_utf8 bs w =
    let r = formed_spells bs w in
    let u : IsUtf8 bs = ((text_of bs).symbols, (r.0, r.1)) in
    (u, chars_from_encodes (text_of bs).symbols bs u r.1)
