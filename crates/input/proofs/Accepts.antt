-- Bytes that are UTF-8 to the standard library are well-formed here. Assumes nothing.
use Rattle.std.proofs.Common.{◌≡◌, ℕ, ◌+◌, ◌-◌, ◌/◌, ◌%◌, ◌<◌, ◌≤◌, true, ◌⊎◌, List, [], ◌∷◌, ◌++◌, length, get_or, drop, IsUtf8, sym, refl, ap, ◌∙◌, inl, inr, ⊎_elim, arith}
use lib.Utf8.{encode, encodes, scalar, scalars, scalar_cases}
use Rattle.std.proofs.lemmas.List.{get_or-drop, length-drop, length-append}
use Rattle.std.proofs.lemmas.Str.{encode_ascii, length-encode, len_utf8_bounds, drop_past_char}
use Rattle.std.proofs.lemmas.Bool.{cases_lt, and_parts}
use Rattle.std.specs.Char.{len_utf8}
use Rattle.input.specs.Utf8.{size_at, WellFormed, Refused}
use Rattle.input.specs.declared.fault.Notice.{Notice}
use Rattle.input.specs.Rows.{Follows, of_one, of_two, of_three, of_four}
use Rattle.input.proofs.Sequences.{sized_at}
use Rattle.input.proofs.Agree.{encode_2, encode_3, encode_4}
use Rattle.input.proofs.Stops.{stop_after, stop_more, stop_end, stop_start}

-- the byte at p + i, from what is left at p
byte : (bs ys : List ℕ) (p i q : ℕ) → p + i ≡ q → drop p bs ≡ ys → get_or bs q 0 ≡ get_or ys i 0
byte bs ys p i q h e = ap (λ (x : ℕ). get_or bs x 0) (sym h) ∙ sym (get_or-drop p bs i 0) ∙ ap (λ (xs : List ℕ). get_or xs i 0) e

size_1 : (bs rest : List ℕ) (p v : ℕ) → v < 128 → drop p bs ≡ encode v ++ rest → size_at bs p ≡ 1
size_1 bs rest p v h e =
    let a : get_or bs p 0 ≡ v = byte bs (v ∷ rest) p 0 p (omega arith) (e ∙ ap (λ (x : List ℕ). x ++ rest) (encode_ascii v h)) in
    sized_at bs p 1 (of_one refl (omega arith)) (omega arith)

size_2 : (bs rest : List ℕ) (p v : ℕ) → 128 ≤ v → v < 2048 → drop p bs ≡ encode v ++ rest → size_at bs p ≡ 2
size_2 bs rest p v l h e =
    let xs : List ℕ = (192 + v / 64) ∷ (128 + v % 64) ∷ rest in
    let e' : drop p bs ≡ xs = e ∙ ap (λ (x : List ℕ). x ++ rest) (encode_2 v l h) in
    let a : get_or bs p 0 ≡ 192 + v / 64 = byte bs xs p 0 p (omega arith) e' in
    let b : get_or bs (p + 1) 0 ≡ 128 + v % 64 = byte bs xs p 1 (p + 1) (omega arith) e' in
    sized_at bs p 2 (of_two refl (omega arith) (omega arith) (omega arith, omega arith)) (omega arith)

-- the second byte of three, and of four
second_3 : (v a b : ℕ) → (v < 55296) ⊎ ((57344 ≤ v) × (v < 1114112)) → 2048 ≤ v → v < 65536 → a ≡ 224 + v / 4096 → b ≡ 128 + (v / 64) % 64 → Follows a b
second_3 v a b s l h ea eb =
    ((omega arith, omega arith), (λ z. omega arith), (λ z. ⊎_elim (λ k. omega arith) (λ k. omega arith) s), (λ z. omega arith), (λ z. omega arith))

second_4 : (v a b : ℕ) → 65536 ≤ v → v < 1114112 → a ≡ 240 + v / 262144 → b ≡ 128 + (v / 4096) % 64 → Follows a b
second_4 v a b l h ea eb = ((omega arith, omega arith), (λ z. omega arith), (λ z. omega arith), (λ z. omega arith), (λ z. omega arith))

size_3 : (bs rest : List ℕ) (p v : ℕ) → scalar v ≡ true → 2048 ≤ v → v < 65536 → drop p bs ≡ encode v ++ rest → size_at bs p ≡ 3
size_3 bs rest p v s l h e =
    let xs : List ℕ = (224 + v / 4096) ∷ (128 + (v / 64) % 64) ∷ (128 + v % 64) ∷ rest in
    let e' : drop p bs ≡ xs = e ∙ ap (λ (x : List ℕ). x ++ rest) (encode_3 v l h) in
    let a : get_or bs p 0 ≡ 224 + v / 4096 = byte bs xs p 0 p (omega arith) e' in
    let b : get_or bs (p + 1) 0 ≡ 128 + (v / 64) % 64 = byte bs xs p 1 (p + 1) (omega arith) e' in
    let c : get_or bs (p + 2) 0 ≡ 128 + v % 64 = byte bs xs p 2 (p + 2) (omega arith) e' in
    sized_at bs p 3 (of_three refl (omega arith) (omega arith) (second_3 v _ _ (scalar_cases v s) l h a b) (omega arith, omega arith)) (omega arith)

size_4 : (bs rest : List ℕ) (p v : ℕ) → 65536 ≤ v → v < 1114112 → drop p bs ≡ encode v ++ rest → size_at bs p ≡ 4
size_4 bs rest p v l h e =
    let xs : List ℕ = (240 + v / 262144) ∷ (128 + (v / 4096) % 64) ∷ (128 + (v / 64) % 64) ∷ (128 + v % 64) ∷ rest in
    let e' : drop p bs ≡ xs = e ∙ ap (λ (x : List ℕ). x ++ rest) (encode_4 v l) in
    let a : get_or bs p 0 ≡ 240 + v / 262144 = byte bs xs p 0 p (omega arith) e' in
    let b : get_or bs (p + 1) 0 ≡ 128 + (v / 4096) % 64 = byte bs xs p 1 (p + 1) (omega arith) e' in
    let c : get_or bs (p + 2) 0 ≡ 128 + (v / 64) % 64 = byte bs xs p 2 (p + 2) (omega arith) e' in
    let d : get_or bs (p + 3) 0 ≡ 128 + v % 64 = byte bs xs p 3 (p + 3) (omega arith) e' in
    sized_at bs p 4 (of_four refl (omega arith) (omega arith) (second_4 v _ _ l h a b) (omega arith, omega arith) (omega arith, omega arith)) (omega arith)

size_width : (bs rest : List ℕ) (p v : ℕ) → scalar v ≡ true → drop p bs ≡ encode v ++ rest → size_at bs p ≡ len_utf8 v
size_width bs rest p v s e =
    let top : v < 1114112 = ⊎_elim (λ k. omega arith) (λ k. k.1) (scalar_cases v s) in
    ⊎_elim
    (λ h. let n = size_1 bs rest p v h e in grind arith)
    (λ l. ⊎_elim
    (λ h. let n = size_2 bs rest p v l h e in grind arith)
    (λ k. ⊎_elim
    (λ h. let n = size_3 bs rest p v s k h e in grind arith)
    (λ j. let n = size_4 bs rest p v j top e in grind arith)
    (cases_lt v 65536))
    (cases_lt v 2048))
    (cases_lt v 128)

runs : (bs cs : List ℕ) (p : ℕ) → p ≤ length bs → scalars cs ≡ true → encodes cs ≡ drop p bs → stop_after bs p ≡ length bs
runs bs [] p h s e =
    let z : 0 ≡ length (drop p bs) = ap length e in
    let l : length bs ≤ p = omega (arith, length-drop p bs) in
    stop_end bs p l ∙ omega arith
runs bs (v ∷ cs) p h s e =
    let q = and_parts (scalar v) (scalars cs) s in
    let n : size_at bs p ≡ len_utf8 v = size_width bs (encodes cs) p v q.0 (sym e) in
    let wb = len_utf8_bounds v in
    let len : length (encode v) + length (encodes cs) ≡ length bs - p = sym (length-append (encode v) (encodes cs)) ∙ ap length e ∙ length-drop p bs in
    let le = length-encode v in
    let d : drop (p + size_at bs p) bs ≡ encodes cs = ap (λ (x : ℕ). drop (p + x) bs) n ∙ drop_past_char bs (encodes cs) p v (sym e) in
    sym (stop_more bs p _ (omega arith) refl (omega arith)) ∙ runs bs cs (p + size_at bs p) (omega arith) q.1 (sym d)

pub utf8_formed : (bs : List ℕ) → IsUtf8 bs → WellFormed bs
utf8_formed bs u = sym (stop_start bs) ∙ runs bs u.0 0 (omega arith) u.1.0 u.1.1

-- bytes that are refused, and not too many, are not UTF-8
pub refused_not : (bs : List ℕ) (told : Notice) → Refused bs told → length bs ≤ 1048576 → IsUtf8 bs → ⊥
refused_not bs told (inl long) few u = omega (arith, long.long)
refused_not bs told (inr ill) few u = omega (arith, ill.inside, utf8_formed bs u)
