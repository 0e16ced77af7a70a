-- A list stays without equal elements where an element that it lacks is appended. Assumes nothing.
use Rattle.std.proofs.Common.{◌≡◌, ◌<◌, ◌≤◌, List, [], ◌∷◌, ◌++◌, length, sym, ◌∙◌, ⊎_elim, arith}
use Rattle.std.proofs.lemmas.List.{get_or_append_left, get_or_push, length_push}
use Rattle.std.proofs.lemmas.Bool.{cases_lt}
use Rattle.ordered_set.specs.Distinct.{Distinct, Absent}

pub distinct_push : {X : Type 0} (xs : List X) (x : X) → Distinct xs → Absent x xs → Distinct (xs ++ (x ∷ []))
distinct_push xs x apart absent i j d h =
    let n = length_push xs x in
    let k : i < length xs = omega arith in
    let equal = sym (get_or_append_left xs (x ∷ []) d i k) ∙ h.2 in
    ⊎_elim
    (λ (l : j < length xs). apart i j d (h.0, l, equal ∙ get_or_append_left xs (x ∷ []) d j l))
    (λ (l : length xs ≤ j). let e : length xs ≡ j = omega arith in absent i d k (equal ∙ get_or_push xs x d j e))
    (cases_lt j (length xs))
