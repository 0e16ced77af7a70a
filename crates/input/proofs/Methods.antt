-- What the methods of a source in UTF-8 rest on. Assumes nothing.
use Rattle.std.proofs.Common.{◌≡◌, ℕ, ◌+◌, ◌<◌, ◌≤◌, Bool, true, false, cond, ltb, List, map, length, get_or, pos, negsuc, Some, None, Option, sym, refl, ap, ◌∙◌, subst, ⊎_elim, arith}
use Rattle.std.proofs.lemmas.List.{get_or_past, length-map}
use Rattle.std.proofs.lemmas.Bool.{cases_lt, lt-ltb, le-ltb, ltb-true, ltb-false}
use Rattle.input.specs.Text.{read_to, more, coming, stepped, Sought}
use Rattle.input.specs.Utf8.{size_at, symbol_at, places_of, WellFormed, before, of_bytes, Stands, read_at}
use Rattle.input.specs.Rows.{Tail, lead_at, tail_inside, size_inside, symbol_at_small}
use Rattle.input.specs.Places.{up_at, up_places, before_le, chain_places, chain_next}
use Rattle.input.proofs.Reading.{coming_symbol, coming_end, stepped-more, stepped_end}
use Rattle.input.proofs.Standing.{before_member, before_end, begins_at, stand_lt, stand_ge, stand_size, stand_symbol, stand_next}

-- ---- what a reading step answered

some_of : (b : Bool) (x y v n : ℕ) → Some (v, n) ≡ cond {A = Option (ℕ × ℕ)} b (Some (x, y)) None → (b ≡ true) × (v ≡ x) × (n ≡ y)
some_of true x y v n e = let f : ◌≡◌ {A = ℕ × ℕ} (v, n) (x, y) = cc in (refl, ap (λ (p : ℕ × ℕ). p.0) f, ap (λ (p : ℕ × ℕ). p.1) f)
some_of false x y v n e = cc

none_of : (b : Bool) (x y : ℕ) → None ≡ cond {A = Option (ℕ × ℕ)} b (Some (x, y)) None → b ≡ false
none_of true x y e = cc
none_of false x y e = refl

module _ (bs : List ℕ) (at : ℕ) where
  read_some : (v n : ℕ) → Some (v, n) ≡ read_at bs at → (at < length bs) × (v ≡ symbol_at bs at) × (n ≡ size_at bs at)
  unfolding read_at
  read_some v n e = let r = some_of (ltb at (length bs)) (symbol_at bs at) (size_at bs at) v n e in (ltb-true at (length bs) r.0, r.1, r.2)

  read_none : None ≡ read_at bs at → length bs ≤ at
  unfolding read_at
  read_none e = ltb-false at (length bs) (none_of (ltb at (length bs)) (symbol_at bs at) (size_at bs at) e)

  -- ---- looking and stepping

  before_count : before at (places_of bs) ≤ length (map (symbol_at bs) (places_of bs))
  before_count = omega (arith, before_le at (places_of bs), length-map (places_of bs) (symbol_at bs))

  left_over : Stands bs at → at < length bs → before at (places_of bs) < length (map (symbol_at bs) (places_of bs))
  left_over s l = omega (arith, stand_lt bs at s l, length-map (places_of bs) (symbol_at bs))

  none_left : Stands bs at → length bs ≤ at → length (map (symbol_at bs) (places_of bs)) ≤ before at (places_of bs)
  none_left s l = omega (arith, stand_ge bs at s l, length-map (places_of bs) (symbol_at bs))

  pub look_small : (v n : ℕ) → WellFormed bs → Stands bs at → Some (v, n) ≡ read_at bs at → v ≤ 1114111
  look_small v n w s e = let r = read_some v n e in omega (arith, r.1, symbol_at_small bs at (stand_size bs at w s r.0))

  pub look_some : (v n : ℕ) → Stands bs at → Some (v, n) ≡ read_at bs at → pos v ≡ coming (of_bytes bs at)
  look_some v n s e =
      let r = read_some v n e in
      sym (coming_symbol (of_bytes bs at) (left_over s r.0) ∙ ap pos (stand_symbol bs at s r.0 ∙ sym r.1))

  pub look_none : Stands bs at → None ≡ read_at bs at → negsuc 0 ≡ coming (of_bytes bs at)
  look_none s e = sym (coming_end (of_bytes bs at) (none_left s (read_none e)))

  pub step_inside : (v n : ℕ) → Some (v, n) ≡ read_at bs at → at + n ≤ length bs
  step_inside v n e = let r = read_some v n e in omega (arith, r.2, size_inside bs at r.0)

  pub step_stands : (v n : ℕ) → WellFormed bs → Stands bs at → Some (v, n) ≡ read_at bs at → Stands bs (at + n)
  step_stands v n w s e =
      let r = read_some v n e in
      subst (λ (x : ℕ). Stands bs (at + x)) (sym r.2) (stand_next bs at w s r.0).1

  pub step_some : (v n : ℕ) → WellFormed bs → Stands bs at → Some (v, n) ≡ read_at bs at → (true ≡ more (of_bytes bs at)) × (of_bytes bs (at + n) ≡ stepped (of_bytes bs at))
  step_some v n w s e =
      let r = read_some v n e in
      let l = left_over s r.0 in
      let b : before (at + n) (places_of bs) ≡ before at (places_of bs) + 1 =
      ap (λ (x : ℕ). before (at + x) (places_of bs)) r.2 ∙ (stand_next bs at w s r.0).0 in
      (sym (lt-ltb _ _ l), ap (read_to (of_bytes bs at)) b ∙ sym (stepped-more (of_bytes bs at) l))

  pub step_none : Stands bs at → None ≡ read_at bs at → (false ≡ more (of_bytes bs at)) × (of_bytes bs at ≡ stepped (of_bytes bs at))
  step_none s e = let l = none_left s (read_none e) in (sym (le-ltb _ _ l), sym (stepped_end (of_bytes bs at) l))

-- ---- a search for a place

module _ (bs : List ℕ) (place : ℕ) where
  seek_past : (k : ℕ) → length bs < place → get_or (places_of bs) k (length bs) ≡ place → ⊥
  seek_past k h e =
      ⊎_elim
      (λ l. omega (arith, (up_at 0 (length bs) (places_of bs) k (length bs) (up_places bs) l).1))
      (λ l. omega (arith, get_or_past (places_of bs) k (length bs) l))
      (cases_lt k (length (places_of bs)))

  pub not_past : (at : ℕ) → length bs < place → Sought (of_bytes bs at) place false (of_bytes bs at)
  not_past at h = ((λ k _ e. seek_past k h e), refl)

  seek_inside : (k : ℕ) → WellFormed bs → Tail (get_or bs place 0) → get_or (places_of bs) k (length bs) ≡ place → ⊥
  seek_inside k w t e =
      ⊎_elim
      (λ l. lead_at bs place (subst (λ (x : ℕ). 0 < size_at bs x) e (chain_next bs (places_of bs) k (chain_places bs w).1 l).0) t)
      (λ l. omega (arith, get_or_past (places_of bs) k (length bs) l, tail_inside bs place t))
      (cases_lt k (length (places_of bs)))

  pub not_inside : (at : ℕ) → WellFormed bs → Tail (get_or bs place 0) → Sought (of_bytes bs at) place false (of_bytes bs at)
  not_inside at w t = ((λ k _ e. seek_inside k w t e), refl)

  pub seek_stands : WellFormed bs → place ≤ length bs → (Tail (get_or bs place 0) → ⊥) → Stands bs place
  seek_stands w h f =
      let ps = places_of bs in
      ⊎_elim
      (λ l. (before_member 0 (length bs) place (length bs) ps (up_places bs) (begins_at bs place w l f)).1)
      (λ l. let e : place ≡ length bs = omega arith in
      let b : before place ps ≡ length ps = ap (λ (x : ℕ). before x ps) e ∙ before_end 0 (length bs) ps (up_places bs) in
      ap (λ (k : ℕ). get_or ps k (length bs)) b ∙ get_or_past ps (length ps) (length bs) (omega arith) ∙ sym e)
      (cases_lt place (length bs))

  pub found : (at : ℕ) → WellFormed bs → place ≤ length bs → (Tail (get_or bs place 0) → ⊥) → Sought (of_bytes bs at) place true (of_bytes bs place)
  found at w h f = (before place (places_of bs), (before_count bs place, seek_stands w h f, refl))

-- what looking, stepping and seeking answer
pub ruleset methods = (look_small, look_some, look_none, step_inside, step_stands, step_some, step_none, not_inside, seek_stands)
