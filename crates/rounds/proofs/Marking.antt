-- What the marks of `mark_exits` mean.
use Rattle.std.proofs.Common.{◌≡◌, ℕ, Bool, true, List, [], ◌∷◌, get_or, set, replicate, sym, refl, subst, inl, inr, ⊎_elim, arith, rules, tests}
use Rattle.std.proofs.lemmas.Grind.{common_steps}
use Rattle.std.proofs.lemmas.Bool.{cases_eq}
use Rattle.rounds.specs.declared.passing.Passing.{Passing}
use Rattle.rounds.specs.declared.passing.Passing.TheVariants.{Silent, Call, Reads}
use Rattle.rounds.specs.Rounds.{Graph, Sound, Of, Exits}
use Rattle.rounds.specs.Marks.{mark, opens_by, opened, Due, Closed}
use Rattle.rounds.proofs.Walks.{Goes, moves, calls, leaves, Trail, here, next, exits_trail, exits_stop, exits_move, exits_call}

-- What is marked exits.
abbrev pub Justified : Graph → List Bool → Type 0
Justified g marks = (s : ℕ) → mark marks s ≡ true → Exits g s

-- A state is marked exactly when it exits.
abbrev pub Exact : Graph → List Bool → Type 0
Exact g marks = (s : ℕ) → (mark marks s ≡ true → Exits g s) × (Exits g s → mark marks s ≡ true)

module _ (g : Graph) (marks : List Bool) where
  opened_exits : Justified g marks → (s t : ℕ) → Of g s t → opened g marks t ≡ true → Exits g s
  opened_exits r s t h o = go (g.passing t) refl o
    where
      go : (k : Passing) → g.passing t ≡ k → opens_by g marks t k ≡ true → Exits g s
      go Silent k e = exits_move g t h k (r (g.target t) e)
      go Call k e = search (rules, tests, exits_call g t h k, r)
      go Reads k e = cc

  pub due_exits : Justified g marks → (s : ℕ) → Due g marks s → Exits g s
  due_exits r s (inl h) = exits_stop g h
  due_exits r s (inr h) = opened_exits r s h.0 h.1 h.2

  pub justified_set : Justified g marks → (s : ℕ) → Exits g s → Justified g (set marks s true)
  justified_set r s e k m =
      ⊎_elim (λ (i : k ≡ s). rw i e) (λ (i : k ≡ s → ⊥). r k (grind (arith, common_steps))) (cases_eq k s)

-- Every one of the states is marked.
abbrev AllMarked : List Bool → List ℕ → Type 0
AllMarked marks [] = Unit {0}
AllMarked marks (r ∷ rs) = (mark marks r ≡ true) × AllMarked marks rs

module _ (g : Graph) (marks : List Bool) (sound : Sound g) (closed : Closed g marks) where
  mark_stop : (s : ℕ) → g.stop s ≡ true → mark marks s ≡ true
  mark_stop s h = closed s (sound.stops s h) (inl h)

  mark_move : (t s : ℕ) → Of g s t → g.passing t ≡ Silent → mark marks (g.target t) ≡ true → mark marks s ≡ true
  mark_move t s h k m = closed s (sound.owns s t h) (inr (t, h, rw k m))

  mark_call : (t s : ℕ) → Of g s t → g.passing t ≡ Call → mark marks (g.target t) ≡ true → mark marks (g.return_state t) ≡ true → mark marks s ≡ true
  mark_call t s h k m n = closed s (sound.owns s t h) (inr (t, h, rw k (search (rules, tests))))

  marked_goes : {s : ℕ} {rs : List ℕ} {q : ℕ} {us : List ℕ} → Goes g s rs q us → AllMarked marks (q ∷ us) → AllMarked marks (s ∷ rs)
  marked_goes {s} {rs} {q} {us} (moves t h k e f) a =
      let m : mark marks (g.target t) ≡ true = rw e a.0 in
      (mark_move t s h k m, subst (λ (l : List ℕ). AllMarked marks l) (sym f) a.1)
  marked_goes {s} {rs} {q} {us} (calls t h k e f) a =
      let m : mark marks (g.target t) ≡ true = rw e a.0 in
      let b : AllMarked marks (g.return_state t ∷ rs) = subst (λ (l : List ℕ). AllMarked marks l) (sym f) a.1 in
      (mark_call t s h k m b.0, b.1)
  marked_goes {s} {rs} {q} {us} (leaves h e) a = (mark_stop s h, subst (λ (l : List ℕ). AllMarked marks l) (sym e) a)

  -- All the states that a walk to the end has still to pass are marked.
  marked_trail : {t : ℕ} {us : List ℕ} {s : ℕ} {rs : List ℕ} → g.stop t ≡ true → us ≡ [] → Trail g t us s rs → AllMarked marks (s ∷ rs)
  marked_trail {t} {us} {s} {rs} h n (here e f) =
      let m : mark marks t ≡ true = mark_stop t h in
      rw (f, n) (subst (λ (x : ℕ). mark marks x ≡ true) (sym e) m, tt)
  marked_trail h n (next g r) = marked_goes g (marked_trail h n r)

  closed_exits : (s : ℕ) → Exits g s → mark marks s ≡ true
  closed_exits s e = (marked_trail e.2 refl (exits_trail g e)).0

pub exact_from : (g : Graph) (marks : List Bool) → Sound g → Justified g marks → Closed g marks → Exact g marks
exact_from g marks w r c s = (r s, closed_exits g marks w c s)

-- A list of one value has no other.
pub blank : {A : Type 0} (n : ℕ) (a : A) (k : ℕ) → get_or (replicate n a) k a ≡ a
blank n a k = grind (arith, common_steps)
