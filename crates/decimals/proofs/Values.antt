-- How a word is read byte by byte, and a text word by word. Assumes nothing.
use Rattle.std.proofs.Common.{◌≡◌, ℕ, ◌+◌, ◌-◌, ◌*◌, ◌<◌, min, true, false, cond, ◌&&◌, List, [], ◌∷◌, ◌++◌, length, fold, rules, subst, ℤ, Ok, Err, Some, None, Option, IsSome, IfSome, ◌↔◌, Result, sym, refl, ap, ◌∙◌, append_assoc, arith, w32, SFits, to_z, of_z}
use Rattle.std.specs.Char.{is_ascii_digit}
use Rattle.std.specs.Str.{all_ascii_digits}
use Rattle.std.proofs.lemmas.Int.{to_z-of_z}
use denote.Param.Members.{Mut}
use Rattle.std.specs.Fn.{Called}
use Rattle.std.specs.Iterator.{AlwaysYields, Yields, YieldsThen}
use Rattle.std.specs.List.{FoldsTo}
use Rattle.std.specs.Option.{MatchOption}
use Rattle.std.proofs.lemmas.Iterator.{YieldsList}
use Rattle.decimals.specs.Words.{Found}
use Rattle.decimals.specs.Numbers.{before, is_digits, number_of, numbers_in, size_of}
use Rattle.decimals.specs.declared.error.NumbersError.{NumbersError}

-- numbers that were read, before what the rest says
abbrev pub after : List ℤ → Result (List ℤ) NumbersError → Result (List ℤ) NumbersError
after zs (Ok more) = Ok (zs ++ more)
after zs (Err e) = Err e

pub after_more : (zs : List ℤ) (z : ℤ) (r : Result (List ℤ) NumbersError) → after (zs ++ (z ∷ [])) r ≡ after zs (before (Ok z) r)
after_more zs z (Ok more) = ap Ok (append_assoc zs (z ∷ []) more)
after_more zs z (Err e) = refl

-- past a word, whose number is pushed by its bits
pub numbers_more : (zs more : List ℤ) (z : ℤ) (w : Found) (ws rest : List Found) (all : Result (List ℤ) NumbersError) → SFits w32 z
    → more ≡ zs ++ (to_z w32 (of_z w32 z) ∷ []) → Ok z ≡ number_of w → ws ≡ w ∷ rest → after zs (numbers_in ws) ≡ all → after more (numbers_in rest) ≡ all
numbers_more zs more z w ws rest all fits pushed says first inv =
    ap (λ l. after l (numbers_in rest)) (pushed ∙ ap (λ y. zs ++ (y ∷ [])) (to_z-of_z w32 z fits))
    ∙ (after_more zs z (numbers_in rest) ∙ (ap (λ r. after zs (before r (numbers_in rest))) says ∙ (ap (λ l. after zs (numbers_in l)) (sym first) ∙ inv)))

-- the largest size that is told exactly
abbrev most : ℕ
most = 4294967295

-- a size with one more byte: it goes on from the limit at most, and is none from a byte on that is no digit
abbrev pub onward : Option ℕ → ℕ → Option ℕ
onward None d = None
onward (Some n) d = cond (is_ascii_digit d) (Some (min n most * 10 + (d - 48))) None

-- a size that was told, held to the limit
abbrev held : Option ℕ → Option ℕ
held None = None
held (Some n) = Some (min n most)

stopped : (ds : List ℕ) → fold onward None ds ≡ None
stopped [] = refl
stopped (d ∷ ds) = stopped ds

stops : (ds : List ℕ) (n m : ℕ) → min m most ≡ min n most
    → held (fold onward (Some m) ds) ≡ cond (all_ascii_digits ds) (Some (min (fold (λ k d. k * 10 + (d - 48)) n ds) most)) None
stops [] n m e = ap Some e
stops (d ∷ ds) n m e =
    let next = min m most * 10 + (d - 48) in
    let all = fold (λ k b. k * 10 + (b - 48)) (n * 10 + (d - 48)) ds in
    elim (is_ascii_digit d) as (λ t. held (fold onward (cond t (Some next) None) ds) ≡ cond (t && all_ascii_digits ds) (Some (min all most)) None) [
      | true ↦ stops ds (n * 10 + (d - 48)) next (omega arith)
      | false ↦ ap held (stopped ds)
    ]

-- a `try_fold` whose turns at the bytes of a list are `onward`, and which breaks off where that is none
module _ {S A F : Type 0} (E : Type 0) (steps : S → Option A → S → Type 0) (v : A → ℕ) (g : Mut F (ℕ × (A × Unit {0})) (Option ℕ)) (f : F)
    (turn : (a : ℕ) (x : A) (w : Option ℕ) (q : F) → Called g f (a, (x, tt)) w q → (q ≡ f) × (w ≡ onward (Some a) (v x))) (r : Option ℕ) where
  goes : (xs : List A) (all : List ℕ) (s t u : S) (o : Option A) (p q : F × ℕ) → p.0 ≡ f → AlwaysYields steps v s all → Yields steps s xs t
      → FoldsTo {P = F × ℕ} (λ a x b. (w : Option ℕ) × Called g a.0 (a.1, (x, tt)) w b.0 × (w ≡ Some b.1)) p xs q → steps t o u
      → MatchOption o (r ≡ Some q.1) (λ x. (w : Option ℕ) × (h : F) × E × Called g q.0 (q.1, (x, tt)) w h × (w ≡ None) × (r ≡ None)) → r ≡ fold onward (Some p.1) all
  goes [] [] s t u None p q a e y c k l = l ∙ ap (λ b. Some b.1) (sym c)
  goes [] [] s t u (Some x) p q a e y c k l = absurd (e x u (subst (λ j. steps j (Some x) u) (sym y) k))
  goes [] (z ∷ all) s t u None p q a e y c k l = absurd (e.0 u (subst (λ j. steps j None u) (sym y) k))
  goes [] (z ∷ all) s t u (Some x) p q a e y c k l =
      let here = (e.1 x u (subst (λ j. steps j (Some x) u) (sym y) k)).0 in
      let told = (turn p.1 x l.0 l.1 (subst (λ j. Called g j (p.1, (x, tt)) l.0 l.1) a (subst (λ b. Called g b.0 (b.1, (x, tt)) l.0 l.1) (sym c) l.3))).1 in
      l.5 ∙ sym (stopped all) ∙ ap (λ b. fold onward b all) (sym l.4 ∙ told ∙ ap (onward (Some p.1)) here)
  goes (x ∷ xs) [] s t u o p q a e y c k l = absurd (e x y.0 y.1)
  goes (x ∷ xs) (z ∷ all) s t u o p q a e y c k l =
      let here = e.1 x y.0 y.1 in
      let told = turn p.1 x c.1.0 c.0.0 (subst (λ j. Called g j (p.1, (x, tt)) c.1.0 c.0.0) a c.1.1) in
      goes xs all y.0 t u o c.0 q told.0 here.1 y.2 c.2 k l ∙ ap (λ b. fold onward b all) (sym c.1.2 ∙ told.1 ∙ ap (onward (Some p.1)) here.0)

-- what `try_fold` tells of bytes, of which there are some, by such turns over them
pub told_digits : {S A F : Type 0} (E : Type 0) {steps : S → Option A → S → Type 0} {v : A → ℕ} {s : S} {ds : List ℕ} (u : S) (g : Mut F (ℕ × (A × Unit {0})) (Option ℕ)) {f : F} (r : Option ℕ)
    → ((xs : List A) × (o : Option A) × (j : F) × (a : ℕ) × YieldsThen steps s xs o u × FoldsTo {P = F × ℕ} (λ a x b. (w : Option ℕ) × Called g a.0 (a.1, (x, tt)) w b.0 × (w ≡ Some b.1)) (f, 0) xs (j, a)
    × MatchOption o (r ≡ Some a) (λ x. (w : Option ℕ) × (h : F) × E × Called g j (a, (x, tt)) w h × (w ≡ None) × (r ≡ None)))
    → YieldsList steps v s ds → ((a : ℕ) (x : A) (w : Option ℕ) (q : F) → Called g f (a, (x, tt)) w q → (q ≡ f) × (w ≡ onward (Some a) (v x))) → 0 < length ds
    → (IsSome (held r) ↔ (is_digits ds ≡ true)) × IfSome (held r) (λ n. n ≡ min (size_of ds) most)
told_digits E {steps = steps} {v} {s} {ds} u g {f} r d e turn some =
    let folded = goes E steps v g f turn r d.0 ds s d.4.0 u d.1 (f, 0) (d.2, d.3) refl e.runs d.4.1 d.5 d.4.2 d.6 in
    rw (ap held folded ∙ stops ds 0 0 refl) (search rules)
