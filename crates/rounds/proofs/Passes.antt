-- Passes over n marks come to an end after n of them: counting, and no more.
use Rattle.std.proofs.Common.{◌≡◌, ℕ, zero, suc, ◌+◌, ◌<◌, ◌≤◌, Bool, true, false, cond, not, ◌&&◌, ◌||◌, ◌⊎◌, List, length, sym, refl, ap, ◌∙◌, subst, inl, inr, ⊎_elim, le_of_suc-le-suc, arith, rules, tests, ext_get_or}
use Rattle.std.proofs.lemmas.Grind.{common_steps}
use Rattle.std.proofs.lemmas.Bool.{cases_Bool}
use Rattle.rounds.specs.Marks.{mark}
use Rattle.rounds.specs.Rank.{some_of, tally, listed, pass, passed}

pub some_true : (f : ℕ → Bool) (a n : ℕ) → some_of f a n ≡ true → (t : ℕ) × (a ≤ t) × (t < a + n) × (f t ≡ true)
unfolding some_of
some_true f a zero e = cc
some_true f a (suc n) e = let ih = some_true f (suc a) n in grind (arith, common_steps)

pub true_some : (f : ℕ → Bool) (a n t : ℕ) → a ≤ t → t < a + n → f t ≡ true → some_of f a n ≡ true
unfolding some_of
true_some f a zero t h i e = absurd (omega arith)
true_some f a (suc n) t h i e = let ih = true_some f (suc a) n t in grind (arith, common_steps)

pub cond_le : (b d : Bool) (n : ℕ) → (b ≡ true → d ≡ true) → cond b n 0 ≤ cond d n 0
cond_le b d n h = grind (arith, common_steps)

-- Where g is true of all that f is, its tally is no less, and greater where one is true of g alone.
tally_le : (f g : ℕ → Bool) (n : ℕ) → ((k : ℕ) → k < n → f k ≡ true → g k ≡ true) → tally f n ≤ tally g n
unfolding tally
tally_le f g zero h = omega arith
tally_le f g (suc n) h = let ih = tally_le f g n (λ k i. h k (omega arith)) in let here = h n in grind (arith, common_steps)

pub tally_lt : (f g : ℕ → Bool) (n : ℕ) → ((k : ℕ) → k < n → f k ≡ true → g k ≡ true) → (j : ℕ) → j < n → f j ≡ false → g j ≡ true → tally f n < tally g n
unfolding tally
tally_lt f g zero h j i e d = absurd (omega arith)
tally_lt f g (suc n) h j i e d =
    let less = tally_lt f g n (λ k l. h k (omega arith)) j in
    let no_more = tally_le f g n (λ k l. h k (omega arith)) in
    let here = h n in
    grind (arith, common_steps)

tally_all : (n : ℕ) → tally (λ k. true) n ≡ n
unfolding tally
tally_all zero = refl
tally_all (suc n) = omega (arith, tally_all n)

-- A tally of n leaves none out.
tally_full : (f : ℕ → Bool) (n : ℕ) → n ≤ tally f n → (k : ℕ) → k < n → f k ≡ true
tally_full f n h k i =
    let less = tally_lt f (λ _. true) n (λ _ _ _. refl) k i in
    let all = tally_all n in
    grind (arith, common_steps)

length-listed : (f : ℕ → Bool) (n : ℕ) → length (listed f n) ≡ n
unfolding listed
length-listed f zero = refl
length-listed f (suc n) = ap suc (length-listed (λ k. f (suc k)) n)

mark-listed : (f : ℕ → Bool) (n k : ℕ) → k < n → mark (listed f n) k ≡ f k
unfolding listed
mark-listed f zero k h = absurd (omega arith)
mark-listed f (suc n) zero h = refl
mark-listed f (suc n) (suc k) h = mark-listed (λ j. f (suc j)) n k (le_of_suc-le-suc h)

mark-below : (f : ℕ → Bool) (n k : ℕ) → mark (listed f n) k ≡ true → k < n
unfolding listed
mark-below f zero k e = cc
mark-below f (suc n) zero e = omega arith
mark-below f (suc n) (suc k) e = omega (arith, mark-below (λ j. f (suc j)) n k e)

module _ (rule : List Bool → ℕ → Bool) (n : ℕ) where
  length-passed : (k : ℕ) → length (passed rule n k) ≡ n
  unfolding passed pass
  length-passed zero = length-listed (λ s. false) n
  length-passed (suc k) = length-listed (λ s. mark (passed rule n k) s || rule (passed rule n k) s) n

  -- What the passes mark has a property that the rule hands on.
  pub passed_sound : (P : ℕ → Type 0) → ((marks : List Bool) → ((s : ℕ) → mark marks s ≡ true → P s) → (s : ℕ) → rule marks s ≡ true → P s) →
      (k s : ℕ) → mark (passed rule n k) s ≡ true → P s
  unfolding passed pass
  passed_sound P h zero s e =
      let b = mark-below (λ x. false) n s e in
      let c = mark-listed (λ x. false) n s b in
      cc
  passed_sound P h (suc k) s e =
      let f : ℕ → Bool = λ x. mark (passed rule n k) x || rule (passed rule n k) x in
      let c = mark-listed f n s (mark-below f n s e) in
      let ih = passed_sound P h k in
      search (rules, tests, ih, h (passed rule n k) ih s)

  abbrev Settled : List Bool → Type 0
  Settled marks = (s : ℕ) → s < n → rule marks s ≡ true → mark marks s ≡ true

  settled_same : (marks : List Bool) → length marks ≡ n → Settled marks → pass rule n marks ≡ marks
  unfolding pass
  settled_same marks l h =
      let f : ℕ → Bool = λ x. mark marks x || rule marks x in
      ext_get_or false (listed f n) marks (length-listed f n ∙ sym l)
      (λ i b.
      let c : i < n = omega (arith, length-listed f n) in
      let e = mark-listed f n i c in
      let here = h i c in
      grind (arith, common_steps))

  abbrev wants : List Bool → ℕ → Bool
  wants now s = rule now s && not (mark now s)

  left : (now : List Bool) → some_of (wants now) 0 n ≡ true → (s : ℕ) × (s < n) × (rule now s ≡ true) × (mark now s ≡ false)
  left now e = let o = some_true (wants now) 0 n e in (o.0, omega (arith, o.2), search (rules, tests), search (rules, tests))

  none_left : (now : List Bool) → some_of (wants now) 0 n ≡ false → Settled now
  none_left now e s l r = let o = true_some (wants now) 0 n s (omega arith) (omega arith) in grind (arith, common_steps)

  -- After k passes nothing more is to be marked, or k are marked.
  settles : (k : ℕ) → Settled (passed rule n k) ⊎ (k ≤ tally (mark (passed rule n k)) n)
  unfolding passed pass
  settles zero = inr (omega arith)
  settles (suc k) = go (settles k)
    where
      now : List Bool
      now = passed rule n k

      stays : Settled now → Settled (pass rule n now)
      stays h = subst (λ (l : List Bool). Settled l) (sym (settled_same now (length-passed k) h)) h

      both : ℕ → Bool
      both s = mark now s || rule now s

      go : Settled now ⊎ (k ≤ tally (mark now) n) → Settled (pass rule n now) ⊎ (suc k ≤ tally (mark (pass rule n now)) n)
      go (inl h) = inl (stays h)
      go (inr h) =
          ⊎_elim
          (λ e.
          let o = left now e in
          inr (omega (
            arith,
            h,
            tally_lt (mark now) (mark (pass rule n now)) n
                (λ j l m. mark-listed both n j l ∙ search (rules, tests))
                o.0 o.1 o.3
                (mark-listed both n o.0 o.1 ∙ search (rules, tests)),
          )))
          (λ e. inl (stays (none_left now e)))
          (cases_Bool (some_of (wants now) 0 n))

  pub passed_settled : (s : ℕ) → s < n → rule (passed rule n n) s ≡ true → mark (passed rule n n) s ≡ true
  passed_settled s b e = ⊎_elim (λ h. h s b e) (λ h. tally_full (mark (passed rule n n)) n h s b) (settles n)
