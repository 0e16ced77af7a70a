-- Which transitions belong to which state.
use Rattle.std.proofs.Common.{◌≡◌, ℕ, zero, suc, ◌+◌, ◌-◌, ◌<◌, ◌≤◌, true, eqb, List, ℤ, sym, refl, ap, ◌∙◌, ⊎_elim, add-zero, add-suc, add-one, arith}
use Rattle.std.proofs.lemmas.Bool.{le-leb, lt-leb, eq-eqb, and_parts, cases_eq}
use Rattle.image.specs.declared.sections.Section.TheVariants.{States}
use Rattle.table.specs.declared.sections.Sections.{Sections}
use Rattle.image.specs.Numbers.{natural}
use Rattle.image.specs.Raw.{raw_state, counts_before, source_below}
use Rattle.image.specs.Rules.{numbers_keep, decides, state_keeps}
use Rattle.image.specs.Keeping.{SectionKeeps}
use Rattle.image.proofs.Ruling.{numbers_span}

module _ (image : List ℤ) (s : Sections) where
  abbrev before : ℕ → ℕ
  before k = counts_before image s k

  counts_suc : (k : ℕ) → before (suc k) ≡ before k + natural (raw_state image s k).count
  unfolding counts_before
  counts_suc k = refl

  pub counts_none : before 0 ≡ 0
  unfolding counts_before
  counts_none = refl

  pub counts_more : (k : ℕ) → before (k + 1) ≡ before k + natural (raw_state image s k).count
  counts_more k = ap before (add-one k) ∙ counts_suc k

  counts_rise : (j n : ℕ) → before j ≤ before (j + n)
  counts_rise j zero = omega (arith, ap before (add-zero j))
  counts_rise j (suc n) = omega (arith, counts_rise j n, ap before (add-suc j n), counts_suc (j + n))

  pub counts_mono : (j k : ℕ) → j ≤ k → before j ≤ before k
  counts_mono j k h = let e : j + (k - j) ≡ k = omega arith in omega (arith, counts_rise j (k - j), ap before e)

  source_suc_yes : (t n : ℕ) → before n ≤ t → source_below image s t (suc n) ≡ n
  unfolding source_below
  source_suc_yes t n h = let e = le-leb (before n) t h in simp e

  source_suc_no : (t n : ℕ) → t < before n → source_below image s t (suc n) ≡ source_below image s t n
  unfolding source_below
  source_suc_no t n h = let e = lt-leb (before n) t h in simp e

  -- The transition t belongs to the state k whose transitions it is among.
  pub source_is : (t k n : ℕ) → k < n → before k ≤ t → t < before (k + 1) → source_below image s t n ≡ k
  source_is t k zero h l u = absurd (omega arith)
  source_is t k (suc n) h l u =
      ⊎_elim
      (λ (e : k ≡ n). source_suc_yes t n (omega (arith, ap before e)) ∙ sym e)
      (λ (e : k ≡ n → ⊥). source_suc_no t n (omega (arith, counts_mono (k + 1) n (omega arith))) ∙ source_is t k n (omega arith) l u)
      (cases_eq k n)

  pub state_numbers : (k : ℕ) → state_keeps image s k ≡ true → numbers_keep s (raw_state image s k) (before k) (eqb (k + 1) s.states.count) ≡ true
  unfolding state_keeps
  state_numbers k h =
      (and_parts (numbers_keep s (raw_state image s k) (before k) (eqb (k + 1) s.states.count)) (decides image s (before k) (natural (raw_state image s k).count)) h).0

  -- The transitions of a state that keeps its rules lie in the section.
  pub state_end : (k : ℕ) → state_keeps image s k ≡ true → before (k + 1) ≤ s.transitions.count
  state_end k h = omega (arith, counts_more k, (numbers_span s (raw_state image s k) (before k) (eqb (k + 1) s.states.count) (state_numbers k h)).1)

  -- Every transition belongs to a state.
  pub counts_all : 1 ≤ s.states.count → SectionKeeps image s States → before s.states.count ≡ s.transitions.count
  counts_all h keep =
      let n = s.states.count in
      let k = n - 1 in
      let e : k + 1 ≡ n = omega arith in
      let span = numbers_span s (raw_state image s k) (before k) (eqb (k + 1) n) (state_numbers k (keep k (omega arith))) in
      ap before (sym e) ∙ (counts_more k ∙ span.2 (eq-eqb (k + 1) n e))
