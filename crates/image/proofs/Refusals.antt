-- A record that breaks a rule, and records that all keep theirs, exclude each other.
use Rattle.std.proofs.Common.{◌≡◌, ℕ, ◌<◌, ◌⊎◌, List, ℤ, inl, inr}
use Rattle.std.proofs.lemmas.Bool.{cases_order}
use Rattle.table.specs.declared.sections.Sections.{Sections}
use Rattle.image.specs.Keeping.{RecordsKeep, Breaks}

-- The only number of which this holds, if no lower one has it.
pub lowest_one : (P : ℕ → Type 0) (p q : ℕ) → P p → ((k : ℕ) → k < p → P k → ⊥) → P q → ((k : ℕ) → k < q → P k → ⊥) → p ≡ q
lowest_one P p q a f b g = go (cases_order p q)
  where
    go : (p ≡ q) ⊎ ((p < q) ⊎ (q < p)) → p ≡ q
    go (inl e) = e
    go (inr (inl l)) = absurd (g p l a)
    go (inr (inr l)) = absurd (f q l b)

pub breaks_keeps : (image : List ℤ) (s : Sections) (at : ℕ) → Breaks image s at → RecordsKeep image s → ⊥
breaks_keeps image s at (section, k, inside, e, fails) keep = let kept = keep section k inside in cc
