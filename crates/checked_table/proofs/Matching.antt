-- Scanning the intervals of a set.
use Rattle.std.proofs.Common.{◌≡◌, ℕ, zero, suc, ◌+◌, ◌<◌, ◌≤◌, ◌||◌, List, length, take, ℤ, sym, refl, ap, ◌∙◌, add-one, arith, drop-cons}
use Rattle.std.specs.List.{list_any, range_with_len}
use Rattle.image.specs.declared.raw.Interval.{Interval}
use Rattle.checked_table.specs.Atn.{Atn, interval_has, within, contains}

module _ (a : Atn) (x : ℤ) where
  contains_suc : (i n : ℕ) → i < length a.intervals → contains a i (suc n) x ≡ (interval_has a i x || contains a (i + 1) n x)
  unfolding within interval_has
  contains_suc i n h = rw add-one (ap (λ (xs : List Interval). within (take (suc n) xs) x) (drop-cons a.intervals i _ h))

  -- Asking the intervals one after the other says whether one of them has it.
  pub any-contains : (first n : ℕ) → first + n ≤ length a.intervals → list_any (λ i. interval_has a i x) (range_with_len first n) ≡ contains a first n x
  unfolding within
  any-contains first zero h = refl
  any-contains first (suc n) h = ap (λ b. interval_has a first x || b) (any-contains (first + 1) n (omega arith)) ∙ sym (contains_suc first n (omega arith))
