-- Which states are stops, by their numbers: just those without transitions.
use Rattle.std.proofs.Common.{◌≡◌, ℕ, true, false, cond, ◌&&◌, ◌||◌, ◌⊎◌, ℤ, pos, negsuc, leb, int_le, sym, refl, subst, inl, inr}
use Rattle.std.proofs.lemmas.Bool.{and_parts, or_cases, ne_eqb}
use Rattle.image.specs.declared.raw.RawState.{RawState}
use Rattle.image.specs.Kinds.{state_kind_of}
use Rattle.image.specs.Numbers.{is, below, same_number, end_of_text}
use Rattle.image.specs.Rules.{kind_and_rule, count_keeps}
use Rattle.image.proofs.Ruling.{is_pos}
use Rattle.checked_table.specs.Atn.{stops}

some_is : (count : ℤ) → int_le (pos 1) count ≡ true → is count 0 ≡ false
some_is (pos n) h = ne_eqb n 0 (λ e. let none : false ≡ true = subst (λ k. leb 1 k ≡ true) e h in absurd cc)
some_is (negsuc n) h = refl

module _ (r : RawState) where
  abbrev Such : ℤ → Type 0
  Such kind = cond (is kind 7) (is r.count 0) (int_le (pos 1) r.count) ≡ true → is r.count 0 ≡ stops (state_kind_of kind)

  pub stop_is : (n : ℕ) → kind_and_rule r n ≡ true → count_keeps r ≡ true → is r.count 0 ≡ stops (state_kind_of r.kind)
  stop_is n h = go (or_cases (is r.kind 6 && same_number r.rule end_of_text) ((is r.kind 1 || (is r.kind 2 || is r.kind 7)) && below r.rule n) h)
    where
      other : (is r.kind 1 ≡ true) ⊎ ((is r.kind 2 || is r.kind 7) ≡ true) → Such r.kind
      other (inl e) = subst Such (sym (is_pos r.kind 1 e)) (some_is r.count)
      other (inr e) = last (or_cases (is r.kind 2) (is r.kind 7) e)
        where
          last : (is r.kind 2 ≡ true) ⊎ (is r.kind 7 ≡ true) → Such r.kind
          last (inl two) = subst Such (sym (is_pos r.kind 2 two)) (some_is r.count)
          last (inr seven) = subst Such (sym (is_pos r.kind 7 seven)) (λ e. e)

      go : ((is r.kind 6 && same_number r.rule end_of_text) ≡ true) ⊎ (((is r.kind 1 || (is r.kind 2 || is r.kind 7)) && below r.rule n) ≡ true) → Such r.kind
      go (inl e) = subst Such (sym (is_pos r.kind 6 (and_parts (is r.kind 6) (same_number r.rule end_of_text) e).0)) (some_is r.count)
      go (inr e) =
          let rule = (and_parts (is r.kind 1 || (is r.kind 2 || is r.kind 7)) (below r.rule n) e).0 in
          other (or_cases (is r.kind 1) (is r.kind 2 || is r.kind 7) rule)
