-- What follows from the rules of the records.
use Rattle.std.proofs.Common.{◌≡◌, ℕ, zero, suc, refl, ◌<◌, ◌∙◌, ◌+◌, ◌≤◌, Bool, true, false, cond, ◌&&◌, ◌||◌, eqb, leb, ℤ, pos, negsuc, ap, subst, arith}
use Rattle.std.proofs.lemmas.Bool.{false≢true, false_from_ne_true, ltb-true, ne_eqb, eqb-true, leb-true, and_parts}
use Rattle.table.specs.declared.sections.Sections.{Sections}
use Rattle.image.specs.declared.kinds.TransitionKind.{TransitionKind}
use Rattle.image.specs.declared.kinds.TransitionKind.TheVariants.{Epsilon, Range, Rule as Call, Predicate, Atom, Action, Set, NotSet, Wildcard}
use Rattle.image.specs.Kinds.{transition_kind_of}
use Rattle.image.specs.Numbers.{natural, is, below}
use Rattle.image.specs.declared.raw.RawState.{RawState}
use Rattle.image.specs.Rules.{fields_keep, kind_and_rule, flag_keeps, count_keeps, span_keeps, numbers_keep}

pub is_pos : (x : ℤ) (n : ℕ) → is x n ≡ true → x ≡ pos n
is_pos (pos m) n h = ap pos (eqb-true m n h)
is_pos (negsuc m) n h = cc

pub below_natural : (x : ℤ) (n : ℕ) → below x n ≡ true → natural x < n
below_natural (pos m) n h = ltb-true m n h
below_natural (negsuc m) n h = absurd (false≢true h)

pub or_nothing : (b : Bool) → (b || false) ≡ true → b ≡ true
or_nothing true h = h
or_nothing false h = h

abbrev pub number_of : TransitionKind → ℕ
number_of Epsilon = 1
number_of (Range low high) = 2
number_of (Call rule follow) = 3
number_of (Predicate rule predicate) = 4
number_of (Atom label) = 5
number_of (Action action) = 6
number_of (Set first count) = 7
number_of (NotSet first count) = 8
number_of Wildcard = 9

above : (n k : ℕ) → k < 10 → eqb (suc (suc (suc (suc (suc (suc (suc (suc (suc (suc n)))))))))) k ≡ false
above n k h = ne_eqb _ _ (omega arith)

-- Where p and q are what they may be, each kind is meant by one number.
pub kind_number : (s : Sections) (kind p q : ℤ) → fields_keep s kind p q ≡ true → kind ≡ pos (number_of (transition_kind_of kind p q))
kind_number s (pos zero) p q h = absurd (false≢true h)
kind_number s (pos (suc zero)) p q h = refl
kind_number s (pos (suc (suc zero))) p q h = refl
kind_number s (pos (suc (suc (suc zero)))) p q h = refl
kind_number s (pos (suc (suc (suc (suc zero))))) p q h = refl
kind_number s (pos (suc (suc (suc (suc (suc zero)))))) p q h = refl
kind_number s (pos (suc (suc (suc (suc (suc (suc zero))))))) p q h = refl
kind_number s (pos (suc (suc (suc (suc (suc (suc (suc zero)))))))) p q h = refl
kind_number s (pos (suc (suc (suc (suc (suc (suc (suc (suc zero))))))))) p q h = refl
kind_number s (pos (suc (suc (suc (suc (suc (suc (suc (suc (suc zero)))))))))) p q h = refl
kind_number s (pos (suc (suc (suc (suc (suc (suc (suc (suc (suc (suc n))))))))))) p q h = absurd (false≢true (simp (above n 1 (omega arith), above n 2 (omega arith), above n 3 (omega arith), above n 4 (omega arith), above n 5 (omega arith), above n 6 (omega arith), above n 7 (omega arith), above n 8 (omega arith), above n 9 (omega arith)) at h))
kind_number s (negsuc n) p q h = absurd (false≢true h)

-- What a call means: it names a state and a rule.
pub call_is : (s : Sections) (kind p q : ℤ) (rule follow : ℕ) → fields_keep s kind p q ≡ true → transition_kind_of kind p q ≡ Call rule follow
    → (kind ≡ pos 3) × (rule ≡ natural q) × (follow ≡ natural p) × (rule < s.rules.count) × (follow < s.states.count)
call_is s kind p q rule follow h e =
    let three : kind ≡ pos 3 = kind_number s kind p q h ∙ ap (λ (k : TransitionKind). pos (number_of k)) e in
    let call : Call (natural q) (natural p) ≡ Call rule follow = subst (λ (x : ℤ). transition_kind_of x p q ≡ Call rule follow) three e in
    let keep : fields_keep s (pos 3) p q ≡ true = subst (λ (x : ℤ). fields_keep s x p q ≡ true) three h in
    let names = and_parts (below p s.states.count) (below q s.rules.count) (or_nothing (below p s.states.count && below q s.rules.count) keep) in
    let to : rule ≡ natural q = cc in
    let back : follow ≡ natural p = cc in
    (three, to, back, omega (arith, to, below_natural q s.rules.count names.1), omega (arith, back, below_natural p s.states.count names.0))

pub epsilon_is : (s : Sections) (kind p q : ℤ) → fields_keep s kind p q ≡ true → transition_kind_of kind p q ≡ Epsilon → kind ≡ pos 1
epsilon_is s kind p q h e = kind_number s kind p q h ∙ ap (λ (k : TransitionKind). pos (number_of k)) e

-- What is no call is not of kind 3, and what is no epsilon not of kind 1.
pub no_call : (kind p q : ℤ) → ((rule follow : ℕ) → transition_kind_of kind p q ≡ Call rule follow → ⊥) → is kind 3 ≡ false
no_call kind p q h = false_from_ne_true (is kind 3) (λ e. h _ _ (ap (λ (x : ℤ). transition_kind_of x p q) (is_pos kind 3 e)))

pub no_epsilon : (kind p q : ℤ) → (transition_kind_of kind p q ≡ Epsilon → ⊥) → is kind 1 ≡ false
no_epsilon kind p q h = false_from_ne_true (is kind 1) (λ e. h (ap (λ (x : ℤ). transition_kind_of x p q) (is_pos kind 1 e)))

-- The numbers of a state, taken apart.
pub numbers_parts : (s : Sections) (r : RawState) (earlier : ℕ) (last : Bool) → numbers_keep s r earlier last ≡ true
    → (kind_and_rule r s.rules.count ≡ true) × (flag_keeps r ≡ true) × (count_keeps r ≡ true) × (span_keeps r earlier s.transitions.count last ≡ true)
unfolding numbers_keep
numbers_parts s r earlier last h =
    let a = and_parts (kind_and_rule r s.rules.count) (flag_keeps r && (count_keeps r && span_keeps r earlier s.transitions.count last)) h in
    let b = and_parts (flag_keeps r) (count_keeps r && span_keeps r earlier s.transitions.count last) a.1 in
    let c = and_parts (count_keeps r) (span_keeps r earlier s.transitions.count last) b.1 in
    (a.0, b.0, c.0, c.1)

-- The transitions of a state end within the section, at the last state with it.
span_end : (end transitions : ℕ) (last : Bool) → cond last (eqb end transitions) (leb end transitions) ≡ true → (end ≤ transitions) × (last ≡ true → end ≡ transitions)
span_end end transitions true h = (omega (arith, eqb-true end transitions h), λ _. eqb-true end transitions h)
span_end end transitions false h = (leb-true end transitions h, λ e. cc)

-- Where the transitions of a state are.
pub numbers_span : (s : Sections) (r : RawState) (earlier : ℕ) (last : Bool) → numbers_keep s r earlier last ≡ true
    → (r.first ≡ pos earlier) × (earlier + natural r.count ≤ s.transitions.count) × (last ≡ true → earlier + natural r.count ≡ s.transitions.count)
numbers_span s r earlier last h =
    let end = earlier + natural r.count in
    let n = s.transitions.count in
    let p = and_parts (is r.first earlier) (cond last (eqb end n) (leb end n)) (numbers_parts s r earlier last h).3 in
    let e = span_end end n last p.1 in
    (is_pos r.first earlier p.0, e.0, e.1)
