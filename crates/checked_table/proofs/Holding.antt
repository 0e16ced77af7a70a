-- What the records of an image that keeps its rules are.
use Rattle.std.proofs.Common.{◌≡◌, ℕ, ◌+◌, ◌<◌, ◌≤◌, Bool, true, false, cond, not, ◌&&◌, ◌||◌, eqb, leb, ◌⊎◌, List, length, ℤ, pos, negsuc, sym, refl, ap, ◌∙◌, subst, inl, inr, arith}
use Rattle.std.proofs.lemmas.Bool.{and_parts, or_cases, leb-true}
use Rattle.image.specs.declared.raw.RawState.{RawState}
use Rattle.image.specs.declared.raw.RawTransition.{RawTransition}
use Rattle.image.specs.declared.raw.RawMode.{RawMode}
use Rattle.image.specs.declared.raw.RawRule.{RawRule}
use Rattle.image.specs.declared.raw.RawAction.{RawAction}
use Rattle.checked_table.specs.declared.records.Records.{Records}
use Rattle.image.specs.declared.sections.Section.TheVariants.{States, Transitions, Modes, Rules, Actions}
use Rattle.table.specs.declared.sections.Sections.{Sections}
use Rattle.image.specs.Numbers.{natural, is, below, same_number, end_of_text, all_of}
use Rattle.image.specs.Raw.{raw_state, raw_transition, raw_interval, raw_mode, raw_rule, raw_action, mode_from, counts_before, source_of}
use Rattle.image.specs.Rules.{kind_and_rule, intervals_there, fields_keep, in_rule, of_kind, call_keeps, leaves, transition_keeps, mode_keeps, end_keeps, rule_keeps, argument_keeps, same_action, action_keeps}
use Rattle.image.specs.Spans.{Fits, place_of, sections_of}
use Rattle.image.specs.declared.kinds.TransitionKind.{TransitionKind}
use Rattle.image.specs.declared.kinds.TransitionKind.TheVariants.{Set, NotSet, Rule as Call}
use Rattle.checked_table.specs.declared.parts.State.{State}
use Rattle.checked_table.specs.declared.parts.Transition.{Transition}
use Rattle.checked_table.specs.Formed.{Formed}
use Rattle.checked_table.specs.Atn.{Atn, stops, state_at, transition_at, interval_at, mode_at, rule_at, action_at, SetFits}
use Rattle.checked_table.specs.Decoding.{atn_of, meaning, state_of, transition_of, rule_of}
use Rattle.image.specs.Kinds.{state_kind_of, transition_kind_of, action_of}
use Rattle.checked_table.specs.Means.{atn_in}
use Rattle.image.proofs.Ruling.{is_pos, below_natural, or_nothing, number_of, kind_number, call_is, numbers_parts, numbers_span}
use Rattle.checked_table.proofs.Listing.{listed-length, listed_at}
use Rattle.checked_table.proofs.Stops.{stop_is}
use Rattle.image.proofs.Counting.{state_numbers}

-- The rule of a state, or 0 for none.
rule_small : (r : RawState) (n : ℕ) → kind_and_rule r n ≡ true → natural r.rule ≤ n
rule_small r n h = go (or_cases (is r.kind 6 && same_number r.rule end_of_text) ((is r.kind 1 || (is r.kind 2 || is r.kind 7)) && below r.rule n) h)
  where
    none : (x : ℤ) → same_number x end_of_text ≡ true → natural x ≤ n
    none (pos m) e = absurd cc
    none (negsuc m) e = omega arith

    go : ((is r.kind 6 && same_number r.rule end_of_text) ≡ true) ⊎ (((is r.kind 1 || (is r.kind 2 || is r.kind 7)) && below r.rule n) ≡ true) → natural r.rule ≤ n
    go (inl e) = none r.rule (and_parts (is r.kind 6) (same_number r.rule end_of_text) e).1
    go (inr e) = omega (arith, below_natural r.rule n (and_parts (is r.kind 1 || (is r.kind 2 || is r.kind 7)) (below r.rule n) e).1)

-- The argument of an action fits 16 bits, whatever its kind.
argument_small : (s : Sections) (kind argument : ℤ) → s.modes.count ≤ 64 → argument_keeps s kind argument ≡ true → natural argument < 65536
argument_small s kind argument m h = go (or_cases any (mode || none) h)
  where
    any : Bool
    any = (is kind 0 || is kind 7) && below argument 65536

    mode : Bool
    mode = (is kind 2 || is kind 5) && below argument s.modes.count

    none : Bool
    none = (is kind 3 || (is kind 4 || is kind 6)) && is argument 0

    rest : (mode ≡ true) ⊎ (none ≡ true) → natural argument < 65536
    rest (inl e) = omega (arith, m, below_natural argument s.modes.count (and_parts (is kind 2 || is kind 5) (below argument s.modes.count) e).1)
    rest (inr e) = omega (arith, ap natural (is_pos argument 0 (and_parts (is kind 3 || (is kind 4 || is kind 6)) (is argument 0) e).1))

    go : (any ≡ true) ⊎ ((mode || none) ≡ true) → natural argument < 65536
    go (inl e) = below_natural argument 65536 (and_parts (is kind 0 || is kind 7) (below argument 65536) e).1
    go (inr e) = rest (or_cases mode none e)

intervals_small : (p q : ℤ) (n : ℕ) → intervals_there p q n ≡ true → natural p + natural q ≤ n
intervals_small (pos p) (pos q) n h = leb-true (p + q) n (and_parts (leb 1 q) (leb (p + q) n) h).1
intervals_small (pos p) (negsuc q) n h = absurd cc
intervals_small (negsuc p) q n h = absurd cc

-- The intervals of a set are there.
set_fits : (a : Atn) (s : Sections) (kind p q : ℤ) → length a.intervals ≡ s.intervals.count → fields_keep s kind p q ≡ true → SetFits a (transition_kind_of kind p q)
set_fits a s kind p q n h = go (transition_kind_of kind p q) refl (kind_number s kind p q h)
  where
    here : (first count : ℕ) → first ≡ natural p → count ≡ natural q → (intervals_there p q s.intervals.count || false) ≡ true → first + count ≤ length a.intervals
    here first count f c e = omega (arith, n, f, c, intervals_small p q s.intervals.count (or_nothing (intervals_there p q s.intervals.count) e))

    go : (t : TransitionKind) → transition_kind_of kind p q ≡ t → kind ≡ pos (number_of t) → SetFits a t
    go (Set first count) e k =
        let set : Set (natural p) (natural q) ≡ Set first count = subst (λ (x : ℤ). transition_kind_of x p q ≡ Set first count) k e in
        here first count (cc) (cc) (subst (λ (x : ℤ). fields_keep s x p q ≡ true) k h)
    go (NotSet first count) e k =
        let set : NotSet (natural p) (natural q) ≡ NotSet first count = subst (λ (x : ℤ). transition_kind_of x p q ≡ NotSet first count) k e in
        here first count (cc) (cc) (subst (λ (x : ℤ). fields_keep s x p q ≡ true) k h)
    go t e k = tt

pub fits_of : (r : Records) → Fits r.image.sections (length r.image.numbers.now)
fits_of r = r.image.fits

pub atn-meaning : (r : Records) (image : List ℤ) → r.image.numbers.now ≡ image → atn_in r ≡ meaning image
unfolding meaning
atn-meaning r image e = ap (atn_of r.image.numbers.now) r.laid ∙ ap (λ (i : List ℤ). atn_of i (sections_of i)) e

-- What holds of each record that keeps its rules, and what it means.
module _ (r : Records) where
  abbrev image : List ℤ
  image = r.image.numbers.now

  abbrev s : Sections
  s = r.image.sections

  pub states_are : length (atn_in r).states ≡ s.states.count
  states_are = listed-length _ _

  pub transitions_are : length (atn_in r).transitions ≡ s.transitions.count
  transitions_are = listed-length _ _

  pub intervals_are : length (atn_in r).intervals ≡ s.intervals.count
  intervals_are = listed-length _ _

  pub modes_are : length (atn_in r).modes ≡ s.modes.count
  modes_are = listed-length _ _

  pub rules_are : length (atn_in r).rules ≡ s.rules.count
  rules_are = listed-length _ _

  pub actions_are : length (atn_in r).actions ≡ s.actions.count
  actions_are = listed-length _ _

  pub record StateKept (k : ℕ) (x : RawState) : Type 0 where
    pub keeps : kind_and_rule x s.rules.count ≡ true
    pub small : (natural x.rule < 65536) × (natural x.first < 65536) × (natural x.count < 65536)
    pub span : natural x.first + natural x.count ≤ s.transitions.count
    pub stop : is x.count 0 ≡ stops (state_kind_of x.kind)
    pub is : state_at (atn_in r) k ≡ state_of x

  pub state_kept : (k : ℕ) (x : RawState) → k < length (atn_in r).states → x ≡ raw_state image s k → StateKept k x
  state_kept k x h e =
      let here : k < s.states.count = omega (arith, h, states_are) in
      let numbers = state_numbers image s k (r.keep States k here) in
      let parts = numbers_parts s (raw_state image s k) (counts_before image s k) (eqb (k + 1) s.states.count) numbers in
      let span = numbers_span s (raw_state image s k) (counts_before image s k) (eqb (k + 1) s.states.count) numbers in
      let first = ap natural span.0 in
      subst (StateKept k) (sym e) (record {
        keeps = parts.0;
        small = (omega (arith, rule_small (raw_state image s k) s.rules.count parts.0, fits_of r), omega (arith, first, span.1, fits_of r), omega (arith, span.1, fits_of r));
        span = omega (arith, first, span.1);
        stop = stop_is (raw_state image s k) s.rules.count parts.0 parts.2;
        is = listed_at _ _ k _ here;
      })

  -- Every transition leads to a state.
  leads_below : (from : RawState) (x : RawTransition) → leaves image s from x ≡ true → below x.target s.states.count ≡ true
  leads_below from x h = go (is from.kind 6) (is x.kind 3) h
    where
      there : Bool
      there = below x.target s.states.count

      go : (m c : Bool) → cond m (is x.kind 1 && of_kind image s (pos 2) x.target) (cond c (call_keeps image s from.rule x) (in_rule image s from.rule x.target)) ≡ true → there ≡ true
      go true c e = (and_parts there (same_number (raw_state image s (natural x.target)).kind (pos 2)) (and_parts (is x.kind 1) (of_kind image s (pos 2) x.target) e).1).0
      go false true e = (and_parts there (same_number x.target (raw_rule image s (natural x.q)).start && in_rule image s from.rule x.p) e).0
      go false false e = (and_parts there (same_number (raw_state image s (natural x.target)).rule from.rule) e).0

  pub record TransitionKept (k : ℕ) (x : RawTransition) : Type 0 where
    pub keeps : fields_keep s x.kind x.p x.q ≡ true
    pub target : natural x.target < s.states.count
    pub small : natural x.target < 65536
    pub follow : (rule follow : ℕ) → (transition_of x).kind ≡ Call rule follow → follow < s.states.count
    pub is : transition_at (atn_in r) k ≡ transition_of x
    pub fits : SetFits (atn_in r) (transition_of x).kind

  pub transition_kept : (k : ℕ) (x : RawTransition) → k < length (atn_in r).transitions → x ≡ raw_transition image s k → TransitionKept k x
  unfolding transition_keeps
  transition_kept k x h e =
      let here : k < s.transitions.count = omega (arith, h, transitions_are) in
      let y = raw_transition image s k in
      let from = raw_state image s (source_of image s k) in
      let parts = and_parts (fields_keep s y.kind y.p y.q) (leaves image s from y) (r.keep Transitions k here) in
      let target = below_natural y.target s.states.count (leads_below from y parts.1) in
      subst (TransitionKept k) (sym e) (record {
        keeps = parts.0;
        target = target;
        small = omega (arith, target, fits_of r);
        follow = λ rule follow e. (call_is s y.kind y.p y.q rule follow parts.0 e).4;
        is = listed_at _ _ k _ here;
        fits = set_fits (atn_in r) s y.kind y.p y.q intervals_are parts.0;
      })

  pub interval_is : (k : ℕ) → k < s.intervals.count → interval_at (atn_in r) k ≡ raw_interval image s k
  interval_is k h = listed_at _ _ k _ h

  of_kind_small : (kind x : ℤ) → of_kind image s kind x ≡ true → natural x < s.states.count
  of_kind_small kind x h = below_natural x s.states.count (and_parts (below x s.states.count) (same_number (raw_state image s (natural x)).kind kind) h).0

  pub record ModeKept (k : ℕ) (x : RawMode) : Type 0 where
    pub start : natural x.start < s.states.count
    pub small : natural x.start < 65536
    pub is : mode_at (atn_in r) k ≡ natural x.start

  pub mode_kept : (k : ℕ) (x : RawMode) → k < length (atn_in r).modes → x ≡ mode_from image (place_of s Modes k) → ModeKept k x
  unfolding mode_keeps
  mode_kept k x h e =
      let here : k < s.modes.count = omega (arith, h, modes_are) in
      let start = of_kind_small (pos 6) (raw_mode image s k) (r.keep Modes k here) in
      subst (ModeKept k) (sym e) (record { start = start; small = omega (arith, start, fits_of r); is = listed_at _ _ k _ here })

  pub record RuleKept (k : ℕ) (x : RawRule) : Type 0 where
    pub ends : (natural x.start < s.states.count) × (natural x.stop < s.states.count)
    pub small : (natural x.start < 65536) × (natural x.stop < 65536) × (natural x.token_type < 65536)
    pub is : rule_at (atn_in r) k ≡ rule_of x

  pub rule_kept : (k : ℕ) (x : RawRule) → k < length (atn_in r).rules → x ≡ raw_rule image s k → RuleKept k x
  unfolding rule_keeps
  rule_kept k x h e =
      let here : k < s.rules.count = omega (arith, h, rules_are) in
      let y = raw_rule image s k in
      let a = and_parts (end_keeps image s k (pos 2) y.start) (end_keeps image s k (pos 7) y.stop && below y.token_type 65536) (r.keep Rules k here) in
      let b = and_parts (end_keeps image s k (pos 7) y.stop) (below y.token_type 65536) a.1 in
      let start = of_kind_small (pos 2) y.start (and_parts (of_kind image s (pos 2) y.start) (is (raw_state image s (natural y.start)).rule k) a.0).0 in
      let stop = of_kind_small (pos 7) y.stop (and_parts (of_kind image s (pos 7) y.stop) (is (raw_state image s (natural y.stop)).rule k) b.0).0 in
      subst (RuleKept k) (sym e) (record {
        ends = (start, stop);
        small = (omega (arith, start, fits_of r), omega (arith, stop, fits_of r), below_natural y.token_type 65536 b.1);
        is = listed_at _ _ k _ here;
      })

  pub record ActionKept (k : ℕ) (x : RawAction) : Type 0 where
    pub keeps : argument_keeps s x.kind x.argument ≡ true
    pub small : natural x.argument < 65536
    pub is : action_at (atn_in r) k ≡ action_of x.kind x.argument

  pub action_kept : (k : ℕ) (x : RawAction) → k < length (atn_in r).actions → x ≡ raw_action image s k → ActionKept k x
  unfolding action_keeps
  action_kept k x h e =
      let here : k < s.actions.count = omega (arith, h, actions_are) in
      let y = raw_action image s k in
      let parts = and_parts (argument_keeps s y.kind y.argument) (all_of (λ j. not (same_action image s j k)) 0 k) (r.keep Actions k here) in
      subst (ActionKept k) (sym e) (record {
        keeps = parts.0;
        small = argument_small s y.kind y.argument (omega (arith, fits_of r)) parts.0;
        is = listed_at _ _ k _ here;
      })

  pub formed : Formed (atn_in r)
  formed =
      record {
        spans = λ k h. (
            let kept = state_kept k _ h refl in
            omega (arith, ap (λ (x : State). x.first) kept.is, ap (λ (x : State). x.count) kept.is, kept.span, transitions_are)
            );
        targets = λ t h. (
            let kept = transition_kept t _ h refl in
            omega (arith, ap (λ (x : Transition). x.target) kept.is, kept.target, states_are)
            );
        follows = λ t rule follow h e. (
            let kept = transition_kept t _ h refl in
            omega (arith, kept.follow rule follow (sym (ap (λ (x : Transition). x.kind) kept.is) ∙ e), states_are)
            );
      }
