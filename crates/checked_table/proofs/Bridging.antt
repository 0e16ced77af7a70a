-- The silent steps of a table are those of its graph.
use Rattle.std.proofs.Common.{◌≡◌, ℕ, zero, suc, ◌+◌, ◌-◌, ◌<◌, ◌≤◌, Bool, true, false, cond, ◌&&◌, List, [], ◌∷◌, length, get_or, take, drop, Some, None, Option, sym, refl, ap, ◌∙◌, subst, ⊎_elim, arith}
use Rattle.std.specs.List.{slice_get}
use Rattle.std.specs.Option.{option_and_then, option_map_or}
use mathlib.Core.Option as maybe
use mathlib.Core.Option.{none, some}
use Rattle.std.proofs.lemmas.Bool.{cases_lt, lt-ltb, le-ltb, le-leb, leb-true, and_from, and_parts}
use Rattle.std.proofs.lemmas.List.{get_or_past, get_or-take, get_or-drop, length-take-le, length-drop}
use Rattle.std.proofs.lemmas.Option.{slice_get-get_or}
use Rattle.rounds.specs.declared.passing.Passing.{Passing}
use Rattle.rounds.specs.declared.passing.Passing.TheVariants.{Silent, Call, Reads}
use Rattle.rounds.proofs.Ranks.{ranks_fall_lem as graph-ranks-fall, steps_fall_lem as graph-steps-fall}
use Rattle.rounds.specs.Rounds as graphs
use Rattle.rounds.specs.Rounds.{Graph, Sound, has, Step, along, back, standing}
use Rattle.checked_table.specs.declared.parts.State.{State}
use Rattle.checked_table.specs.declared.parts.Transition.{Transition}
use Rattle.image.specs.declared.kinds.TransitionKind.{TransitionKind}
use Rattle.image.specs.declared.kinds.TransitionKind.TheVariants.{Epsilon, Range, Rule, Predicate, Atom, Action, Set, NotSet, Wildcard}
use Rattle.image.specs.Numbers.{end_of_text}
use Rattle.checked_table.specs.Atn.{Atn, state_at, transition_at, outs, stops, is_stop, matches}
use Rattle.checked_table.specs.Formed.{Formed}
use Rattle.checked_table.specs.Steps.{Stand, fresh, move_to, Here, passes, returned, step, walk, openly, Round, NoRound}
use Rattle.checked_table.specs.Graphs.{passing_of, follow_of, graph_of}
use Rattle.checked_table.specs.Laws.{StepsFall, RanksFall}

-- The k-th of so many from an index on.
nth_part : {A : Type 0} (xs : List A) (first count k : ℕ) (d : A) → first + count ≤ length xs → k < count → slice_get (take count (drop first xs)) k ≡ Some (get_or xs (first + k) d)
nth_part xs first count k d h l =
    let inside : k < length (take count (drop first xs)) = omega (arith, length-take-le count (drop first xs) (omega (arith, length-drop first xs))) in
    slice_get-get_or (take count (drop first xs)) k d inside ∙ ap Some (get_or-take count (drop first xs) k d l ∙ get_or-drop first xs k d)

nth_none : {A : Type 0} (xs : List A) (count k : ℕ) → count ≤ k → slice_get (take count xs) k ≡ None
nth_none xs zero k h = refl
nth_none [] (suc n) k h = refl
nth_none (x ∷ xs) (suc n) zero h = absurd (omega arith)
nth_none (x ∷ xs) (suc n) (suc k) h = nth_none xs n k (omega arith)

-- What is left of a stand in the graph.
abbrev project : Option Stand → maybe.Option graphs.Stand
project None = none
project (Some f) = some (standing f.state f.returns)

-- Where the graph leads.
abbrev after : Passing → ℕ → ℕ → List ℕ → maybe.Option graphs.Stand
after Silent target follow rs = some (standing target rs)
after Call target follow rs = some (standing target (follow ∷ rs))
after Reads target follow rs = none

on_end : (b : Bool) (target follow : ℕ) (f : Stand) → project (cond b (Some (move_to target f)) None) ≡ after (cond b Silent Reads) target follow f.returns
on_end true target follow f = refl
on_end false target follow f = refl

kind_same : (a : Atn) (kind : TransitionKind) (target : ℕ) (f : Stand)
    → project (passes (openly a) (record { kind = kind; target = target }) f) ≡ after (passing_of a kind) target (follow_of kind) f.returns
unfolding passes
kind_same a Epsilon target f = refl
kind_same a (Range low high) target f = on_end (matches a (Range low high) end_of_text) target 0 f
kind_same a (Rule rule follow) target f = refl
kind_same a (Predicate rule predicate) target f = refl
kind_same a (Atom label) target f = on_end (matches a (Atom label) end_of_text) target 0 f
kind_same a (Action action) target f = refl
kind_same a (Set first count) target f = on_end (matches a (Set first count) end_of_text) target 0 f
kind_same a (NotSet first count) target f = refl
kind_same a Wildcard target f = refl

end_call : {A : Type 0} (b : Bool) → cond b Silent Reads ≡ Call → A
end_call true e = absurd cc
end_call false e = absurd cc

-- Only a call is passed as one.
pub is_call : (a : Atn) (kind : TransitionKind) → passing_of a kind ≡ Call → (rule : ℕ) × (follow : ℕ) × (kind ≡ Rule rule follow)
is_call a Epsilon e = absurd cc
is_call a (Range low high) e = end_call (matches a (Range low high) end_of_text) e
is_call a (Rule rule follow) e = (rule, follow, refl)
is_call a (Predicate rule predicate) e = absurd cc
is_call a (Atom label) e = end_call (matches a (Atom label) end_of_text) e
is_call a (Action action) e = absurd cc
is_call a (Set first count) e = end_call (matches a (Set first count) end_of_text) e
is_call a (NotSet first count) e = absurd cc
is_call a Wildcard e = absurd cc

-- A step that can be made under some judge can be made openly.
module _ (a : Atn) (judge : ℕ → ℕ → Bool) (at_end : Bool) where
  abbrev here : Here
  here = record { atn = a; judge = judge; at_end = at_end }

  -- Where the one test lets it pass, the other does.
  passed_end : (end b : Bool) (x g : Stand) → cond (end && b) (Some x) None ≡ Some g → cond b (Some x) None ≡ Some g
  passed_end true b x g e = e
  passed_end false b x g e = absurd cc

  passed_judge : (b : Bool) (x g : Stand) → cond b (Some x) None ≡ Some g → Some x ≡ Some g
  passed_judge true x g e = e
  passed_judge false x g e = absurd cc

  passes_open : (kind : TransitionKind) (target : ℕ) (f g : Stand) → passes here (record { kind = kind; target = target }) f ≡ Some g → passes (openly a) (record { kind = kind; target = target }) f ≡ Some g
  unfolding passes
  passes_open Epsilon target f g e = e
  passes_open (Range low high) target f g e = passed_end at_end (matches a (Range low high) end_of_text) (move_to target f) g e
  passes_open (Rule rule follow) target f g e = e
  passes_open (Predicate rule predicate) target f g e = passed_judge (judge rule predicate) (move_to target f) g e
  passes_open (Atom label) target f g e = passed_end at_end (matches a (Atom label) end_of_text) (move_to target f) g e
  passes_open (Action action) target f g e = e
  passes_open (Set first count) target f g e = passed_end at_end (matches a (Set first count) end_of_text) (move_to target f) g e
  passes_open (NotSet first count) target f g e = passed_end at_end false (move_to target f) g e
  passes_open Wildcard target f g e = passed_end at_end false (move_to target f) g e

  then_open : (o : Option Transition) (f g : Stand) → option_and_then (λ t. passes here t f) o ≡ Some g → option_and_then (λ t. passes (openly a) t f) o ≡ Some g
  then_open None f g e = absurd cc
  then_open (Some t) f g e = passes_open t.kind t.target f g e

  opened : (x : Step) (f g : Stand) → step here x f ≡ Some g → step (openly a) x f ≡ Some g
  unfolding step
  opened (along k) f g e = then_open (slice_get (outs a f.state) k) f g e
  opened back f g e = e

module _ (a : Atn) (formed : Formed a) where
  -- The graph has as many transitions at a state.
  no_count : (s : ℕ) → length a.states ≤ s → (state_at a s).count ≡ 0
  no_count s h = ap (λ (x : State). x.count) (get_or_past a.states s _ h)

  owner : (s k : ℕ) → k < (state_at a s).count → s < length a.states
  owner s k h = ⊎_elim (λ (l : s < length a.states). l) (λ (l : length a.states ≤ s). absurd (omega (arith, no_count s l))) (cases_lt s (length a.states))

  kth_is : (s k : ℕ) → k < (state_at a s).count → slice_get (outs a s) k ≡ Some (transition_at a ((state_at a s).first + k))
  unfolding outs
  kth_is s k h = nth_part a.transitions (state_at a s).first (state_at a s).count k _ (formed.spans s (owner s k h)) h

  kth_none : (s k : ℕ) → (state_at a s).count ≤ k → slice_get (outs a s) k ≡ None
  unfolding outs
  kth_none s k h = nth_none (drop (state_at a s).first a.transitions) (state_at a s).count k h

  back_same : (b : Bool) (f : Stand) (rs : List ℕ) → project (returned b f rs) ≡ cond b (graphs.pop rs) none
  back_same true f [] = refl
  back_same true f (r ∷ rs) = refl
  back_same false f rs = refl

  follow_same : (p : Passing) (t : ℕ) (rs : List ℕ) → graphs.follow (graph_of a) p t rs ≡ after p (transition_at a t).target (follow_of (transition_at a t).kind) rs
  follow_same Silent t rs = refl
  follow_same Call t rs = refl
  follow_same Reads t rs = refl

  -- The graph's step for a step of the table at a state: its transitions go by their numbers in the table.
  abbrev numbered : ℕ → Step → Step
  numbered s (along k) = along ((state_at a s).first + k)
  numbered s back = back

  and_no : (b c : Bool) → c ≡ false → b && c ≡ false
  and_no true c e = e
  and_no false c e = refl

  has_kth : (s k : ℕ) → k < (state_at a s).count → has (graph_of a) s ((state_at a s).first + k) ≡ true
  has_kth s k h =
      let first = (state_at a s).first in
      and_from _ _ (le-leb first (first + k) (omega arith)) (lt-ltb (first + k) (first + (state_at a s).count) (omega arith))

  has_none : (s k : ℕ) → (state_at a s).count ≤ k → has (graph_of a) s ((state_at a s).first + k) ≡ false
  has_none s k h =
      let first = (state_at a s).first in
      and_no _ _ (le-ltb (first + k) (first + (state_at a s).count) (omega arith))

  step_same : (x : Step) (f : Stand) → project (step (openly a) x f) ≡ graphs.step (graph_of a) (numbered f.state x) (standing f.state f.returns)
  unfolding step
  step_same (along k) f = ⊎_elim yes no (cases_lt k (state_at a s).count)
    where
      s : ℕ
      s = f.state

      t : ℕ
      t = (state_at a s).first + k

      passed : Option Transition → Option Stand
      passed o = option_and_then (λ x. passes (openly a) x f) o

      g : maybe.Option graphs.Stand
      g = graphs.follow (graph_of a) ((graph_of a).passing t) t f.returns

      yes : k < (state_at a s).count → project (passed (slice_get (outs a s) k)) ≡ cond (has (graph_of a) s t) g none
      yes h =
          ap (λ (o : Option Transition). project (passed o)) (kth_is s k h)
          ∙ (kind_same a (transition_at a t).kind (transition_at a t).target f
          ∙ (sym (follow_same (passing_of a (transition_at a t).kind) t f.returns)
          ∙ ap (λ (b : Bool). cond b g none) (sym (has_kth s k h))))

      no : (state_at a s).count ≤ k → project (passed (slice_get (outs a s) k)) ≡ cond (has (graph_of a) s t) g none
      no h =
          ap (λ (o : Option Transition). project (passed o)) (kth_none s k h)
          ∙ ap (λ (b : Bool). cond b g none) (sym (has_none s k h))
  step_same back f = back_same (is_stop a f.state) f f.returns

  -- The graph's steps for the steps of a walk through the table.
  unfoldable numbers : List Step → Stand → List Step
  numbers [] f = []
  numbers (x ∷ xs) f = numbered f.state x ∷ option_map_or (numbers xs) (step (openly a) x f) []

  then_same : (o : Option Stand) (xs : List Step)
      → ((f : Stand) → project (walk (openly a) xs f) ≡ graphs.walk (graph_of a) (numbers xs f) (standing f.state f.returns))
      → project (option_and_then (walk (openly a) xs) o) ≡ graphs.and_then (project o) (graphs.walk (graph_of a) (option_map_or (numbers xs) o []))
  then_same None xs h = refl
  then_same (Some f) xs h = h f

  walk_same : (xs : List Step) (f : Stand) → project (walk (openly a) xs f) ≡ graphs.walk (graph_of a) (numbers xs f) (standing f.state f.returns)
  unfolding walk numbers
  walk_same [] f = refl
  walk_same (x ∷ xs) f =
      then_same (step (openly a) x f) xs (walk_same xs)
      ∙ ap (λ (o : maybe.Option graphs.Stand). graphs.and_then o (graphs.walk (graph_of a) (option_map_or (numbers xs) (step (openly a) x f) []))) (step_same x f)

  pub round_graph : (s : ℕ) → Round a s → graphs.Round (graph_of a) s
  unfolding numbers
  round_graph s (x, xs, f, w, e) = (
    numbered s x,
    option_map_or (numbers xs) (step (openly a) x (fresh s)) [],
    f.returns,
    sym (walk_same (x ∷ xs) (fresh s)) ∙ (ap project w ∙ ap (λ (k : ℕ). some (standing k f.returns)) e),
  )

  -- The table's step for a step of the graph at a state.
  abbrev offset : ℕ → Step → Step
  offset s (along t) = along (t - (state_at a s).first)
  offset s back = back

  -- A step of the graph that can be made is the one for its step of the table.
  offset_same : (y : Step) (p q : graphs.Stand) → graphs.step (graph_of a) y p ≡ some q → numbered p.state (offset p.state y) ≡ y
  offset_same (along t) p q e = go (has (graph_of a) p.state t) refl e
    where
      first : ℕ
      first = (state_at a p.state).first

      go : (b : Bool) → has (graph_of a) p.state t ≡ b → cond b (graphs.follow (graph_of a) ((graph_of a).passing t) t p.returns) none ≡ some q → along (first + (t - first)) ≡ along t
      go true h i =
          let inside : first ≤ t = leb-true first t (and_parts _ _ h).0 in
          let same : first + (t - first) ≡ t = omega arith in
          ap along same
      go false h i = absurd cc
  offset_same back p q e = refl

  some_back : (o : Option Stand) (q : graphs.Stand) → project o ≡ some q → (f : Stand) × (o ≡ Some f) × (standing f.state f.returns ≡ q)
  some_back None q e = absurd cc
  some_back (Some f) q e = (f, refl, cc)

  step_back : (y : Step) (f : Stand) (q : graphs.Stand) → graphs.step (graph_of a) y (standing f.state f.returns) ≡ some q
      → (g : Stand) × (step (openly a) (offset f.state y) f ≡ Some g) × (standing g.state g.returns ≡ q)
  step_back y f q e =
      let p = standing f.state f.returns in
      some_back (step (openly a) (offset f.state y) f) q
      (step_same (offset f.state y) f ∙ (ap (λ (z : Step). graphs.step (graph_of a) z p) (offset_same y p q e) ∙ e))

  -- A walk through the table that ends where one of the graph does, from the same stand.
  abbrev Back : List Step → Type 0
  Back ys =
      (f : Stand) (q : graphs.Stand) → graphs.walk (graph_of a) ys (standing f.state f.returns) ≡ some q
      → (xs : List Step) × (g : Stand) × (walk (openly a) xs f ≡ Some g) × (standing g.state g.returns ≡ q)

  cons_back : (y : Step) (ys : List Step) → Back ys → (f : Stand) (q : graphs.Stand)
      → graphs.walk (graph_of a) (y ∷ ys) (standing f.state f.returns) ≡ some q
      → (xs : List Step) × (g : Stand) × (walk (openly a) (offset f.state y ∷ xs) f ≡ Some g) × (standing g.state g.returns ≡ q)
  unfolding walk
  cons_back y ys back_from f q e = go (graphs.step (graph_of a) y (standing f.state f.returns)) refl e
    where
      go : (o : maybe.Option graphs.Stand) → graphs.step (graph_of a) y (standing f.state f.returns) ≡ o → graphs.and_then o (graphs.walk (graph_of a) ys) ≡ some q
          → (xs : List Step) × (g : Stand) × (option_and_then (walk (openly a) xs) (step (openly a) (offset f.state y) f) ≡ Some g) × (standing g.state g.returns ≡ q)
      go none h i = absurd cc
      go (some p) h i =
          let there = step_back y f p h in
          let rest = back_from there.0 q (ap (graphs.walk (graph_of a) ys) there.2 ∙ i) in
          (rest.0, rest.1, ap (option_and_then (walk (openly a) rest.0)) there.1 ∙ rest.2, rest.3)

  walk_back : (ys : List Step) → Back ys
  unfolding walk
  walk_back [] f q e = ([], f, refl, cc)
  walk_back (y ∷ ys) f q e = let r = cons_back y ys (walk_back ys) f q e in (offset f.state y ∷ r.0, r.1, r.2, r.3)

  pub graph_round : (s : ℕ) → graphs.Round (graph_of a) s → Round a s
  graph_round s (y, ys, rs, w) =
      let r = cons_back y ys (walk_back ys) (fresh s) (standing s rs) w in
      (offset s y, r.0, r.1, r.2, ap (λ (p : graphs.Stand). p.state) r.3)

  pub graph_sound : Sound (graph_of a)
  graph_sound =
      record {
        stops = λ s h. ⊎_elim (λ (l : s < length a.states). l) (λ (l : length a.states ≤ s). stop_past s l h) (cases_lt s (length a.states));
        owns = λ s t h. owner s (t - (state_at a s).first) (omega (arith, h));
        spans = formed.spans;
        targets = formed.targets;
        return_states = follow_there;
      }
    where
      stop_past : (s : ℕ) → length a.states ≤ s → is_stop a s ≡ true → s < length a.states
      stop_past s l h =
          let e : is_stop a s ≡ false = ap (λ (x : State). stops x.kind) (get_or_past a.states s _ l) in
          let z : ◌≡◌ {A = ℕ} 0 1 = cc in
          absurd (omega arith)

      follow_there : (t : ℕ) → t < length a.transitions → passing_of a (transition_at a t).kind ≡ Call → follow_of (transition_at a t).kind < length a.states
      follow_there t h e =
          let call = is_call a (transition_at a t).kind e in
          subst (λ (x : TransitionKind). follow_of x < length a.states) (sym call.2) (formed.follows t call.0 call.1 h call.2)

  graph_ends : NoRound a → graphs.NoRound (graph_of a)
  graph_ends ends s round = ends s (graph_round s round)

  pub ranks_fall_lem : NoRound a → RanksFall a
  ranks_fall_lem ends s q edge = graph-ranks-fall (graph_of a) graph_sound (graph_ends ends) s q edge

  pub steps_fall_lem : NoRound a → StepsFall a
  steps_fall_lem ends judge at_end x f g e =
      graph-steps-fall (graph_of a) graph_sound (graph_ends ends) (numbered f.state x) (standing f.state f.returns) (standing g.state g.returns)
      (sym (step_same x f) ∙ ap project (opened a judge at_end x f g e))
