-- What a search keeps, and what it tells of reaching.
use Rattle.std.proofs.Common.{◌≡◌, ℕ, ◌+◌, ◌<◌, ◌≤◌, true, cond, not, eqb, ◌⊎◌, List, length, get_or, set, sym, subst, inl, inr, ⊎_elim, arith, rules}
use borrow.Author.Count.{below_more}
use Rattle.std.proofs.lemmas.List.Sums.{sum_by-set, count_by-le-length}
use Rattle.std.proofs.lemmas.Grind.{common_steps}
use Rattle.std.proofs.lemmas.Bool.Decides.{nat_tests}
use Rattle.std.proofs.lemmas.Bool.{cases_eq, cases_lt, eq-eqb, eqb-true}
use Rattle.rounds.specs.declared.search.Search.{Search}
use Rattle.rounds.specs.declared.passing.Passing.TheVariants.{Call}
use Rattle.rounds.specs.Rounds.{Graph, Sound, Exits, Leads, plain, into, over, Edge, Reach, one, more, Cycle, NoRound, LowestRound}
use Rattle.rounds.specs.Search.{Met, unmet, is_listed, NoneBelow}
use Rattle.rounds.specs.Growth.{HasMet, Grown}
use Rattle.rounds.proofs.Walks.{round_cycle, cycle_round}
use Rattle.rounds.proofs.Passes.{some_true, true_some}

pub unmet_le : (s : ℕ) (marks : List ℕ) → unmet s marks ≤ length marks
unmet_le s marks = count_by-le-length (λ x. not (eqb x (s + 1))) marks

-- One more state is met: it is marked, and goes to the end of the list.
module _ (a : Search) (q : ℕ) (unmetq : HasMet a q → ⊥) (inside : q < length a.marks) where
  pub unmet-visit : unmet a.from (set a.marks q (a.from + 1)) + 1 ≡ unmet a.from a.marks
  unmet-visit =
      grind (arith, common_steps, nat_tests, sum_by-set (λ (x : ℕ). cond (not (eqb x (a.from + 1))) 1 0) a.marks q (a.from + 1) 0 inside)

  pub fresh_visit : (k : ℕ) → get_or (set a.marks q (a.from + 1)) k 0 ≤ a.from + 1
  fresh_visit k = grind (arith, common_steps, a.fresh k)

  module _ (fits : a.end < length a.list) where
    pub met_visit : (j : ℕ) → j < a.end + 1 → Met a.from (set a.marks q (a.from + 1)) (get_or (set a.list a.end q) j 0)
    met_visit j b = grind (arith, common_steps, a.met j)

    pub listed_visit : (k : ℕ) → Met a.from (set a.marks q (a.from + 1)) k → is_listed (set a.list a.end q) (a.end + 1) k ≡ true
    listed_visit k m =
        ⊎_elim
        (λ (e : k ≡ q). at a.end (omega arith) (grind (arith, common_steps)))
        (λ (e : k ≡ q → ⊥).
        let o = some_true (λ j. eqb (get_or a.list j 0) k) 0 a.end (a.listed k (grind (arith, common_steps))) in
        let i = eqb-true (get_or a.list o.0 0) k o.3 in
        at o.0 (omega (arith, o.2)) (grind (arith, common_steps, i)))
        (cases_eq k q)
      where
        at : (j : ℕ) → j < a.end + 1 → get_or (set a.list a.end q) j 0 ≡ k → is_listed (set a.list a.end q) (a.end + 1) k ≡ true
        at j b e = true_some (λ i. eqb (get_or (set a.list a.end q) i 0) k) 0 (a.end + 1) j (omega arith) (omega arith) (eq-eqb _ _ e)

-- A search that goes on twice.
pub grown_join : {P Q R : ℕ → Type 0} {a b c : Search} → Grown P a b → Grown Q b c → ((k : ℕ) → P k → R k) → ((k : ℕ) → Q k → R k) → ((k : ℕ) → R k → P k ⊎ Q k) → Grown R a c
grown_join {P} {Q} {R} {a} {b} {c} p q l r e =
    search (rules, l, r, e, p.from, p.kept, p.added, p.right, p.ends, p.same, q.from, q.kept, q.added, q.right, q.ends, q.same)

-- The same growth, said of the same states.
pub grown_as : {P R : ℕ → Type 0} {a b : Search} → Grown P a b → ((k : ℕ) → P k → R k) → ((k : ℕ) → R k → P k) → Grown R a b
grown_as {P} {R} {a} {b} p l e = search (rules, l, e)

-- A call leads into the rule, and past it if the rule can end.
module _ (g : Graph) (t : ℕ) (call : g.passing t ≡ Call) {a b : Search} (p : Grown (λ k. k ≡ g.target t) a b) where
  ends_of : (q : ℕ) → Leads g t q → (q ≡ g.target t) ⊎ (Exits g (g.target t) × (q ≡ g.return_state t))
  ends_of q (plain k f) = cc
  ends_of q (into k f) = search rules
  ends_of q (over k x f) = search rules

  pub grown_into : (Exits g (g.target t) → ⊥) → Grown (Leads g t) a b
  grown_into n =
      grown_as p (λ k e. into call (sym e)) (λ k l. ⊎_elim (λ e. e) (λ h. absurd (n h.0)) (ends_of k l))

  pub grown_over : {c : Search} → Exits g (g.target t) → Grown (λ k. k ≡ g.return_state t) b c → Grown (Leads g t) a c
  grown_over x q =
      grown_join p q (λ k e. into call (sym e)) (λ k e. over call x (sym e)) (λ k l. ⊎_elim (λ e. inl e) (λ h. inr h.1) (ends_of k l))

-- An edge by one of the transitions of x below n.
abbrev pub EdgeBelow : Graph → ℕ → ℕ → ℕ → Type 0
EdgeBelow g x n q = (t : ℕ) × ((g.first x ≤ t) × (t < n)) × Leads g t q

-- All that x has an edge to was met, but for what lies below the state searched from.
abbrev pub Covers : Graph → Search → ℕ → Type 0
Covers g search x = (q : ℕ) → Edge g x q → search.from ≤ q → HasMet search q

module _ (g : Graph) where
  pub reach_join : {q p s : ℕ} → Reach g q s → Reach g p q → Reach g p s
  reach_join (one e) r = more e r
  reach_join (more e t) r = more e (reach_join t r)

  -- Where what all in the list has an edge to was met, a state that comes back to s has it met.
  module _ (search : Search) (s : ℕ) (from : search.from ≡ s) (none : NoneBelow g s) (taken : (j : ℕ) → j < search.end → Covers g search (get_or search.list j 0)) where
    covered : (k : ℕ) → HasMet search k → Covers g search k
    covered k m =
        let o = some_true (λ j. eqb (get_or search.list j 0) k) 0 search.end (search.listed k m) in
        subst (λ (x : ℕ). Covers g search x) (eqb-true _ _ o.3) (taken o.0 (omega (arith, o.2)))

    back_met : {x : ℕ} → Reach g s x → Covers g search x → ((p : ℕ) → Edge g x p → Reach g p s) → HasMet search s
    back_met {x} (one e) v f = v s e (omega arith)
    back_met {x} (more {p = p} e r) v f =
        ⊎_elim
        (λ (b : p < s). absurd (none p b (reach_join r (f p e))))
        (λ (b : s ≤ p). back_met r (covered p (v p e (omega arith))) (λ q d. reach_join (f p e) (one d)))
        (cases_lt p s)

    pub cycle_met : Covers g search s → Cycle g s → HasMet search s
    cycle_met v c = back_met c v (λ p e. one e)

-- What was covered stays so, and one more state of the list is; and what was met is reached.
module _ (g : Graph) {a b : Search} where
  pub covers_more : {P : ℕ → Type 0} (x : ℕ) → Grown P a b → Covers g a x → Covers g b x
  covers_more x p v q e h = p.kept q (v q e (omega (arith, p.from)))

  pub taken_more : (head : ℕ) → head < a.end → Grown (Edge g (get_or a.list head 0)) a b →
      ((j : ℕ) → j < head → Covers g a (get_or a.list j 0)) → (j : ℕ) → j < head + 1 → Covers g b (get_or b.list j 0)
  taken_more head i p taken =
      below_more (λ j. Covers g b (get_or b.list j 0)) head
      (λ j h. rw (p.same j (omega arith)) (covers_more (get_or a.list j 0) p (taken j h)))
      (rw (p.same head i) (λ q e h. p.added q e (omega (arith, p.from))))

  pub reached_more : {s x : ℕ} → Reach g x s → Grown (Edge g x) a b → ((k : ℕ) → HasMet a k → Reach g k s) → (k : ℕ) → HasMet b k → Reach g k s
  reached_more r p reached k m = ⊎_elim (reached k) (λ e. reach_join g r (one e)) (p.right k m)

pub reach_below : (g : Graph) → Sound g → {q s : ℕ} → Reach g q s → s < g.states
reach_below g w {q} {s} (one e) = w.owns s e.0 e.1
reach_below g w {q} {s} (more e r) = w.owns s e.0 e.1

-- An edge leads to a state of the automaton.
pub edge_below : (g : Graph) → Sound g → {s q : ℕ} → Edge g s q → q < g.states
edge_below g w {s} {q} (t, h, plain k f) = rw (← f) (w.targets t (omega (arith, w.spans s (w.owns s t h))))
edge_below g w {s} {q} (t, h, into k f) = rw (← f) (w.targets t (omega (arith, w.spans s (w.owns s t h))))
edge_below g w {s} {q} (t, h, over k x f) = rw (← f) (w.return_states t (omega (arith, w.spans s (w.owns s t h))) k)

pub reached_below : (g : Graph) → Sound g → {q s : ℕ} → Reach g q s → q < g.states
reached_below g w (one e) = edge_below g w e
reached_below g w (more e r) = reached_below g w r

-- Where no state below s reaches itself, s is the lowest that goes round if it reaches itself.
pub lowest_round : (g : Graph) (s : ℕ) → s < g.states → Cycle g s → NoneBelow g s → LowestRound g s
lowest_round g s b c none = (b, cycle_round g s c, λ k h r. none k h (round_cycle g k r))

-- Where no state reaches itself, none goes round.
pub no_round : (g : Graph) (s : ℕ) → Sound g → g.states ≤ s → NoneBelow g s → NoRound g
no_round g s w b none k r =
    let c = round_cycle g k r in
    let l = reach_below g w c in
    none k (omega arith) c
