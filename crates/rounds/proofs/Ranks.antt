-- Ranks fall along edges, and totals with silent steps.
use Rattle.std.proofs.Common.{◌≡◌, ℕ, suc, ◌+◌, ◌*◌, ◌^◌, ◌<◌, ◌≤◌, Bool, true, false, cond, ◌&&◌, ◌⊎◌, List, [], ◌∷◌, set, sym, refl, ◌∙◌, inl, inr, ⊎_elim, arith, rules, tests}
use native.Mathlib.Nat.{pow-succ', pow-le-pow_right, one-le-pow}
use Rattle.std.proofs.lemmas.Bool.{cases_Bool}
use Rattle.std.proofs.lemmas.Bool.Decides.{same_from_decides}
use Rattle.rounds.specs.declared.passing.Passing.{Passing}
use Rattle.rounds.specs.declared.passing.Passing.TheVariants.{Silent, Call, Reads}
use Rattle.rounds.specs.Rounds.{Graph, Sound, NoRound, Of, Exits, Leads, Edge, plain, into, over, Reach, one, more}
use Rattle.rounds.specs.Marks.{mark, opened, Due, Closed}
use Rattle.rounds.specs.Rank.{passed, exit_rule, exit_marks, can_exit, leads_by, linked, reach_rule, reach_marks, rank, total, OnlyExits, ExactlyExits, RanksFall, StepsFall}
use Rattle.rounds.proofs.Walks.{Goes, moves, calls, leaves, step_goes, exits_stop, exits_move, exits_call, cycle_round}
use Rattle.rounds.proofs.Marking.{Justified, Exact, due_exits, justified_set, exact_from}
use Rattle.rounds.proofs.Searching.{reach_join, reach_below, edge_below, grown_into, grown_over}
use Rattle.rounds.proofs.Passes.{some_true, true_some, cond_le, tally_lt, passed_sound, passed_settled}

module _ (g : Graph) (sound : Sound g) where
  -- The rule of the exits is what a pass of the code marks.
  rule_due : (marks : List Bool) (s : ℕ) → exit_rule g marks s ≡ true → Due g marks s
  rule_due marks s e = search (rules, tests, some_true)

  due_rule : (marks : List Bool) (s : ℕ) → Due g marks s → exit_rule g marks s ≡ true
  due_rule marks s (inl h) = search (rules, tests)
  due_rule marks s (inr h) = search (rules, tests, true_some (opened g marks) (g.first s) (g.count s) h.0 h.1.0 h.1.1 h.2)

  pub exits_exact : Exact g (exit_marks g)
  unfolding exit_marks
  exits_exact =
      exact_from g (exit_marks g) sound
      (passed_sound (exit_rule g) g.states (λ s. Exits g s)
      (λ marks r s e. due_exits g marks r s (rule_due marks s e)) g.states)
      (λ s b l. passed_settled (exit_rule g) g.states s b (due_rule (exit_marks g) s l))

  -- Marks that say which states exit, in either way of saying so.
  pub marks_exact : (marks : List Bool) → ExactlyExits g marks → Exact g marks
  marks_exact marks h s = (λ m. (exits_exact s).0 (sym (h s) ∙ m), λ x. h s ∙ (exits_exact s).1 x)

  -- Where what is marked exits, one more that is due does too.
  pub right_set : (marks : List Bool) → OnlyExits g marks → (s : ℕ) → Due g marks s → OnlyExits g (set marks s true)
  right_set marks r s d k m =
      let h : Justified g marks = λ x i. (exits_exact x).0 (r x i) in
      (exits_exact k).1 (justified_set g marks h s (due_exits g marks h s d) k m)

  -- Where also all that is due is marked, the marks say which states exit.
  pub closed_exact : (marks : List Bool) → OnlyExits g marks → Closed g marks → ExactlyExits g marks
  closed_exact marks r c s =
      let h : Justified g marks = λ x i. (exits_exact x).0 (r x i) in
      same_from_decides (mark marks s) (can_exit g s) (exact_from g marks sound h c s) (exits_exact s)

  module _ (marks : List Bool) (exact : Exact g marks) where
    leads_from : (t q : ℕ) → leads_by g marks t (g.passing t) q ≡ true → Leads g t q
    leads_from t q e = go (g.passing t) refl e
      where
        go : (k : Passing) → g.passing t ≡ k → leads_by g marks t k q ≡ true → Leads g t q
        go Silent k h = plain k (search (rules, tests))
        go Call k h = search (rules, tests, into, over, exact)
        go Reads k h = cc

    from_leads : (t q : ℕ) → Leads g t q → leads_by g marks t (g.passing t) q ≡ true
    from_leads t q (plain k e) = rw (k, e) (search (rules, tests))
    from_leads t q (into k e) = rw (k, e) (search (rules, tests))
    from_leads t q (over k x e) = rw (k, e) (search (rules, tests, exact))

    linked_edge : (s q : ℕ) → linked g marks s q ≡ true → Edge g s q
    linked_edge s q e =
        search (rules, tests, some_true (λ t. leads_by g marks t (g.passing t) q) (g.first s) (g.count s) e, leads_from)

    edge_linked : (s q : ℕ) → Edge g s q → linked g marks s q ≡ true
    edge_linked s q e =
        true_some (λ t. leads_by g marks t (g.passing t) q) (g.first s) (g.count s) e.0 e.1.0 e.1.1 (from_leads e.0 q e.2)

    -- The passes of the rule of reaching mark exactly what s reaches.
    reach_sound : (s k q : ℕ) → mark (passed (reach_rule g marks s) g.states k) q ≡ true → Reach g q s
    reach_sound s k q e = passed_sound (reach_rule g marks s) g.states (λ (x : ℕ). Reach g x s) hands_on k q e
      where
        hands_on : (met : List Bool) → ((p : ℕ) → mark met p ≡ true → Reach g p s) → (p : ℕ) → reach_rule g marks s met p ≡ true → Reach g p s
        hands_on met h p i =
            ⊎_elim (λ j. one (linked_edge s p j))
            (λ j.
            let o = some_true (λ x. mark met x && linked g marks x p) 0 g.states j in
            let f = linked_edge o.0 p in
            search (rules, tests, one, reach_join g, f, h))
            (search (rules, tests))

    step_in : (s : ℕ) (met : List Bool) → ((q : ℕ) → q < g.states → reach_rule g marks s met q ≡ true → mark met q ≡ true) →
        (x q : ℕ) → Edge g x q → q < g.states → (x ≡ s) ⊎ (mark met x ≡ true) → mark met q ≡ true
    step_in s met h x q e b (inl i) =
        let f : linked g marks s q ≡ true = edge_linked s q (rw (← i) e) in
        h q b (search (rules, tests))
    step_in s met h x q e b (inr i) =
        let l : x < g.states = sound.owns x e.0 e.1 in
        let f = edge_linked x q e in
        let o = true_some (λ y. mark met y && linked g marks y q) 0 g.states x (omega arith) (omega arith) (search (rules, tests)) in
        h q b (search (rules, tests))

    reach_all : (s : ℕ) (met : List Bool) → ((q : ℕ) → q < g.states → reach_rule g marks s met q ≡ true → mark met q ≡ true) →
        {q x : ℕ} → Reach g q x → q < g.states → (x ≡ s) ⊎ (mark met x ≡ true) → mark met q ≡ true
    reach_all s met h {q} {x} (one e) b f = step_in s met h x q e b f
    reach_all s met h {q} {x} (more {p = p} e r) b f = reach_all s met h r b (inr (step_in s met h x p e (reach_below g sound r) f))

  reached_sound : (s q : ℕ) → mark (reach_marks g s) q ≡ true → Reach g q s
  unfolding reach_marks
  reached_sound s q e = reach_sound (exit_marks g) exits_exact s g.states q e

  reached_all : (s q : ℕ) → Reach g q s → q < g.states → mark (reach_marks g s) q ≡ true
  unfolding reach_marks
  reached_all s q r b =
      reach_all (exit_marks g) exits_exact s (reach_marks g s)
      (passed_settled (reach_rule g (exit_marks g) s) g.states) r b (inl refl)

  rank_falls : NoRound g → (s q : ℕ) → Edge g s q → rank g q < rank g s
  unfolding rank
  rank_falls n s q e =
      let b : q < g.states = edge_below g sound e in
      tally_lt (mark (reach_marks g q)) (mark (reach_marks g s)) g.states
      (λ k l m. reached_all s k (more e (reached_sound q k m)) l)
      q b
      (⊎_elim (λ (m : mark (reach_marks g q) q ≡ true). absurd (n q (cycle_round g q (reached_sound q q m)))) (λ m. m) (cases_Bool (mark (reach_marks g q) q)))
      (reached_all s q (one e) b)

pub ranks_fall_lem : RanksFall
ranks_fall_lem g w n s q e = rank_falls g w n s q e

four_pow : (a b : ℕ) → a < b → 4 * 4 ^ a ≤ 4 ^ b
four_pow a b h =
    let p : 4 ^ suc a ≤ 4 ^ b = pow-le-pow_right (omega arith) h in
    rw (pow-succ' 4 a) at p

module _ (g : Graph) where
  -- The part of the total that the return states make.
  rest : ℕ → List ℕ → ℕ
  rest s [] = 0
  rest s (r ∷ rs) = cond (can_exit g s) (1 + total g r rs) 0

  total-is : (s : ℕ) (rs : List ℕ) → total g s rs ≡ 4 ^ rank g s + rest s rs
  unfolding total rest
  total-is s [] = omega arith
  total-is s (r ∷ rs) = refl

  rest_le : (t s : ℕ) (rs : List ℕ) → (can_exit g t ≡ true → can_exit g s ≡ true) → rest t rs ≤ rest s rs
  unfolding rest
  rest_le t s [] h = omega arith
  rest_le t s (r ∷ rs) h = cond_le (can_exit g t) (can_exit g s) (1 + total g r rs) h

  module _ (w : Sound g) (n : NoRound g) where
    fall_move : (t s : ℕ) (rs : List ℕ) → Of g s t → g.passing t ≡ Silent → total g (g.target t) rs < total g s rs
    fall_move t s rs h k =
        let q = g.target t in
        let a = four_pow (rank g q) (rank g s) (rank_falls g w n s q (t, h, plain k refl)) in
        let b = rest_le q s rs (λ e. (exits_exact g w s).1 (exits_move g t h k ((exits_exact g w q).0 e))) in
        omega (arith, a, b, total-is q rs, total-is s rs, one-le-pow (rank g q) 4 (omega arith))

    fall_call : (t s : ℕ) (rs : List ℕ) → Of g s t → g.passing t ≡ Call → total g (g.target t) (g.return_state t ∷ rs) < total g s rs
    unfolding total
    fall_call t s rs h k = go (can_exit g q) refl
      where
        q : ℕ
        q = g.target t

        p : ℕ
        p = g.return_state t

        a : 4 * 4 ^ rank g q ≤ 4 ^ rank g s
        a = four_pow (rank g q) (rank g s) (rank_falls g w n s q (t, h, into k refl))

        go : (b : Bool) → can_exit g q ≡ b → 4 ^ rank g q + cond b (1 + total g p rs) 0 < total g s rs
        go true e =
            let x = (exits_exact g w q).0 e in
            let c = four_pow (rank g p) (rank g s) (rank_falls g w n s p (t, h, over k x refl)) in
            let b = rest_le p s rs (λ f. (exits_exact g w s).1 (exits_call g t h k x ((exits_exact g w p).0 f))) in
            omega (arith, a, b, c, total-is p rs, total-is s rs, one-le-pow (rank g p) 4 (omega arith))
        go false e = omega (arith, a, total-is s rs, one-le-pow (rank g q) 4 (omega arith))

    fall_leave : (s r : ℕ) (rs : List ℕ) → g.stop s ≡ true → total g r rs < total g s (r ∷ rs)
    unfolding total
    fall_leave s r rs h =
        let e : can_exit g s ≡ true = (exits_exact g w s).1 (exits_stop g h) in
        rw e (omega arith)

    pub goes_falls : {s : ℕ} {rs : List ℕ} {q : ℕ} {us : List ℕ} → Goes g s rs q us → total g q us < total g s rs
    goes_falls {s} {rs} {q} {us} (moves t h k e f) = rw (← e, ← f) (fall_move t s rs h k)
    goes_falls {s} {rs} {q} {us} (calls t h k e f) = rw (← e, ← f) (fall_call t s rs h k)
    goes_falls {s} {rs} {q} {us} (leaves h e) = rw e (fall_leave s q us h)

pub steps_fall_lem : StepsFall
steps_fall_lem g w n x p q e =
    goes_falls g w n (step_goes g x p.state p.returns q.state q.returns e)

-- What a search meets at a call.
pub ruleset calls_followed = (marks_exact, grown_into, grown_over)
