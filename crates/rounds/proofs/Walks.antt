-- A state goes round exactly when it reaches itself by edges.
use Rattle.std.proofs.Common.{◌≡◌, ℕ, Bool, true, false, cond, List, [], ◌∷◌, ◌++◌, refl, ap, subst, rules, tests}
use mathlib.Core.Option.{Option, none, some}
use Rattle.rounds.specs.declared.passing.Passing.{Passing}
use Rattle.rounds.specs.declared.passing.Passing.TheVariants.{Silent, Call, Reads}
use Rattle.rounds.specs.Rounds.{Graph, Of, has, Stand, standing, Step, along, back, follow, pop, step, and_then, walk, Round, Exits, Leads, Edge, plain, into, over, Reach, one, more, Cycle, RoundsAreCycles}

-- One silent step: along a silent transition, into a call, or back from a stop.
pub data Goes (g : Graph) (s : ℕ) (rs : List ℕ) (q : ℕ) (us : List ℕ) : Type 0 where
  moves : (t : ℕ) → Of g s t → g.passing t ≡ Silent → g.target t ≡ q → rs ≡ us → Goes g s rs q us
  calls : (t : ℕ) → Of g s t → g.passing t ≡ Call → g.target t ≡ q → g.return_state t ∷ rs ≡ us → Goes g s rs q us
  leaves : g.stop s ≡ true → rs ≡ q ∷ us → Goes g s rs q us

-- Any number of silent steps to q with us.
pub data Trail (g : Graph) (q : ℕ) (us : List ℕ) : ℕ → List ℕ → Type 0 where
  here : {s : ℕ} {rs : List ℕ} → s ≡ q → rs ≡ us → Trail g q us s rs
  next : {s p : ℕ} {rs vs : List ℕ} → Goes g s rs p vs → Trail g q us p vs → Trail g q us s rs

same_stand : {p q : Stand} → some p ≡ some q → (p.state ≡ q.state) × (p.returns ≡ q.returns)
same_stand {p} {q} e =
    let h : p ≡ q = cc in
    (ap (λ (x : Stand). x.state) h, ap (λ (x : Stand). x.returns) h)

of_has : (g : Graph) (s t : ℕ) → has g s t ≡ true → Of g s t
of_has g s t h = search (rules, tests)

module _ (g : Graph) where
  pub step_goes : (x : Step) (s : ℕ) (rs : List ℕ) (q : ℕ) (us : List ℕ) → step g x (standing s rs) ≡ some (standing q us) → Goes g s rs q us
  step_goes (along t) s rs q us e = go (has g s t) refl (g.passing t) refl e
    where
      go : (b : Bool) → has g s t ≡ b → (k : Passing) → g.passing t ≡ k → cond b (follow g k t rs) none ≡ some (standing q us) → Goes g s rs q us
      go true h Silent k i = let e = same_stand i in moves t (of_has g s t h) k e.0 e.1
      go true h Call k i = let e = same_stand i in calls t (of_has g s t h) k e.0 e.1
      go true h Reads k i = cc
      go false h k j i = cc
  step_goes back s rs q us e = go (g.stop s) refl rs refl e
    where
      go : (b : Bool) → g.stop s ≡ b → (vs : List ℕ) → rs ≡ vs → cond b (pop vs) none ≡ some (standing q us) → Goes g s rs q us
      go true h [] k i = cc
      go true h (v ∷ vs) k i = let e = same_stand i in leaves h (cc)
      go false h vs k i = cc

  goes_step : {s : ℕ} {rs : List ℕ} {q : ℕ} {us : List ℕ} → Goes g s rs q us → (x : Step) × (step g x (standing s rs) ≡ some (standing q us))
  goes_step {s} {rs} {q} {us} (moves t h k e f) = let b : has g s t ≡ true = search (rules, tests) in (along t, rw (b, k, e, f) refl)
  goes_step {s} {rs} {q} {us} (calls t h k e f) = let b : has g s t ≡ true = search (rules, tests) in (along t, rw (b, k, e, f) refl)
  goes_step {s} {rs} {q} {us} (leaves h e) = (back, rw (h, e) refl)

  -- A walk of one step and more, taken apart.
  first_step : (x : Step) (xs : List Step) (s : ℕ) (rs : List ℕ) (r : Stand) → walk g (x ∷ xs) (standing s rs) ≡ some r → (p : Stand) × Goes g s rs p.state p.returns × (walk g xs p ≡ some r)
  first_step x xs s rs r e = go (step g x (standing s rs)) refl e
    where
      go : (a : Option Stand) → step g x (standing s rs) ≡ a → and_then a (walk g xs) ≡ some r → (p : Stand) × Goes g s rs p.state p.returns × (walk g xs p ≡ some r)
      go none h f = cc
      go (some p) h f = (p, step_goes x s rs p.state p.returns h, f)

  walk_trail : (xs : List Step) (s : ℕ) (rs : List ℕ) (q : ℕ) (us : List ℕ) → walk g xs (standing s rs) ≡ some (standing q us) → Trail g q us s rs
  walk_trail [] s rs q us e = let h = same_stand e in here h.0 h.1
  walk_trail (x ∷ xs) s rs q us e =
      let f = first_step x xs s rs (standing q us) e in
      next f.1 (walk_trail xs f.0.state f.0.returns q us f.2)

  trail_walk : {q : ℕ} {us : List ℕ} {s : ℕ} {rs : List ℕ} → Trail g q us s rs → (xs : List Step) × (walk g xs (standing s rs) ≡ some (standing q us))
  trail_walk (here e f) = ([], λ j. some (standing (e j) (f j)))
  trail_walk {q} {us} {s} {rs} (next g t) =
      let a = goes_step g in
      let b = trail_walk t in
      (a.0 ∷ b.0, rw a.1 b.1)

  -- A state exits where a trail leads from it to a stop, with no return states at either end.
  exits_from : {s t : ℕ} → g.stop t ≡ true → Trail g t [] s [] → Exits g s
  exits_from {s} {t} h r = let w = trail_walk r in (w.0, t, h, w.1)

  pub exits_trail : {s : ℕ} (e : Exits g s) → Trail g e.1 [] s []
  exits_trail {s} e = walk_trail e.0 s [] e.1 [] e.3

  joined : {p : ℕ} {vs : List ℕ} {q : ℕ} {us : List ℕ} {s : ℕ} {rs : List ℕ} → Trail g p vs s rs → Trail g q us p vs → Trail g q us s rs
  joined {q = q} {us = us} (here e f) r = rw (e, f) r
  joined (next g t) r = next g (joined t r)

  -- More return states below change nothing.
  goes_over : (zs : List ℕ) {s : ℕ} {rs : List ℕ} {q : ℕ} {us : List ℕ} → Goes g s rs q us → Goes g s (rs ++ zs) q (us ++ zs)
  goes_over zs (moves t h k e f) = moves t h k e (ap (λ (l : List ℕ). l ++ zs) f)
  goes_over zs (calls t h k e f) = calls t h k e (ap (λ (l : List ℕ). l ++ zs) f)
  goes_over zs (leaves h e) = leaves h (ap (λ (l : List ℕ). l ++ zs) e)

  over_more : (zs : List ℕ) {q : ℕ} {us : List ℕ} {s : ℕ} {rs : List ℕ} → Trail g q us s rs → Trail g q (us ++ zs) s (rs ++ zs)
  over_more zs (here e f) = here e (ap (λ (l : List ℕ). l ++ zs) f)
  over_more zs (next g t) = next (goes_over zs g) (over_more zs t)

  -- A call that can come back leads to its return state.
  called : (t s : ℕ) (rs : List ℕ) → Of g s t → g.passing t ≡ Call → Exits g (g.target t) → Trail g (g.return_state t) rs s rs
  called t s rs h k e =
      next (calls t h k refl refl) (joined (over_more (g.return_state t ∷ rs) (exits_trail e)) (next (leaves e.2 refl) (here refl refl)))

  pub exits_stop : {s : ℕ} → g.stop s ≡ true → Exits g s
  exits_stop h = exits_from h (here refl refl)

  pub exits_move : (t : ℕ) {s : ℕ} → Of g s t → g.passing t ≡ Silent → Exits g (g.target t) → Exits g s
  exits_move t h k e = exits_from e.2 (next (moves t h k refl refl) (exits_trail e))

  pub exits_call : (t : ℕ) {s : ℕ} → Of g s t → g.passing t ≡ Call → Exits g (g.target t) → Exits g (g.return_state t) → Exits g s
  exits_call t {s} h k e f = exits_from f.2 (joined (called t s [] h k e) (exits_trail f))

-- Any number of edges to q.
data Star (g : Graph) (q : ℕ) : ℕ → Type 0 where
  done : {s : ℕ} → s ≡ q → Star g q s
  link : {s p : ℕ} → Edge g s p → Star g q p → Star g q s

-- Where a walk that ends at q has come to: q is reached from s, or s exits and q from a return state.
data Lands (g : Graph) (q : ℕ) : ℕ → List ℕ → Type 0 where
  stay : {s : ℕ} {rs : List ℕ} → Star g q s → Lands g q s rs
  fall : {s r : ℕ} {rs : List ℕ} → Exits g s → Lands g q r rs → Lands g q s (r ∷ rs)

module _ (g : Graph) where
  star_reach : {q s p : ℕ} → Edge g s p → Star g q p → Reach g q s
  star_reach {s} e (done f) = one (subst (λ x. Edge g s x) f e)
  star_reach e (link f r) = more e (star_reach f r)

  lands_move : (t s : ℕ) (rs : List ℕ) {q : ℕ} → Of g s t → g.passing t ≡ Silent → Lands g q (g.target t) rs → Lands g q s rs
  lands_move t s rs h k (stay r) = stay (link (t, h, plain k refl) r)
  lands_move t s rs h k (fall e l) = fall (exits_move g t h k e) l

  lands_call : (t s : ℕ) (rs : List ℕ) {q : ℕ} → Of g s t → g.passing t ≡ Call → Lands g q (g.target t) (g.return_state t ∷ rs) → Lands g q s rs
  lands_call t s rs h k (stay r) = stay (link (t, h, into k refl) r)
  lands_call t s rs {q} h k (fall e l) = go l
    where
      go : {vs : List ℕ} → Lands g q (g.return_state t) vs → Lands g q s vs
      go (stay r) = stay (link (t, h, over k e refl) r)
      go (fall f m) = fall (exits_call g t h k e f) m

  lands_goes : {s : ℕ} {rs : List ℕ} {p : ℕ} {vs : List ℕ} {q : ℕ} → Goes g s rs p vs → Lands g q p vs → Lands g q s rs
  lands_goes {s} {rs} {p} {vs} {q} (moves t h k e f) l = lands_move t s rs h k (rw (e, f) l)
  lands_goes {s} {rs} {p} {vs} {q} (calls t h k e f) l = lands_call t s rs h k (rw (e, f) l)
  lands_goes {s} {rs} {p} {vs} {q} (leaves h e) l = rw e (fall (exits_stop g h) l)

  lands : {q : ℕ} {us : List ℕ} {s : ℕ} {rs : List ℕ} → Trail g q us s rs → Lands g q s rs
  lands (here e f) = stay (done e)
  lands (next g t) = lands_goes g (lands t)

  stays : {q s : ℕ} {rs : List ℕ} → rs ≡ [] → Lands g q s rs → Star g q s
  stays e (stay r) = r
  stays e (fall f l) = cc

  -- One step and any number more, from s with no return states, are one edge and any number more.
  goes_reach : {q s p : ℕ} {vs : List ℕ} → Goes g s [] p vs → Lands g q p vs → Reach g q s
  goes_reach {q} {s} {p} {vs} (moves t h k e f) l = star_reach (t, h, plain k refl) (stays refl (rw (e, f) l))
  goes_reach {q} {s} {p} {vs} (calls t h k e f) l = go refl (rw (e, f) l)
    where
      go : {ws : List ℕ} → ws ≡ g.return_state t ∷ [] → Lands g q (g.target t) ws → Reach g q s
      go i (stay r) = star_reach (t, h, into k refl) r
      go i (fall {r = r} {rs = rs} d m) =
          let a : g.return_state t ≡ r = cc in
          star_reach (t, h, over k d a) (stays (cc) m)
  goes_reach {q} {s} {p} {vs} (leaves h e) l = cc

  trail_reach : {q : ℕ} {us : List ℕ} {s p : ℕ} {vs : List ℕ} → Goes g s [] p vs → Trail g q us p vs → Reach g q s
  trail_reach g t = goes_reach g (lands t)

  pub round_cycle : (s : ℕ) → Round g s → Cycle g s
  round_cycle s r =
      let f = first_step g r.0 r.1 s [] (standing s r.2) r.3 in
      trail_reach f.1 (walk_trail g r.1 f.0.state f.0.returns s r.2 f.2)

-- One or more steps to q.
abbrev Some_steps : Graph → ℕ → ℕ → List ℕ → Type 0
Some_steps g q s rs = (us : List ℕ) × (p : ℕ) × (vs : List ℕ) × Goes g s rs p vs × Trail g q us p vs

module _ (g : Graph) where
  edge_steps : (s q : ℕ) (rs : List ℕ) → Edge g s q → Some_steps g q s rs
  edge_steps s q rs e = go e.2
    where
      go : Leads g e.0 q → Some_steps g q s rs
      go (plain k f) = (rs, _, rs, moves e.0 e.1 k refl refl, here f refl)
      go (into k f) = (g.return_state e.0 ∷ rs, _, _, calls e.0 e.1 k refl refl, here f refl)
      go (over k x f) = (
        rs,
        _,
        _,
        calls e.0 e.1 k refl refl,
        joined g (over_more g (g.return_state e.0 ∷ rs) (exits_trail g x)) (next (leaves x.2 refl) (here f refl)),
      )

  reach_steps : {q s : ℕ} (rs : List ℕ) → Reach g q s → Some_steps g q s rs
  reach_steps {q} {s} rs (one e) = edge_steps s q rs e
  reach_steps {q} {s} rs (more {p = p} e r) =
      let a = edge_steps s p rs e in
      let b = reach_steps a.0 r in
      (b.0, a.1, a.2, a.3, joined g a.4 (next b.3 b.4))

  pub cycle_round : (s : ℕ) → Cycle g s → Round g s
  cycle_round s c =
      let a = reach_steps [] c in
      let x = goes_step g a.3 in
      let w = trail_walk g a.4 in
      (x.0, w.0, a.0, rw x.1 w.1)

pub exact : RoundsAreCycles
exact g s = (round_cycle g s, cycle_round g s)
