use Rattle.std.proofs.Common.{◌<◌, arith, rules}
use Rattle.rounds.specs.Rounds.{one}
use Rattle.rounds.proofs.Searching.{reached_below, reached_more, cycle_met, covers_more, taken_more}
use Rattle.rounds.proofs.edges.Edges.comes_back.Goals as goal

pub loop-s-init : goal.loop-s-init
loop-s-init g c =
    search (rules, one, c.start.ensures.none, c.expand.ensures.right, c.expand.ensures.added)

pub returns-then-head-search-clause-exact : goal.returns-then-head-search-clause-exact
returns-then-head-search-clause-exact g c =
    let graph = g.T.Automaton.graph c.args.self.now.automaton.now in
    let inv = c.loop-s.invariant in (
      λ e. cc,
      λ r.
          let met = cycle_met graph c.loop-s.search c.args.s inv.from c.requires.none (λ j h. inv.taken j (omega arith)) inv.start r in
          let told = c.has_met.ensures.1 met in
          cc,
    )

pub expand-requires-in-loop-s : goal.expand-requires-in-loop-s
expand-requires-in-loop-s g c =
    reached_below (g.T.Automaton.graph c.args.self.now.automaton.now) c.args.self.now.sound
    (c.loop-s.invariant.reached _ (c.loop-s.search.met c.loop-s.head (omega arith)))

pub loop-s-preserved : goal.loop-s-preserved
loop-s-preserved g c =
    let graph = g.T.Automaton.graph c.args.self.now.automaton.now in
    let search = c.loop-s.search in
    let inv = c.loop-s.invariant in
    let grown = c.expand-in-loop-s.ensures in
    let left : c.loop-s.head < search.end = omega arith in
    record {
      from = cc;
      within = omega (arith, grown.ends);
      reached = reached_more graph (inv.reached _ (search.met c.loop-s.head left)) grown inv.reached;
      start = covers_more graph c.args.s grown inv.start;
      taken = taken_more graph c.loop-s.head left grown inv.taken;
    }
