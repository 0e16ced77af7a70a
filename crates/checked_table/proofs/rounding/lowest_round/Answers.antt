use Rattle.std.proofs.Common.{ℕ, ◌≤◌, length, Some, None, Option, arith, MatchOption}
use Rattle.rounds.specs.Rounds as graphs
use Rattle.checked_table.specs.declared.records.Records.{Records}
use Rattle.checked_table.specs.Graphs.{graph_of}
use Rattle.checked_table.specs.Means.{atn_in}
use Rattle.checked_table.specs.Steps.{NoRound, LowestRound}
use Rattle.checked_table.proofs.Holding.{fits_of, states_are, transitions_are, formed}
use Rattle.checked_table.proofs.Bridging.{graph_sound, graph_round, round_graph}
use Rattle.checked_table.proofs.rounding.lowest_round.Goals as goal

few_states : (r : Records) → length (atn_in r).states ≤ 4096
few_states r = omega (arith, states_are r, fits_of r)

few_transitions : (r : Records) → length (atn_in r).transitions ≤ 16384
few_transitions r = omega (arith, transitions_are r, fits_of r)

pub note_passings-requires : goal.note_passings-requires
note_passings-requires c = omega (arith, few_transitions c.args.records.now)

pub invariant_of-steps : goal.invariant_of-steps
invariant_of-steps c =
    let r = c.args.records.now in
    record { few_states = few_states r; few_transitions = few_transitions r; known = omega (arith, few_transitions r); noted = c.note_passings.ensures }

pub goes_round-requires : goal.goes_round-requires
goes_round-requires c =
    let r = c.args.records.now in
    record { sound = graph_sound (atn_in r) (formed r); few = few_states r }

pub returns : goal.returns
returns c = found c.goes_round.result c.goes_round.ensures
  where
    r : Records
    r = c.args.records.now

    found : (o : Option ℕ) → MatchOption o (graphs.NoRound (graph_of (atn_in r))) (graphs.LowestRound (graph_of (atn_in r))) → MatchOption o (NoRound (atn_in r)) (LowestRound (atn_in r))
    found None none = λ s round. none s (round_graph (atn_in r) (formed r) s round)
    found (Some s) (inside, round, lowest) = (inside, graph_round (atn_in r) (formed r) s round, λ k l other. lowest k l (round_graph (atn_in r) (formed r) k other))
