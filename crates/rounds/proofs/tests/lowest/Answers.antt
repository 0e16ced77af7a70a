use Rattle.std.proofs.Common.{◌≡◌, ℕ, ◌<◌, true, List, length, get_or, refl, arith}
use Rattle.std.proofs.lemmas.List.{get_or_past}
use Rattle.std.proofs.lemmas.Grind.{common_steps}
use Rattle.rounds.specs.declared.tests.State.{State}
use Rattle.rounds.specs.declared.tests.TheConstants.{NO_STATE}
use Rattle.rounds.proofs.tests.lowest.Goals as goal

stop_below : (states : List State) (s : ℕ) → (get_or states s NO_STATE).stop ≡ true → s < length states
stop_below states s h = let past = get_or_past states s NO_STATE in grind (arith, common_steps)

of_below : (states : List State) (s : ℕ) → 0 < (get_or states s NO_STATE).count → s < length states
of_below states s h = let past = get_or_past states s NO_STATE in grind (arith, common_steps)

pub goes_round-requires : goal.goes_round-requires
goes_round-requires c =
    let states = c.args.states.now in
    let fit = c.if-targets_fit.ensures in
    record {
      sound = record {
        stops = stop_below states;
        owns = λ s t h. of_below states s (omega (arith, h));
        spans = c.if-spans_fit.ensures.0 refl;
        targets = fit.targets refl;
        return_states = λ t h _. fit.backs refl t h;
      };
      few = omega arith;
    }
