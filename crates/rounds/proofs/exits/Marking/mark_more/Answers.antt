use Rattle.std.proofs.Common.{◌-◌, true, refl, arith}
use Rattle.std.proofs.lemmas.List.{length-set}
use Rattle.rounds.proofs.Ranks.{right_set}
use Rattle.rounds.proofs.exits.Marking.mark_more.Goals as goal

pub invariant_of-self : goal.invariant_of-self
invariant_of-self g c =
    let m = c.loop-s.self in
    let s = c.loop-s.s - 1 in
    record {
      sound = m.sound;
      room = omega (arith, m.room, length-set m.marks.now s true);
      right = right_set (g.T.Automaton.graph m.automaton.now) m.sound m.marks.now m.right s (c.if-is_due.ensures.0 refl);
    }
