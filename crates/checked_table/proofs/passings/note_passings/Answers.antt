use Rattle.std.proofs.Common.{◌<◌, ◌≢◌, length, ap, ◌∙◌, arith, get_or-set_other, get_or-set_same, below_more}
use Rattle.rounds.specs.declared.passing.Passing.TheVariants.{Silent}
use Rattle.checked_table.specs.declared.parts.Transition.{Transition}
use Rattle.checked_table.specs.Graphs.{passing_of}
use Rattle.checked_table.specs.Means.{atn_in}
use Rattle.checked_table.proofs.passings.note_passings.Goals as goal

pub loop-t-preserved : goal.loop-t-preserved
loop-t-preserved c =
    let t = c.loop-t.t in
    let a = atn_in c.args.records.now in
    let there : t < length c.loop-t.passings = omega (arith, c.counts-count.ensures, c.requires) in
    below_more _ _
    (λ k h. let ne : k ≢ t = omega arith in get_or-set_other c.loop-t.passings t k c.passing_of.result Silent ne ∙ c.loop-t.invariant k h)
    (get_or-set_same c.loop-t.passings t c.passing_of.result Silent there ∙ (c.passing_of.ensures ∙ ap (λ (x : Transition). passing_of a x.kind) c.transition-transition.ensures.is))
