use Rattle.std.proofs.Common.{drop, refl, inl}
use Rattle.std.proofs.lemmas.Result.{err_from_is_err_and}
use Rattle.table.specs.Spans.{forms}
use Rattle.table.proofs.Sectioning.{broken_after}
use Rattle.table.proofs.sections.Sections.of.Goals as goal

pub returns-in_err-intervals-clause-laid : goal.returns-in_err-intervals-clause-laid
returns-in_err-intervals-clause-laid c =
    let p = err_from_is_err_and c.from_residual-in_err-intervals.result c.from_residual-in_err-intervals.ensures.1 in
    rw (p.1, p.2) (broken_after (drop 1 forms) _ c.in_ok-states.ensures.read (broken_after (drop 2 forms) _ c.in_ok-transitions.ensures.read (inl c.in_err-intervals.ensures.read)))

pub returns-in_err-modes-clause-laid : goal.returns-in_err-modes-clause-laid
returns-in_err-modes-clause-laid c =
    let p = err_from_is_err_and c.from_residual-in_err-modes.result c.from_residual-in_err-modes.ensures.1 in
    rw (p.1, p.2) (broken_after (drop 1 forms) _ c.in_ok-states.ensures.read (broken_after (drop 2 forms) _ c.in_ok-transitions.ensures.read (broken_after (drop 3 forms) _ c.in_ok-intervals.ensures.read (inl c.in_err-modes.ensures.read))))

pub returns-in_err-rules-clause-laid : goal.returns-in_err-rules-clause-laid
returns-in_err-rules-clause-laid c =
    let p = err_from_is_err_and c.from_residual-in_err-rules.result c.from_residual-in_err-rules.ensures.1 in
    rw (p.1, p.2) (broken_after (drop 1 forms) _ c.in_ok-states.ensures.read (broken_after (drop 2 forms) _ c.in_ok-transitions.ensures.read (broken_after (drop 3 forms) _ c.in_ok-intervals.ensures.read (broken_after (drop 4 forms) _ c.in_ok-modes.ensures.read (inl c.in_err-rules.ensures.read)))))

pub returns-in_err-actions-clause-laid : goal.returns-in_err-actions-clause-laid
returns-in_err-actions-clause-laid c =
    let p = err_from_is_err_and c.from_residual-in_err-actions.result c.from_residual-in_err-actions.ensures.1 in
    rw (p.1, p.2) (broken_after (drop 1 forms) _ c.in_ok-states.ensures.read (broken_after (drop 2 forms) _ c.in_ok-transitions.ensures.read (broken_after (drop 3 forms) _ c.in_ok-intervals.ensures.read (broken_after (drop 4 forms) _ c.in_ok-modes.ensures.read (broken_after (drop 5 forms) _ c.in_ok-rules.ensures.read (inl c.in_err-actions.ensures.read))))))

pub returns-then-actions-image-clause-laid : goal.returns-then-actions-image-clause-laid
returns-then-actions-image-clause-laid c = broken_after (drop 1 forms) _ c.in_ok-states.ensures.read (broken_after (drop 2 forms) _ c.in_ok-transitions.ensures.read (broken_after (drop 3 forms) _ c.in_ok-intervals.ensures.read (broken_after (drop 4 forms) _ c.in_ok-modes.ensures.read (broken_after (drop 5 forms) _ c.in_ok-rules.ensures.read (broken_after (drop 6 forms) _ c.in_ok-actions.ensures.read (c.if-actions-image.true, refl))))))
