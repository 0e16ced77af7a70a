use Rattle.std.proofs.Common.{refl, ap}
use Rattle.std.proofs.lemmas.Result.{err_from_is_err_and}
use Rattle.input.specs.Text.{read_to}
use Rattle.input.specs.Utf8.{places_of, text_of}
use Rattle.input.proofs.Accepts.{refused_not}
use Rattle.input.proofs.Agree.{formed_utf8}
use Rattle.input.proofs.Standing.{stand_start, before_zero}
use Rattle.input.proofs.utf8.Utf8Source.open.Goals as goal

pub returns-in_err-check : goal.returns-in_err-check
returns-in_err-check c =
    let p = err_from_is_err_and c.from_residual.result c.from_residual.ensures.1 in
    let no_text = c.in_err-check.ensures in
    rw (p.1, p.2) (record { readable = tt; text = tt; refused = no_text; unchanged = refl; agrees = refused_not _ _ no_text })

pub invariant_of-self : goal.invariant_of-self
invariant_of-self c = let r = c.in_ok-check.ensures in record { readable = r; stands = stand_start c.args.bytes.now r.1 }

pub returns : goal.returns
returns c =
    let bs = c.args.bytes.now in
    let readable = c.in_ok-check.ensures in
    record { readable = readable; text = ap (read_to (text_of bs)) (before_zero (places_of bs)); refused = tt; unchanged = tt; agrees = formed_utf8 bs readable.1 }
