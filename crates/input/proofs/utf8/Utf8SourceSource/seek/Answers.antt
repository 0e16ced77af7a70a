use Rattle.input.proofs.Methods.{not_past, found}
use Rattle.input.proofs.utf8.Utf8SourceSource.seek.Goals as goal

pub returns-then-place-self : goal.returns-then-place-self
returns-then-place-self c = let s = c.args.self.now in not_past s.bytes.now c.args.place s.at c.if-place-self.true

pub returns : goal.returns
returns c =
    let s = c.args.self.now in
    found s.bytes.now c.args.place s.at s.readable.1 c.if-place-self.false (λ t. let e = c.tail_at.ensures.1 t in cc)
