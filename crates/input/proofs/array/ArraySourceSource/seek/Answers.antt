use Rattle.std.proofs.Common.{refl, arith}
use Rattle.input.proofs.Upward.{place_of_array}
use Rattle.input.proofs.array.ArraySourceSource.seek.Goals as goal

pub returns-then-place-self : goal.returns-then-place-self
returns-then-place-self c =
    let s = c.args.self.now in
    (c.args.place, (c.if-place-self.true, place_of_array s.numbers.now c.args.place c.if-place-self.true, refl))

pub returns-else-place-self : goal.returns-else-place-self
returns-else-place-self c = ((λ k h e. omega (arith, place_of_array c.args.self.now.numbers.now k h)), refl)
