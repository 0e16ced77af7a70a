use Rattle.std.proofs.Common.{◌≡◌, ap, arith}
use Rattle.image.specs.Raw.{counts_before}
use Rattle.image.proofs.Counting.{counts_all}
use Rattle.image.proofs.image.Image.broken_transition.Goals as goal

pub returns : goal.returns
returns c t h =
    let image = c.args.self.now.numbers.now in
    let s = c.args.self.now.sections in
    let last : c.loop-k.k ≡ s.states.count = omega (arith, c.loop-k.auto.k-end) in
    c.loop-k.invariant.2 t (omega (arith, c.loop-k.invariant.0, counts_all image s c.args.self.now.fits.0.0.1 c.requires, ap (counts_before image s) last))
