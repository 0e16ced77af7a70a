use Rattle.std.proofs.Common.{◌≡◌, ◌+◌, false, leb, refl, ◌∙◌, arith, rules}
use Rattle.std.proofs.lemmas.Bool.{le-leb, lt-leb}
use Rattle.std.proofs.lemmas.Iterator.{YieldsList-from_range}
use Rattle.std.proofs.lemmas.Iterator.Search.{all_from_yields_List}
use Rattle.image.specs.Rules.{may_decide, decides}
use Rattle.image.proofs.Ranges.{all_of_range}
use Rattle.image.proofs.image.Image.decides.Goals as goal

pub returns-then-count-le1 : goal.returns-then-count-le1
unfolding decides
returns-then-count-le1 c = let one = le-leb c.args.count 1 c.if-count-le1.true in simp one

pub returns-else-count-le1 : goal.returns-else-count-le1
unfolding decides
returns-else-count-le1 c =
    let first = c.args.first in
    let count = c.args.count in
    let more : leb count 1 ≡ false = lt-leb count 1 c.if-count-le1.false in
    let items = YieldsList-from_range first (first + count) count refl (omega arith) in
    let asked = all_from_yields_List (may_decide c.args.self.now.numbers.now c.args.self.now.sections first) _ _ c.all.result c.all.ensures.ran items (λ t b q e. search rules) in
    simp more (asked ∙ all_of_range _ first count)
