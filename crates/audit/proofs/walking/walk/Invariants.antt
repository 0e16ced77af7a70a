use Rattle.std.proofs.Common.{◌≡◌, ◌+◌, ◌-◌, ◌≤◌, length}
use Rattle.input.specs.Text.{read_to, rest}
use Rattle.audit.specs.Walks.{occurs}
use Rattle.audit.proofs.walking.walk.Given as goal

abbrev pub invariant-loop-symbols : goal.invariant-loop-symbols
invariant-loop-symbols g l =
    let start = g.S.Source.text l.initial.source in
    let t = g.S.Source.text l.source in
    (t ≡ read_to start t.read)
    × (l.symbols + start.read ≡ t.read)
    × (l.feeds + occurs 10 (rest t) ≡ occurs 10 (rest start))
    × (l.feeds ≤ l.symbols)

abbrev pub decreases-loop-symbols : goal.decreases-loop-symbols
decreases-loop-symbols g l = let t = g.S.Source.text l.source in length t.symbols - t.read
