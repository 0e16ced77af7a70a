use Rattle.std.proofs.Common.{arith}
use Rattle.input.proofs.Leads.{read_two, read_three, read_four}
use Rattle.input.proofs.utf8.sequence.read_at.Goals as goal

pub bounds-bytes-at-in-2 : goal.bounds-bytes-at-in-2
bounds-bytes-at-in-2 c = grind (arith, read_two c.args.bytes.now c.args.at c.requires.text c.requires.place)

pub bounds-bytes-at-in-3 : goal.bounds-bytes-at-in-3
bounds-bytes-at-in-3 c = grind (arith, read_three c.args.bytes.now c.args.at c.requires.text c.requires.place)

pub bounds-bytes-at-in-3-2 : goal.bounds-bytes-at-in-3-2
bounds-bytes-at-in-3-2 c = grind (arith, read_three c.args.bytes.now c.args.at c.requires.text c.requires.place)

pub bounds-bytes-at-in_default : goal.bounds-bytes-at-in_default
bounds-bytes-at-in_default c = grind (arith, read_four c.args.bytes.now c.args.at c.requires.text c.requires.place)

pub bounds-bytes-at-in_default-2 : goal.bounds-bytes-at-in_default-2
bounds-bytes-at-in_default-2 c = grind (arith, read_four c.args.bytes.now c.args.at c.requires.text c.requires.place)

pub bounds-bytes-at-in_default-3 : goal.bounds-bytes-at-in_default-3
bounds-bytes-at-in_default-3 c = grind (arith, read_four c.args.bytes.now c.args.at c.requires.text c.requires.place)
