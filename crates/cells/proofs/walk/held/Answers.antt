use Rattle.cells.proofs.Halves.{held_digit}
use Rattle.cells.proofs.walk.held.Goals as goal

pub returns : goal.returns
returns c = held_digit c.args.d c.args.cell _ (rw c.from.ensures at c.has.ensures.0)
