use Rattle.cells.proofs.Collects.{AddedTo}
use Rattle.cells.proofs.walk.add_row.Given as goal

abbrev pub invariant-loop-j : goal.invariant-loop-j
invariant-loop-j l = AddedTo l.j l.book l.at l.initial.sets l.sets
