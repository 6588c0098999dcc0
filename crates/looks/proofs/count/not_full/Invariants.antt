use Rattle.cells.proofs.Walks.{Part}
use Rattle.looks.proofs.Counts.{Keeping}
use Rattle.looks.proofs.count.not_full.Given as goal

abbrev pub invariant-loop-v : goal.invariant-loop-v
invariant-loop-v l = Keeping l.counts l.j l.choices l.d l.v-iterator.left l.keep × Part l.v-iterator.left l.d
