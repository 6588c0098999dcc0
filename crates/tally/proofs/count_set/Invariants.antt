use Prim.Native.Nat.{◌*◌}
use Rattle.tally.proofs.Tallies.{Counting}
use Rattle.cells.proofs.Walks.{Part}
use Rattle.tally.proofs.count_set.Given as goal

abbrev pub invariant-loop-i : goal.invariant-loop-i
invariant-loop-i g l = Counting g.row.K l.book l.p.begin (64 * l.p.word) l.word l.i-iterator.left l.initial.counts l.counts × Part l.i-iterator.left l.word
