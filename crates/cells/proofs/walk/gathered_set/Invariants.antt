use Prim.Native.Nat.{◌%◌, ◌*◌, ◌+◌}
use Rattle.cells.specs.Cells.{GatheredOf, SmallSets, cell_at}
use Rattle.cells.proofs.Collects.{passed}
use Rattle.cells.proofs.Walks.{Part}
use Rattle.cells.proofs.walk.gathered_set.Given as goal

abbrev pub invariant-loop-i : goal.invariant-loop-i
invariant-loop-i g l = GatheredOf (λ k j. cell_at l.book l.p.begin (64 * l.p.word + k) j % 32) (passed l.word l.i-iterator.left) l.initial.sets l.sets × Part l.i-iterator.left l.word × SmallSets l.sets
