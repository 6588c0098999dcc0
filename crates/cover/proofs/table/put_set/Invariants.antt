use Prim.Native.Nat.{◌*◌, ◌+◌}
use Rattle.cells.specs.Cells.{cell_at}
use Rattle.cells.proofs.Collects.{passed}
use Rattle.cells.proofs.Walks.{Part}
use Rattle.cover.specs.Covers.{Tabled}
use Rattle.cover.proofs.table.put_set.Given as goal

abbrev pub invariant-loop-i : goal.invariant-loop-i
invariant-loop-i g l = Tabled (λ k j. cell_at l.book l.p.begin (64 * l.p.word + k) j) (passed l.word l.i-iterator.left) l.initial.table l.table × Part l.i-iterator.left l.word
