use Prim.Native.Nat.{◌*◌, ◌+◌}
use Rattle.cells.specs.Cells.{row_inside}
use Rattle.cells.proofs.Walks.{Part, Walked}
use Rattle.cells.proofs.walk.inside_rows.Given as goal

abbrev pub invariant-loop-i : goal.invariant-loop-i
invariant-loop-i l = Walked (λ k. row_inside l.book l.p.begin l.x (64 * l.p.word + k)) l.word l.i-iterator.left l.keep × Part l.i-iterator.left l.word
