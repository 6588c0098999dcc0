use Prim.Native.Nat.{◌*◌}
use Rattle.cells.proofs.Walks.{Part, Walked, cell_in}
use Rattle.cells.proofs.walk.kept_set.Given as goal

abbrev pub invariant-loop-i : goal.invariant-loop-i
invariant-loop-i g l = Walked (cell_in l.book l.p.begin (64 * l.p.word) l.j l.m) l.word l.i-iterator.left l.keep × Part l.i-iterator.left l.word
