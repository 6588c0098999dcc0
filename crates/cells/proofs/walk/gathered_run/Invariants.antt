use Prim.Native.Nat.{◌*◌}
use Rattle.cells.specs.Cells.{GatheredRun, SmallSets}
use Rattle.cells.proofs.walk.gathered_run.Given as goal

abbrev pub invariant-loop-i : goal.invariant-loop-i
invariant-loop-i l = GatheredRun l.book l.p.begin (64 * l.p.word) l.i l.initial.sets l.sets × SmallSets l.sets
