use Prim.Native.Nat.{◌*◌, ◌+◌, ◌^◌}
use Rattle.cells.specs.Cells.{KeptRun}
use Rattle.cells.proofs.walk.kept_run.Given as goal

abbrev pub invariant-loop-k : goal.invariant-loop-k
invariant-loop-k l = KeptRun l.book l.p.begin (64 * l.p.word + l.from) l.k l.j (l.low + 2 ^ 32 * l.high) l.keep
