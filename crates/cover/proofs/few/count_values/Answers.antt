use native.Mathlib.Omega.{arith}
use Rattle.cover.proofs.Fewer.{sizes_more}
use Rattle.cover.proofs.few.count_values.Goals as goal

pub loop-c-preserved : goal.loop-c-preserved
loop-c-preserved c = sizes_more (omega arith) (omega (arith, c.loop-c-test.true)) c.loop-c.invariant
