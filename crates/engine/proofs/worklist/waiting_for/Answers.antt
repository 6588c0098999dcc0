use mathlib.Core.Path.{◌≡◌}
use native.Mathlib.Omega.{arith}
use Rattle.engine.proofs.Worklists.{waiting_more, waiting_none}
use Rattle.engine.proofs.worklist.waiting_for.Goals as goal

pub loop-f-init : goal.loop-f-init
loop-f-init c = waiting_none _ _

pub loop-f-preserved : goal.loop-f-preserved
loop-f-preserved c = waiting_more c.loop-f.invariant c.loop-f-test.true c.waits-waiting.ensures.0 c.waits-waiting.ensures.1

pub returns : goal.returns
returns c = let end : c.loop-f.f ≡ 8 = omega arith in rw end at c.loop-f.invariant
