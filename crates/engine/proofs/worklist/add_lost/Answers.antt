use native.Mathlib.Omega.{arith}
use mathlib.Core.Path.{◌≡◌}
use Rattle.engine.proofs.Worklists.{added_more, added_none}
use Rattle.engine.proofs.worklist.add_lost.Goals as goal

pub loop-columns-init : goal.loop-columns-init
loop-columns-init c = added_none _ c.told-changed

pub loop-columns-preserved : goal.loop-columns-preserved
loop-columns-preserved c = added_more c.loop-columns.invariant c.loop-columns-test.true

pub returns : goal.returns
returns c = let end : c.loop-columns.columns-index ≡ 8 = omega arith in rw end at c.loop-columns.invariant
