use native.Mathlib.Omega.{arith}
use Rattle.engine.proofs.Layouts.{columns_end, columns_more, columns_none}
use Rattle.engine.proofs.layout.columns_of.Goals as goal

pub loop-j-init : goal.loop-j-init
loop-j-init c = columns_none _ _

pub loop-j-preserved : goal.loop-j-preserved
loop-j-preserved c = columns_more c.loop-j.invariant c.column.ensures.0 (omega arith)

pub returns : goal.returns
returns c = columns_end (omega arith) c.loop-j.invariant
