use native.Mathlib.Omega.{arith}
use Rattle.counters.proofs.counter.ended.Goals as goal

pub returns-then-row-lt127 : goal.returns-then-row-lt127
returns-then-row-lt127 c = omega (arith, c.if-row-lt127.true)

pub returns-else-row-lt127 : goal.returns-else-row-lt127
returns-else-row-lt127 c = omega (arith, c.if-row-lt127.false, c.requires)
