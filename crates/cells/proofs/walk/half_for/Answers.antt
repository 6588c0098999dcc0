use native.Mathlib.Omega.{arith}
use Rattle.cells.proofs.Halves.{high_half, low_half}
use Rattle.cells.proofs.walk.half_for.Goals as goal

pub returns-then-x-eq0 : goal.returns-then-x-eq0
returns-then-x-eq0 c = low_half c.args.low c.args.high c.args.x (omega (arith, c.if-x-eq0.true))

pub returns : goal.returns
returns c = high_half c.args.low c.args.high c.args.x (omega (arith, c.ranges.low)) (omega (arith, c.if-x-eq0.false))
