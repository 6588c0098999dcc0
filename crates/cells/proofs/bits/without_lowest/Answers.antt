use Prim.Native.Nat.{◌-◌}
use native.Mathlib.Omega.{arith}
use lib.Bits.{and_le_r}
use Rattle.model.proofs.Masks.{cleared}
use Rattle.cells.proofs.bits.without_lowest.Goals as goal

pub returns : goal.returns
returns c = (cleared 64 c.args.x c.requires c.ranges.x.fits, omega (arith, and_le_r c.args.x (c.args.x - 1)))
