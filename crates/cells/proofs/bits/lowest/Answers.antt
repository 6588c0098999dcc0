use mathlib.Core.Path.{refl}
use Rattle.model.proofs.Masks.{cleared, lowest_lt}
use Rattle.cells.proofs.bits.lowest.Goals as goal

pub returns : goal.returns
returns c = (refl, lowest_lt 64 c.args.x c.requires c.ranges.x.fits, (cleared 64 c.args.x c.requires c.ranges.x.fits).here)
