use mathlib.Core.Path.{◌≡◌}
use native.Mathlib.Omega.{arith}
use Rattle.words.proofs.Gathers.{widened_end, widened_start}
use Rattle.words.proofs.gather.widen_places.Goals as goal

pub loop-j-init : goal.loop-j-init
loop-j-init c = widened_start c.args.laid.now.sheet.at c.requires.0 c.requires.1

pub returns : goal.returns
returns c = let e : c.loop-j.j ≡ 4 = omega arith in widened_end c.args.laid.now.sheet.at c.requires.0 (rw e at c.loop-j.invariant)
