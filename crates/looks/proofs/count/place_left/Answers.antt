use native.Mathlib.Omega.{arith}
use Rattle.looks.proofs.Counts.{none_full}
use Rattle.looks.proofs.count.place_left.Goals as goal

pub returns-then-rows-choices : goal.returns-then-rows-choices
returns-then-rows-choices c = none_full c.requires.0 (omega (arith, c.ranges.d)) c.requires.1 c.if-rows-choices.true
