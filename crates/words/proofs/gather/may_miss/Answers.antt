use mathlib.Core.Logic.{inl, inr}
use mathlib.Core.Path.{refl}
use Rattle.words.proofs.Cuts.{bit_not}
use Rattle.words.proofs.Gathers.{nothing_outside}
use Rattle.words.proofs.gather.may_miss.Goals as goal

pub returns-then-shorts-j-eq1 : goal.returns-then-shorts-j-eq1
returns-then-shorts-j-eq1 c = λ e. inr (nothing_outside _ _ c.ranges.x.fits c.ranges.y.fits e)

pub returns-else-shorts-j-eq1 : goal.returns-else-shorts-j-eq1
returns-else-shorts-j-eq1 c = λ e. inl (bit_not _ _ _ refl c.if-shorts-j-eq1.false)
