use mathlib.Core.Path.{◌≡◌}
use native.Mathlib.Omega.{arith}
use Rattle.engine.proofs.Openings.{words_more, words_none}
use Rattle.engine.proofs.state.fill_words.Goals as goal

pub loop-w-init : goal.loop-w-init
loop-w-init c = words_none _ _ (record { size = c.told-valid; fits = c.fits-valid })

pub loop-w-preserved : goal.loop-w-preserved
loop-w-preserved c = words_more c.loop-w.invariant c.requires.0 c.loop-w-test.true c.full_word.ensures

pub returns : goal.returns
returns c = let end : c.loop-w.w ≡ 8 = omega arith in rw end at c.loop-w.invariant
