use native.Mathlib.Omega.{arith}
use Rattle.engine.proofs.Openings.{word_all, word_none, word_some}
use Rattle.engine.proofs.state.full_word.Goals as goal

pub returns-then-w-n : goal.returns-then-w-n
returns-then-w-n c = word_all c.if-w-n.true

pub returns-then-w-n-2 : goal.returns-then-w-n-2
returns-then-w-n-2 c = word_some c.if-w-n-2.true (omega (arith, c.if-w-n.false))

pub returns : goal.returns
returns c = word_none (omega (arith, c.if-w-n-2.false))
