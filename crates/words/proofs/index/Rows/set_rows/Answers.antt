use mathlib.Core.Path.{refl}
use native.Mathlib.Omega.{arith}
use lib.Count.{ones-le}
use Rattle.words.specs.Sheets.{rows_to}
use Rattle.words.proofs.Indexes.{rows_next}
use Rattle.words.proofs.index.Rows.set_rows.Goals as goal

pub loop-p-init : goal.loop-p-init
unfolding rows_to
loop-p-init c = (refl, omega arith)

pub overflow_add-rows : goal.overflow_add-rows
overflow_add-rows c = omega (arith, ones-le 64 c.word-word.result.1 (omega arith), c.requires.1.few)

pub loop-p-preserved : goal.loop-p-preserved
loop-p-preserved c = (
  rw c.word-word.ensures.1 (rows_next _ _ _ c.loop-p.p c.word-word.ensures.0 c.loop-p.invariant.0),
  omega (arith, ones-le 64 c.word-word.result.1 (omega arith)),
)
