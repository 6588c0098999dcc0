use mathlib.Core.Path.{◌∙◌, refl, sym}
use native.Mathlib.Omega.{arith}
use lib.Pow.{pow-lt}
use borrow.Author.Tests.{eq-eqb, ne_eqb}
use Rattle.cells.proofs.Walks.{shifted_one}
use Rattle.engine.specs.Worklists.{touches, waits_bit}
use Rattle.engine.proofs.worklist.waits.Goals as goal

pub returns-then-columns-lost-eq0 : goal.returns-then-columns-lost-eq0
unfolding waits_bit touches
returns-then-columns-lost-eq0 c = (rw (eq-eqb _ _ c.if-columns-lost-eq0.true) refl, omega arith)

pub returns-else-columns-lost-eq0 : goal.returns-else-columns-lost-eq0
unfolding waits_bit touches
returns-else-columns-lost-eq0 c = let e = shifted_one 32 c.args.f (omega (arith, c.requires)) in (e ∙ sym (rw (ne_eqb _ _ c.if-columns-lost-eq0.false) refl), rw e (pow-lt c.requires))
