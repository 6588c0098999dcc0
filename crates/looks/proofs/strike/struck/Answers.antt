use borrow.Author.Rules.{rules}
use native.Mathlib.Omega.{arith}
use Rattle.looks.proofs.Strikes.{struck_all, struck_some}
use Rattle.looks.proofs.strike.struck.Goals as goal

pub returns-then-e-d : goal.returns-then-e-d
returns-then-e-d c = struck_some _ _ c.args.sheet.now.at (record { columns = c.told-dom; bits = c.fits-dom }) c.column-c.ensures.0 (omega (arith, c.if-j-width.true, c.width.ensures.0)) (search rules)

pub returns-else-e-d : goal.returns-else-e-d
returns-else-e-d c = struck_all _ _ c.args.sheet.now.at (record { columns = c.told-dom; bits = c.fits-dom }) c.column-c.ensures.0 (search rules)
