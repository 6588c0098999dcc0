use mathlib.Core.Path.{refl}
use borrow.Author.Rules.{rules}
use Rattle.cells.proofs.Collects.{run_of}
use Rattle.cells.proofs.walk.run_of.Goals as goal

pub overflow_cast-result : goal.overflow_cast-result
overflow_cast-result c = let z = (run_of c.args.word _ c.ranges.word.fits refl).0 in search (rules, z)

pub returns : goal.returns
returns c = run_of c.args.word _ c.ranges.word.fits refl
