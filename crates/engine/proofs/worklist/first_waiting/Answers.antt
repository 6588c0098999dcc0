use mathlib.Core.Path.{refl}
use native.Mathlib.Omega.{arith}
use borrow.Author.Rules.{rules}
use Rattle.model.proofs.Masks.{bit_below, cleared, lowest_lt}
use Rattle.engine.proofs.worklist.first_waiting.Goals as goal

pub overflow_cast-result : goal.overflow_cast-result
overflow_cast-result c = let l = lowest_lt 32 c.args.waiting c.requires.0 (omega arith) in search (rules, l)

pub returns : goal.returns
returns c = (refl, bit_below 8 c.args.waiting _ c.requires.1 (cleared 32 c.args.waiting c.requires.0 (omega arith)).here, (cleared 32 c.args.waiting c.requires.0 (omega arith)).here)
