use mathlib.Core.Path.{sym}
use native.Mathlib.Omega.{arith}
use Rattle.cover.proofs.Tables.{slot_any, slot_value}
use Rattle.cover.proofs.table.slot_of.Goals as goal

pub returns-then-x-lt32 : goal.returns-then-x-lt32
returns-then-x-lt32 c = let e = slot_value c.args.x c.if-x-lt32.true in (omega (arith, e, c.from.ensures), omega (arith, c.from.ensures, c.if-x-lt32.true))

pub returns : goal.returns
returns c = (sym (slot_any c.args.x (omega (arith, c.if-x-lt32.false))), omega arith)
