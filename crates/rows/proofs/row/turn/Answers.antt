use Rattle.std.proofs.Common.{arith}
use lib.Bits.{and_le_r}
use Rattle.rows.proofs.Words.{turn_word}
use Rattle.rows.proofs.row.turn.Goals as goal

pub overflow_add-result : goal.overflow_add-result
overflow_add-result c = let t = c.requires in omega (arith, and_le_r c.args.v 2139062143, t.first, t.second, t.third, t.last)

pub returns : goal.returns
returns c = turn_word c.args.v c.args.o _ _ (omega arith) (omega arith) (omega arith) c.requires
