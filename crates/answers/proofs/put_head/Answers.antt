use native.Mathlib.Omega.{arith}
use Rattle.answers.proofs.Answers.{head_stored}
use Rattle.answers.proofs.put_head.Goals as goal

pub returns : goal.returns
returns c = head_stored c.args.out.now c.args.a.tries (omega (arith, c.requires)) (omega arith) (omega arith) (omega arith) (omega arith) (omega arith) c.put_half.ensures
