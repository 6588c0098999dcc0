use native.Mathlib.Omega.{arith}
use Rattle.fields.proofs.Bytes.{over_same, part_over}
use Rattle.answers.proofs.write.Goals as goal

pub returns : goal.returns
returns c = let h = c.put_answer.auto.out in
    rw part_over (over_same _ (omega arith) c.put_answer.ensures)
