use Rattle.heads.specs.Blocks.{word}
use Rattle.rows.specs.Bounds.{Joins}
use Rattle.rows.proofs.row.joined.Given as goal

abbrev pub invariant-loop-i : goal.invariant-loop-i
invariant-loop-i g l = Joins (λ r. goal.F-post g l.f (word l.b.bytes.now r)) l.i l.seen
