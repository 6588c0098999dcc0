use native.Mathlib.Omega.{arith}
use Rattle.model.proofs.Firsts.{none_empty}
use Rattle.rows.specs.Rows.{blocks_of}
use Rattle.faults.proofs.Doubts.{clears}
use Rattle.faults.proofs.doubt.in_doubt.Goals as goal

pub returns-then-rows-eq0 : goal.returns-then-rows-eq0
unfolding blocks_of
returns-then-rows-eq0 c = record { none = λ e. none_empty (omega arith) }

pub returns : goal.returns
returns c = let m = c.bounds_of-m.result in
    let sheet = c.args.sheet.now in
    rw c.is_some.ensures (clears sheet.book.now sheet.number m.w m.x m.y m.z m.k c.first_over.result sheet.there (rw c.head.ensures at c.bounds_of-m.ensures) c.first_over.ensures)
