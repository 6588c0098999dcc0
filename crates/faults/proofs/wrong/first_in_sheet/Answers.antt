use native.Mathlib.Omega.{arith}
use Rattle.model.proofs.Firsts.{first_of_same, none_empty}
use Rattle.rows.specs.Rows.{blocks_of}
use Rattle.rows.proofs.Bounds.{over_wrong}
use Rattle.faults.proofs.wrong.first_in_sheet.Goals as goal

pub returns-then-rows-eq0 : goal.returns-then-rows-eq0
unfolding blocks_of
returns-then-rows-eq0 c = none_empty (omega arith)

pub returns : goal.returns
returns c = let m = c.bounds_of.result in
    let sheet = c.args.sheet.now in
    first_of_same c.first_over.result (λ q p l. over_wrong sheet.book.now sheet.number m.w m.x m.y m.z m.k q sheet.there (rw c.head.ensures at c.bounds_of.ensures) l) c.first_over.ensures
