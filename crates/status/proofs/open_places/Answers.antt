use mathlib.Core.Path.{◌∙◌, ◌≡◌, refl}
use Prim.Native.Nat.{◌≤◌}
use native.Mathlib.Omega.{arith}
use lib.ListN.{get_or}
use borrow.Author.Tests.{le-ltb, lt-ltb}
use Rattle.model.specs.Tests.{count, sum}
use Rattle.model.proofs.Tallies.{count_most}
use Rattle.heads.specs.Heads.{column_of, width_of}
use Rattle.status.specs.Status.{is_many}
use Rattle.status.proofs.Counts.{one_more, one_less}
use Rattle.status.proofs.open_places.Goals as goal
use Rattle.status.proofs.open_places.Goals.{then-sizes-column-gt1, else-sizes-column-gt1}

pub loop-j-init : goal.loop-j-init
unfolding count sum
loop-j-init c = refl

pub overflow_add-open : goal.overflow_add-open
overflow_add-open c =
    omega (arith, c.loop-j.invariant, count_most c.loop-j.j (λ j. is_many c.args.sizes.now (column_of c.args.sheet.now.book.now c.args.sheet.now.number j)))

pub loop-j-preserved : goal.loop-j-preserved
loop-j-preserved c =
    let Z = c.args.sizes.now in
    let l = c.loop-j in
    let e = c.column.ensures.0 in
    elim c.if-sizes-column-gt1.branch [
      | then-sizes-column-gt1 w ↦ w.open-is ∙ one_more l.j _ l.invariant (lt-ltb 1 _ (rw e at w.if-sizes-column-gt1.true))
      | else-sizes-column-gt1 w ↦
          let few : get_or Z c.column.result 0 ≤ 1 = omega (arith, w.if-sizes-column-gt1.false) in
          w.open-is ∙ one_less l.j _ l.invariant (le-ltb 1 _ (rw e at few))
    ]

pub returns : goal.returns
returns c =
    let end : c.loop-j.j ≡ width_of c.args.sheet.now.book.now c.args.sheet.now.number = omega arith in rw end at c.loop-j.invariant
