use mathlib.Core.Path.{ap}
use Prim.Native.Nat.{◌%◌, ◌*◌, ◌+◌, ℕ}
use Rattle.cells.proofs.Stretches.{row_cell, stands_at}
use Rattle.tally.proofs.Tallies.{cell_bytes, cells_counted, counting_end, counting_most, counting_turn, row_of_width}
use Rattle.cells.proofs.Walks.{part_cleared}
use Rattle.tally.proofs.count_set.Goals as goal

pub count_row-requires : goal.count_row-requires
count_row-requires g c = let e = c.loop-i.invariant.1.at _ c.in-Some.ensures.steps.cleared.here in
    (cell_bytes _ c.requires.1 e (stands_at c.args.p c.on.result c.in-Some.i c.requires.0.first c.on.ensures), counting_most c.requires.2 c.loop-i.invariant.0, c.requires.4)

pub loop-i-preserved : goal.loop-i-preserved
loop-i-preserved g c = let t = c.in-Some.ensures.steps in
    let at = stands_at c.args.p c.on.result c.in-Some.i c.requires.0.first c.on.ensures in
    let cells = cells_counted (λ j. ap (λ (x : ℕ). x % 32) (row_cell c.args.book.now c.args.p.begin (64 * c.args.p.word + c.in-Some.i) j at)) (row_of_width c.requires.3 c.requires.4 c.count_row.ensures) in
    (counting_turn t.cleared t.few c.loop-i.invariant.0 cells, part_cleared t.cleared c.loop-i.invariant.1)

pub returns : goal.returns
returns g c = counting_end (rw c.in-None.ensures.steps.0 at c.loop-i.invariant.0)
