use Rattle.cells.proofs.Collects.{passed_start}
use Rattle.cells.proofs.Stretches.{stands_at}
use Rattle.cells.proofs.Walks.{all_left, whole}
use Rattle.cover.proofs.Tables.{all_tabled, row_tabled, tabled_none}
use Rattle.cover.proofs.table.put_set.Goals as goal

pub loop-i-init : goal.loop-i-init
loop-i-init g c = rw (all_left _ _ c.into_iter-i-iterator.ensures.into_iter_gives c.of-i-items.ensures) (tabled_none (record { size = c.told-table; fits = c.fits-table }) (passed_start _), whole _)

pub loop-i-preserved : goal.loop-i-preserved
loop-i-preserved g c = let inv = c.loop-i.invariant in
    let at = stands_at c.args.p c.on.result c.in-Some.i c.requires.0.first c.on.ensures in
    row_tabled c.args.book.now c.args.p.begin _ c.in-Some.i at inv.1 c.in-Some.ensures.steps.cleared inv.0 c.put_row.ensures

pub returns : goal.returns
returns g c = all_tabled c.args.word c.in-None.ensures.steps.0 c.loop-i.invariant.0
