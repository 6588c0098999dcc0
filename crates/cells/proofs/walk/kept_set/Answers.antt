use mathlib.Core.Path.{◌∙◌}
use native.Mathlib.Omega.{arith}
use borrow.Author.Rules.{rules}
use Rattle.cells.proofs.Stretches.{row_cell, stands_at, turn_row}
use Rattle.cells.proofs.Walks.{all_left, cell_in_lem, kept_end, part_cleared, walked_start, walked_turn, whole}
use Rattle.cells.proofs.walk.kept_set.Goals as goal

pub loop-i-init : goal.loop-i-init
loop-i-init g c = rw (all_left _ _ c.into_iter-i-iterator.ensures.into_iter_gives c.of-i-items.ensures) (walked_start _ _, whole _)

pub on-requires : goal.on-requires
on-requires g c = let z = turn_row c.requires.1 c.loop-i.invariant.1 c.in-Some.ensures.steps in
    (z.0, z.1, search (rules, z))

pub overflow_add-at : goal.overflow_add-at
overflow_add-at g c = let z = turn_row c.requires.1 c.loop-i.invariant.1 c.in-Some.ensures.steps in
    let at = stands_at c.args.p c.on.result c.in-Some.i c.requires.1.first c.on.ensures in
    search (rules, z, at, c.requires.0, c.requires.1.first)

pub bounds-book-at : goal.bounds-book-at
bounds-book-at g c = let z = turn_row c.requires.1 c.loop-i.invariant.1 c.in-Some.ensures.steps in
    let at = stands_at c.args.p c.on.result c.in-Some.i c.requires.1.first c.on.ensures in
    omega (arith, z, at, c.requires.0, c.requires.1.first)

pub loop-i-preserved : goal.loop-i-preserved
loop-i-preserved g c = let t = c.in-Some.ensures.steps in
    let at = stands_at c.args.p c.on.result c.in-Some.i c.requires.1.first c.on.ensures in
    (walked_turn c.loop-i.invariant.0 t.cleared c.has.ensures.1 t.few (cell_in_lem _ _ _ _ _ _ _ _ (c.from-v.ensures ∙ row_cell c.args.book.now _ _ _ at) c.has.ensures.0), part_cleared t.cleared c.loop-i.invariant.1)

pub returns : goal.returns
returns g c = kept_end (rw c.in-None.ensures.steps.0 at c.loop-i.invariant.0)
