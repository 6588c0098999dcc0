use mathlib.Core.Path.{◌∙◌}
use native.Mathlib.Omega.{arith}
use borrow.Author.Rules.{rules}
use Rattle.cells.proofs.Halves.{inside_row}
use Rattle.cells.proofs.Stretches.{stands_at, turn_row}
use Rattle.cells.proofs.Walks.{all_left, part_cleared, walked_end, walked_start, walked_told, whole}
use Rattle.cells.proofs.walk.inside_rows.Goals as goal

pub loop-i-init : goal.loop-i-init
loop-i-init c = rw (all_left _ _ c.into_iter-i-iterator.ensures.into_iter_gives c.of-i-items.ensures) (walked_start _ _, whole _)

pub at_bit-requires : goal.at_bit-requires
at_bit-requires c = let z = turn_row c.requires c.loop-i.invariant.1 c.in-Some.ensures.steps in
    (z.1, search (rules, z))

pub inside-requires : goal.inside-requires
inside-requires c = let z = turn_row c.requires c.loop-i.invariant.1 c.in-Some.ensures.steps in
    omega (arith, z, stands_at c.args.p c.at_bit.result c.in-Some.i c.requires.first c.at_bit.ensures, c.requires.first)

pub loop-i-preserved : goal.loop-i-preserved
loop-i-preserved c = let t = c.in-Some.ensures.steps in
    let at = stands_at c.args.p c.at_bit.result c.in-Some.i c.requires.first c.at_bit.ensures in
    (walked_told c.loop-i.invariant.0 t.cleared t.few c.inside.result (c.inside.ensures ∙ inside_row c.args.book.now c.args.x.now c.args.p.begin _ at), part_cleared t.cleared c.loop-i.invariant.1)

pub returns : goal.returns
returns c = record { at = walked_end (rw c.in-None.ensures.steps.0 at c.loop-i.invariant.0) }
