use Prim.Native.Nat.{◌*◌, ◌+◌}
use native.Mathlib.Omega.{arith}
use borrow.Author.Rules.{rules}
use Rattle.cells.proofs.Collects.{of_all, of_none, of_turn, passed_start}
use Rattle.cells.proofs.Stretches.{row_sets, stands_at, turn_row}
use Rattle.cells.proofs.Walks.{all_left, whole}
use Rattle.cells.proofs.walk.gathered_set.Goals as goal

pub loop-i-init : goal.loop-i-init
loop-i-init g c = rw (all_left _ _ c.into_iter-i-iterator.ensures.into_iter_gives c.of-i-items.ensures) (of_none _ _ (passed_start _), whole _, c.requires.1)

pub on-requires : goal.on-requires
on-requires g c = let z = turn_row c.requires.0 c.loop-i.invariant.1 c.in-Some.ensures.steps in
    (z.0, z.1, search (rules, z))

pub add_row-requires : goal.add_row-requires
add_row-requires g c = let z = turn_row c.requires.0 c.loop-i.invariant.1 c.in-Some.ensures.steps in
    (omega (arith, z, stands_at c.args.p c.on.result c.in-Some.i c.requires.0.first c.on.ensures, c.requires.0.first), c.loop-i.invariant.2)

pub loop-i-preserved : goal.loop-i-preserved
loop-i-preserved g c = let at = stands_at c.args.p c.on.result c.in-Some.i c.requires.0.first c.on.ensures in
    let t = of_turn _ c.loop-i.invariant.1 c.in-Some.ensures.steps.cleared c.loop-i.invariant.0 (row_sets c.args.p.begin (64 * c.args.p.word + c.in-Some.i) at c.add_row.ensures.0) in
    (t.0, t.1, c.add_row.ensures.1)

pub returns : goal.returns
returns g c = (of_all _ c.args.word c.in-None.ensures.steps.0 c.loop-i.invariant.0, c.loop-i.invariant.2)
