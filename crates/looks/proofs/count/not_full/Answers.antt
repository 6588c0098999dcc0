use native.Mathlib.Omega.{arith}
use Rattle.cells.proofs.Walks.{all_left, part_cleared, whole}
use Rattle.looks.proofs.Counts.{keeping_end, keeping_start, keeping_turn, value_left}
use Rattle.looks.proofs.count.not_full.Goals as goal

pub loop-v-init : goal.loop-v-init
loop-v-init c = rw (all_left _ _ c.into_iter-v-iterator.ensures.into_iter_gives c.of-v-items.ensures) (keeping_start _ _ _ _, whole _)

pub bounds-counts-j : goal.bounds-counts-j
bounds-counts-j c = omega (arith, value_left c.ranges.d.fits c.loop-v.invariant.1 c.in-Some.ensures.steps.cleared, c.requires)

pub with_value-keep-requires : goal.with_value-keep-requires
with_value-keep-requires c = value_left c.ranges.d.fits c.loop-v.invariant.1 c.in-Some.ensures.steps.cleared

pub loop-v-preserved : goal.loop-v-preserved
loop-v-preserved c = let z = c.in-Some.ensures.steps.cleared in
    (keeping_turn c.loop-v.invariant.0 c.loop-v.invariant.1 z c.with_value-keep.ensures, part_cleared z c.loop-v.invariant.1)

pub returns : goal.returns
returns c = keeping_end (rw c.in-None.ensures.steps.0 at c.loop-v.invariant.0)
