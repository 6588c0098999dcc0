use mathlib.Core.Path.{◌∙◌, ◌≡◌}
use Prim.Native.Nat.{◌*◌, ◌+◌}
use native.Mathlib.Omega.{arith}
use borrow.Author.Rules.{rules}
use borrow.Author.Tests.{lt-ltb}
use Rattle.cells.proofs.Collects.{of_none, of_row, run_more, run_none}
use Rattle.counters.proofs.Ones.{low_ones}
use Rattle.cells.proofs.Stretches.{row_sets, set_row, stands_at}
use Rattle.cells.proofs.walk.gathered_run.Goals as goal

pub loop-i-init : goal.loop-i-init
loop-i-init c = (of_none _ _ run_none, c.requires.1)

pub at_near-requires : goal.at_near-requires
at_near-requires c = let z = set_row c.requires.0 _ (low_ones c.args.n _ ∙ lt-ltb _ c.args.n c.loop-i-test.true) in
    (z.1, z.0, search (rules, z))

pub add_row-requires : goal.add_row-requires
add_row-requires c = let z = set_row c.requires.0 _ (low_ones c.args.n _ ∙ lt-ltb _ c.args.n c.loop-i-test.true) in
    (omega (arith, z, stands_at c.args.p c.at_near.result _ c.requires.0.first c.at_near.ensures, c.requires.0.first), c.loop-i.invariant.1)

pub loop-i-preserved : goal.loop-i-preserved
loop-i-preserved c = let at = stands_at c.args.p c.at_near.result _ c.requires.0.first c.at_near.ensures in
    (of_row _ _ (run_more _) c.loop-i.invariant.0 (row_sets c.args.p.begin (64 * c.args.p.word + c.loop-i.i) at c.add_row.ensures.0), c.add_row.ensures.1)

pub returns : goal.returns
returns c = let e : c.loop-i.i ≡ c.args.n = omega (arith, c.loop-i-test.false, c.loop-i.auto) in
    (rw e at c.loop-i.invariant.0, c.loop-i.invariant.1)
