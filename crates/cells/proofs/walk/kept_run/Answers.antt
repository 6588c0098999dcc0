use mathlib.Core.Path.{◌∙◌, ◌≡◌, ap}
use Prim.Native.Nat.{◌%◌, ◌*◌, ◌+◌, ℕ}
use native.Mathlib.Omega.{arith}
use borrow.Author.Rules.{rules}
use borrow.Author.Tests.{lt-ltb}
use Rattle.cells.proofs.Halves.{run_start, run_turn}
use Rattle.counters.proofs.Ones.{low_ones}
use Rattle.cells.proofs.Stretches.{row_cell, set_row, stands_at}
use Rattle.cells.proofs.walk.kept_run.Goals as goal

pub loop-k-init : goal.loop-k-init
loop-k-init c = run_start _ _ _ _ _

pub at_near-requires : goal.at_near-requires
at_near-requires c = let i = c.args.from + c.loop-k.k in
    let z = set_row c.requires.3 i (low_ones 60 i ∙ lt-ltb i 60 (omega (arith, c.requires.2, c.loop-k-test.true))) in
    (z.1, z.0, search (rules, z))

pub row_from-x-requires : goal.row_from-x-requires
row_from-x-requires c = let i = c.args.from + c.loop-k.k in
    let z = set_row c.requires.3 i (low_ones 60 i ∙ lt-ltb i 60 (omega (arith, c.requires.2, c.loop-k-test.true))) in
    let at = stands_at c.args.p c.at_near.result i c.requires.3.first c.at_near.ensures in
    (omega (arith, z, at, c.requires.3.first), c.requires.0)

pub loop-k-preserved : goal.loop-k-preserved
loop-k-preserved c = let p = c.args.p in
    let at = stands_at p c.at_near.result (c.args.from + c.loop-k.k) c.requires.3.first c.at_near.ensures in
    let z : 64 * p.word + (c.args.from + c.loop-k.k) ≡ 64 * p.word + c.args.from + c.loop-k.k = omega arith in
    let e = c.row_from-x.ensures ∙ ap (λ (y : ℕ). y % 64) (row_cell c.args.book.now p.begin _ c.args.j (rw z at at)) in
    rw c.with_place-keep.ensures (run_turn c.half_for.result c.row_from-x.result c.loop-k.invariant e c.half_for.ensures)
