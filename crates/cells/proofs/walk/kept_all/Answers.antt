use mathlib.Core.Path.{◌≡◌}
use Prim.Native.Nat.{◌%◌, ◌*◌, ◌+◌, ◌/◌, ◌^◌}
use native.Mathlib.Omega.{arith}
use Rattle.cells.proofs.Halves.{run_end}
use Rattle.cells.proofs.walk.kept_all.Goals as goal

pub kept_run-first-requires : goal.kept_run-first-requires
kept_run-first-requires c = (c.requires.0, omega arith, omega arith, c.requires.1)

pub kept_run-second-requires : goal.kept_run-second-requires
kept_run-second-requires c = (c.requires.0, omega arith, omega arith, c.requires.1)

pub returns : goal.returns
returns c = let m = c.args.m in
    let e : m % 2 ^ 32 + 2 ^ 32 * (m / 2 ^ 32) ≡ m = omega arith in
    run_end (omega (arith, c.kept_run-second.type_inv)) (rw e at c.kept_run-first.ensures) (rw e at c.kept_run-second.ensures)
