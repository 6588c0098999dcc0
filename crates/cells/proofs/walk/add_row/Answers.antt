use mathlib.Core.Path.{◌∙◌, ap}
use Prim.Native.Nat.{◌%◌, ◌^◌, ℕ}
use native.Mathlib.Omega.{arith}
use Rattle.cells.proofs.Collects.{none_added, place_added}
use Rattle.cells.proofs.walk.add_row.Goals as goal

pub loop-j-init : goal.loop-j-init
loop-j-init c = none_added _ _ c.requires.1

pub loop-j-preserved : goal.loop-j-preserved
loop-j-preserved c = place_added c.loop-j.invariant c.loop-j-test.true c.only.type_inv (c.only.ensures ∙ ap (λ (x : ℕ). 2 ^ (x % 32)) c.from.ensures)

pub returns : goal.returns
returns c = (record { each = λ j l. c.loop-j.invariant.done j (omega (arith, c.loop-j-test.false)) }, c.loop-j.invariant.small)
