use mathlib.Core.Path.{◌∙◌, ap, sym}
use Prim.Native.Nat.{ℕ}
use native.Mathlib.Omega.{arith}
use lib.Dec.{ltb}
use Rattle.model.specs.Masks.{size}
use Rattle.model.proofs.Masks.{size_many, size_zero}
use Rattle.cells.proofs.bits.two_or_more.Goals as goal

pub returns-then-d-eq0 : goal.returns-then-d-eq0
returns-then-d-eq0 c = sym (ap (λ (x : ℕ). ltb 1 (size x)) c.if-d-eq0.true ∙ ap (ltb 1) size_zero)

pub returns : goal.returns
returns c = sym (size_many c.args.d (omega (arith, c.if-d-eq0.false)) c.ranges.d.fits)
