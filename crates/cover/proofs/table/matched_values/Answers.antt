use mathlib.Core.Path.{◌∙◌, ap}
use Prim.Native.Nat.{◌^◌, ℕ}
use native.Mathlib.Omega.{arith}
use Rattle.cover.proofs.Tables.{any_matched, value_matched}
use Rattle.cover.proofs.table.matched_values.Goals as goal

pub returns-then-x-lt32 : goal.returns-then-x-lt32
returns-then-x-lt32 c = value_matched c.args.x _ c.if-x-lt32.true (c.only.ensures ∙ ap (λ (v : ℕ). 2 ^ v) c.from.ensures)

pub returns : goal.returns
returns c = any_matched c.args.x c.requires (omega (arith, c.if-x-lt32.false))
