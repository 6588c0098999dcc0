use mathlib.Core.Path.{◌≡◌}
use mathlib.Core.Bool.{true}
use Prim.Native.Nat.{ℕ}
use lib.ListN.{get_or}
use Rattle.model.specs.Masks.{bit}
use Rattle.cover.specs.Covers.{allowed_with}
use Rattle.cover.proofs.Covers.{Tried}
use Rattle.cover.proofs.test.allows_with.Given as goal

abbrev pub invariant-loop-e : goal.invariant-loop-e
invariant-loop-e l = Tried (λ e. (a : ℕ) → bit a (get_or l.x 0 0) ≡ true → bit a (allowed_with l.table l.c e) ≡ true) (get_or l.x 1 0) l.e-iterator.left
