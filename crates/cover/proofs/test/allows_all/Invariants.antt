use mathlib.Core.Path.{◌≡◌}
use mathlib.Core.Bool.{true}
use Prim.Native.Nat.{ℕ}
use lib.ListN.{get_or}
use Rattle.model.specs.Masks.{bit}
use Rattle.cover.specs.Covers.{allowed_with}
use Rattle.cover.proofs.Covers.{Tried}
use Rattle.cover.proofs.test.allows_all.Given as goal

abbrev pub invariant-loop-c : goal.invariant-loop-c
invariant-loop-c l = Tried (λ c. (e : ℕ) → bit e (get_or l.x 1 0) ≡ true → (a : ℕ) → bit a (get_or l.x 0 0) ≡ true → bit a (allowed_with l.table c e) ≡ true) (get_or l.x 2 0) l.c-iterator.left
