use mathlib.Core.Path.{◌≡◌}
use mathlib.Core.Bool.{false, true}
use mathlib.Core.List.{List}
use Prim.Native.Nat.{◌*◌, ◌+◌, ◌-◌, ◌<◌, ◌^◌, ℕ}
use native.Mathlib.Omega.{arith}
use lib.Bits.{bit_and, bit_or}
use lib.ListN.{get_or}
use Rattle.model.specs.Masks.{bit}
use Rattle.model.proofs.Masks.{bit_below, bit_pow, bit_pow_only, ones32}
use Rattle.cover.specs.Covers.{IsTable, allowed_with}
use Rattle.cover.proofs.Covers.{all_allowed, allowed_small, none_outside, not_allowed, some_outside, tried_all, tried_turn}
use Rattle.cover.proofs.test.allows_with.Goals as goal

-- what the code tests
outside : (T x : List ℕ) (c e : ℕ) → get_or x 0 0 < 2 ^ 32 → IsTable T
    → (bit_and (get_or x 0 0) (ones32 - bit_or (bit_or (bit_or (get_or T 1088 0) (get_or T (33 * c + 32) 0)) (get_or T (1056 + e) 0)) (get_or T (33 * c + e) 0)) ≡ 0 → ⊥)
    → (a : ℕ) × (bit a (get_or x 0 0) ≡ true) × (bit a (allowed_with T c e) ≡ false)
unfolding allowed_with
outside T x c e l h n = some_outside (get_or x 0 0) (allowed_with T c e) l (allowed_small T c e h) n

inside : (T x : List ℕ) (c e : ℕ) → get_or x 0 0 < 2 ^ 32 → IsTable T
    → bit_and (get_or x 0 0) (ones32 - bit_or (bit_or (bit_or (get_or T 1088 0) (get_or T (33 * c + 32) 0)) (get_or T (1056 + e) 0)) (get_or T (33 * c + e) 0)) ≡ 0
    → (a : ℕ) → bit a (get_or x 0 0) ≡ true → bit a (allowed_with T c e) ≡ true
unfolding allowed_with
inside T x c e l h z = none_outside (get_or x 0 0) (allowed_with T c e) l (allowed_small T c e h) z

pub bounds-table-e : goal.bounds-table-e
bounds-table-e c = omega (arith, bit_below 32 _ _ (c.fits-x 1) (c.loop-e.invariant.part.at _ c.in-Some.ensures.steps.cleared.here))

pub returns-then-wanted-any-ne0 : goal.returns-then-wanted-any-ne0
returns-then-wanted-any-ne0 c =
    let q = c.loop-e.invariant.part.at _ c.in-Some.ensures.steps.cleared.here in
    let r = outside c.args.table.now c.args.x.now c.args.c c.in-Some.e (c.fits-x 0) (record { size = c.told-table; fits = c.fits-table }) c.if-wanted-any-ne0.true in
    not_allowed r.0 c.in-Some.e c.args.c r.1 q (bit_pow c.args.c) r.2

pub loop-e-preserved : goal.loop-e-preserved
loop-e-preserved c = tried_turn c.loop-e.invariant c.in-Some.ensures.steps.cleared
    (inside c.args.table.now c.args.x.now c.args.c c.in-Some.e (c.fits-x 0) (record { size = c.told-table; fits = c.fits-table }) c.if-wanted-any-ne0.false)

pub returns : goal.returns
returns c = all_allowed (λ d p e q a r. rw (bit_pow_only c.args.c d p) (tried_all c.in-None.ensures.steps.0 c.loop-e.invariant e q a r))
