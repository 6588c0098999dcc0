-- Laws of what a field must not be: out of its range, or not zero. Assumes nothing.
use Rattle.std.proofs.Common.{◌≡◌, ℕ, ◌<◌, ◌≤◌, true, false, not, ◌||◌, eqb, ltb, leb, ◌⊎◌, sym, ◌∙◌, inl, inr, arith, ltb-false, eq-eqb, ne_eqb, eqb-true, le-leb}
use mathlib.Core.Bool.{false≢true}
use lib.Bits.{bit_or, or_add_and, and_le_l, and_le_r}
use borrow.Author.Tests.{eqb-false, lt-leb}
use Rattle.model.proofs.Tests.{below, either}
use Rattle.heads.specs.Limits.{out_of_range}

-- a byte joined to x leaves something exactly when one of the two is not zero
pub or_set : (x y : ℕ) → (not (eqb x 0) || not (eqb y 0)) ≡ not (eqb (bit_or x y) 0)
or_set x y = go (either (eqb x 0))
  where
    go : (eqb x 0 ≡ true) ⊎ (eqb x 0 ≡ false) → (not (eqb x 0) || not (eqb y 0)) ≡ not (eqb (bit_or x y) 0)
    go (inl e) = let z : bit_or x y ≡ y = omega (arith, or_add_and x y, and_le_l x y, eqb-true x 0 e) in rw (e, z)
    go (inr e) = rw (e, ne_eqb (bit_or x y) 0 (λ z. eqb-false x 0 e (omega (arith, or_add_and x y, and_le_r x y))))

-- a number in range
pub in_range : (lo hi x : ℕ) → out_of_range lo hi x ≡ false → (lo ≤ x) × (x ≤ hi)
in_range lo hi x e = go (either (ltb x lo))
  where
    go : (ltb x lo ≡ true) ⊎ (ltb x lo ≡ false) → (lo ≤ x) × (x ≤ hi)
    go (inl p) = absurd (false≢true (sym e ∙ rw p))
    go (inr p) = let k : ltb hi x ≡ false = rw p at e in (ltb-false x lo p, ltb-false hi x k)

-- not zero: at least 1
pub set_leb : (x : ℕ) → not (eqb x 0) ≡ leb 1 x
set_leb x = go (below x 1)
  where
    go : (x < 1) ⊎ (1 ≤ x) → not (eqb x 0) ≡ leb 1 x
    go (inl p) = rw (eq-eqb x 0 (omega arith), lt-leb 1 x p)
    go (inr p) = rw (ne_eqb x 0 (λ z. omega arith), le-leb 1 x p)
