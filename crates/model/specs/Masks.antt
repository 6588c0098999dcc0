-- A mask: a number read as the set of the places of its binary digits that are 1.
use Rattle.std.specs.Prelude.{◌≡◌, Bool, true, false, ℕ, zero, suc, ◌+◌, ◌*◌, ◌/◌, ◌%◌, ◌^◌, eqb}
use Rattle.model.specs.Tests.{one_if, count}

-- "shown as 32 bits, bit v for value v": place v of the mask m is set
unfoldable pub bit : ℕ → ℕ → Bool
bit v m = eqb (m / 2 ^ v % 2) 1

-- the mask of the places below k that pass a test
unfoldable pub mask_of : ℕ → (ℕ → Bool) → ℕ
mask_of zero f = 0
mask_of (suc k) f = one_if (f 0) + 2 * mask_of k (λ v. f (suc v))

-- how many of the 32 places are set
abbrev pub size : ℕ → ℕ
size m = count 32 (λ v. bit v m)

-- y is x without the place t, which x has
pub record Cleared (x y t : ℕ) : Type 0 where
  pub here : bit t x ≡ true
  pub gone : bit t y ≡ false
  pub rest : (i : ℕ) → (i ≡ t → ⊥) → bit i y ≡ bit i x
