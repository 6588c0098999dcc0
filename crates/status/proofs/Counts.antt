-- Laws of masks and counts that are gathered place by place, and of a list of which some element passes. Assumes nothing.
use mathlib.Core.Path.{◌∙◌, ◌≡◌, ap, refl, sym}
use mathlib.Core.Bool.{Bool, ◌||◌, cond, false, or-false, true}
use mathlib.Core.Logic.{◌⊎◌, inl, inr}
use mathlib.Core.List.{List, [], ◌∷◌}
use Prim.Native.Nat.{◌+◌, ◌<◌, ◌^◌, ◌≤◌, ℕ}
use native.Mathlib.Numerals.{add-one}
use native.Mathlib.Omega.{arith}
use lib.Bits.{bit_or, or_lt, or_zero_r}
use lib.ListN.{get_or, length}
use lib.Pow.{pow-lt}
use Rattle.std.specs.List.{list_any}
use Rattle.model.specs.Masks.{bit, mask_of}
use Rattle.model.specs.Tests.{any_below, count, one_if}
use Rattle.model.proofs.Masks.{bit-mask_of, bit-mask_of_out, bit_of_zero, bit-or, bit_pow, bit_pow_other, mask_ext, mask_of_lt}
use Rattle.model.proofs.Tallies.{count_last}
use Rattle.model.proofs.Tests.{below, either}

-- ---- a mask, one place more
pub mask_none : (f : ℕ → Bool) → mask_of 0 f ≡ 0
unfolding mask_of
mask_none f = refl

pub mask_more : {m w : ℕ} (n : ℕ) (f : ℕ → Bool) → m ≡ mask_of n f → w ≡ cond (f n) (2 ^ n) 0 → bit_or m w ≡ mask_of (n + 1) f
mask_more {m} {w} n f e g =
    mask_ext (n + 1) (bit_or m w) (mask_of (n + 1) f) (or_lt (n + 1) m w small_m small_w) (mask_of_lt (n + 1) f)
    (λ v l. bit-or v m w ∙ at v l (below v n) (either (f n)) ∙ sym (bit-mask_of (n + 1) f v l))
  where
    grows : 2 ^ n < 2 ^ (n + 1)
    grows = pow-lt (omega arith)

    small_m : m < 2 ^ (n + 1)
    small_m = omega (arith, mask_of_lt n f, grows)

    pick : (f n ≡ true) ⊎ (f n ≡ false) → (w ≡ 2 ^ n) ⊎ (w ≡ 0)
    pick (inl p) = inl (g ∙ rw p refl)
    pick (inr p) = inr (g ∙ rw p refl)

    bounded : (w ≡ 2 ^ n) ⊎ (w ≡ 0) → w < 2 ^ (n + 1)
    bounded (inl p) = rw p grows
    bounded (inr p) = omega (arith, grows)

    small_w : w < 2 ^ (n + 1)
    small_w = bounded (pick (either (f n)))

    at : (v : ℕ) → v < n + 1 → (v < n) ⊎ (n ≤ v) → (f n ≡ true) ⊎ (f n ≡ false) → (bit v m || bit v w) ≡ f v
    at v l (inl p) (inl q) =
        rw (e, g, q, bit-mask_of n f v p, bit_pow_other n v (λ z. omega arith)) (or-false (f v))
    at v l (inl p) (inr q) = rw (e, g, q, bit-mask_of n f v p, bit_of_zero v) (or-false (f v))
    at v l (inr p) (inl q) =
        let z : v ≡ n = omega arith in rw (z, e, g, q, bit-mask_of_out n f n (omega arith), bit_pow n) refl
    at v l (inr p) (inr q) =
        let z : v ≡ n = omega arith in rw (z, e, g, q, bit-mask_of_out n f n (omega arith), bit_of_zero n) refl

pub mask_less : {m : ℕ} (n : ℕ) (f : ℕ → Bool) → m ≡ mask_of n f → f n ≡ false → m ≡ mask_of (n + 1) f
mask_less {m} n f e g = sym (or_zero_r m) ∙ mask_more n f e (sym (rw g refl))

-- ---- some element passes
any_listed : (p : ℕ → Bool) (xs : List ℕ) → list_any p xs ≡ any_below (length xs) (λ i. p (get_or xs i 0))
unfolding any_below
any_listed p [] = refl
any_listed p (x ∷ xs) = ap (λ (t : Bool). p x || t) (any_listed p xs)

pub any_of_list : {r : Bool} {n : ℕ} (p : ℕ → Bool) (xs : List ℕ) → r ≡ list_any p xs → length xs ≡ n → any_below n (λ i. p (get_or xs i 0)) ≡ r
any_of_list {r} {n} p xs e l = sym (rw l at (e ∙ any_listed p xs))

-- ---- a count, one place more
pub one_more : {n : ℕ} (j : ℕ) (f : ℕ → Bool) → n ≡ count j f → f j ≡ true → n + 1 ≡ count (j + 1) f
one_more j f e t = rw (add-one j) (omega (arith, e, count_last j f, ap one_if t))

pub one_less : {n : ℕ} (j : ℕ) (f : ℕ → Bool) → n ≡ count j f → f j ≡ false → n ≡ count (j + 1) f
one_less j f e t = rw (add-one j) (omega (arith, e, count_last j f, ap one_if t))
