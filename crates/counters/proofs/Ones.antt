-- Masks of all places, of those below a number, and what is not in a mask. Assumes nothing.
use mathlib.Core.Path.{◌∙◌, ◌≡◌, ap, sym}
use mathlib.Core.Bool.{not, true}
use mathlib.Core.Logic.{◌⊎◌, inl, inr}
use Prim.Native.Nat.{◌%◌, ◌+◌, ◌-◌, ◌/◌, ◌<◌, ◌^◌, ◌≤◌, suc, zero, ℕ}
use native.Mathlib.Nat.{pow-succ'}
use native.Mathlib.Omega.{arith}
use lib.Dec.{eqb, ltb}
use lib.Pow.{pow_pos, shr-shr}
use borrow.Author.Tests.{eq-eqb, le-ltb, lt-ltb, ne_eqb}
use Rattle.model.specs.Masks.{bit}
use Rattle.model.proofs.Masks.{bit_high, bit_of_zero, bit_suc, bit_zero}
use Rattle.model.proofs.Tests.{below}

pub complement : (k y v : ℕ) → y < 2 ^ k → v < k → bit v (2 ^ k - 1 - y) ≡ not (bit v y)
complement zero y v l h = absurd (omega arith)
complement (suc k) y zero l h =
    bit_zero (2 ^ suc k - 1 - y) ∙ digit (y % 2) ((2 ^ suc k - 1 - y) % 2) (omega (arith, pow-succ' 2 k)) (omega arith) ∙ ap not (sym (bit_zero y))
  where
    digit : (d e : ℕ) → d + e ≡ 1 → d < 2 → eqb e 1 ≡ not (eqb d 1)
    digit zero e p q = eq-eqb e 1 (omega arith)
    digit (suc zero) e p q = ne_eqb e 1 (λ z. omega arith)
    digit (suc (suc d)) e p q = absurd (omega arith)
complement (suc k) y (suc v) l h =
    let e : (2 ^ suc k - 1 - y) / 2 ≡ 2 ^ k - 1 - y / 2 = omega (arith, pow-succ' 2 k) in
    bit_suc v (2 ^ suc k - 1 - y)
    ∙ ap (bit v) e
    ∙ complement k (y / 2) v (omega (arith, pow-succ' 2 k)) (omega arith)
    ∙ ap not (sym (bit_suc v y))

pub bit_moved : (v j m : ℕ) → bit v (m / 2 ^ j) ≡ bit (v + j) m
unfolding bit
bit_moved v j m =
    let e : j + v ≡ v + j = omega arith in
    ap (λ (x : ℕ). eqb (x % 2) 1) (shr-shr m j v) ∙ ap (λ (i : ℕ). eqb (m / 2 ^ i % 2) 1) e

pub ones_bit : (k v : ℕ) → v < k → bit v (2 ^ k - 1) ≡ true
ones_bit k v l =
    let e : 2 ^ k - 1 ≡ 2 ^ k - 1 - 0 = omega arith in
    ap (bit v) e ∙ complement k 0 v (pow_pos k) l ∙ ap not (bit_of_zero v)

-- all places of k, shifted down to n of them
pub ones_shifted : (k n v : ℕ) → n ≤ k → bit v ((2 ^ k - 1) / 2 ^ (k - n)) ≡ ltb v n
ones_shifted k n v l = bit_moved v (k - n) (2 ^ k - 1) ∙ go (below v n)
  where
    go : (v < n) ⊎ (n ≤ v) → bit (v + (k - n)) (2 ^ k - 1) ≡ ltb v n
    go (inl p) = ones_bit k (v + (k - n)) (omega arith) ∙ sym (lt-ltb v n p)
    go (inr p) = bit_high k (2 ^ k - 1) (v + (k - n)) (let z : 0 < 2 ^ k = pow_pos k in omega arith) (omega arith) ∙ sym (le-ltb v n p)

-- the places below a number
pub low_ones : (n k : ℕ) → bit k (2 ^ n - 1) ≡ ltb k n
low_ones n k = go (below k n)
  where
    go : (k < n) ⊎ (n ≤ k) → bit k (2 ^ n - 1) ≡ ltb k n
    go (inl l) = ones_bit n k l ∙ sym (lt-ltb k n l)
    go (inr l) = bit_high n (2 ^ n - 1) k (let z : 0 < 2 ^ n = pow_pos n in omega arith) l ∙ sym (le-ltb k n l)
