-- Numbers in base ten: std's decimal text of a number is its text. Assumes nothing.
use mathlib.Core.Path.{◌≡◌, sym, ◌∙◌, ap}
use mathlib.Core.Logic.{◌⊎◌, inl, inr}
use mathlib.Core.List.{List, [], ◌∷◌, ◌++◌}
use Prim.Native.Nat.{ℕ, zero, suc, ◌+◌, ◌/◌, ◌%◌, ◌^◌, ◌≤◌, ◌<◌}
use native.Mathlib.Nat.{pow-zero, pow-suc}
use native.Mathlib.Omega.{arith}
use borrow.Author.Tests.{lt-ltb, le-ltb}
use Rattle.model.proofs.Tests.{below}
use Rattle.std.specs.Fmt.{decimal}
use Rattle.std.proofs.lemmas.Fmt.{decimal_digit, decimal_step}
use Rattle.lines.specs.Texts.{number_in, number}

-- a number below ten, and any other
number_in_one : (f x : ℕ) → x < 10 → number_in (suc f) x ≡ (48 + x) ∷ []
unfolding number_in
number_in_one f x h = rw (lt-ltb x 10 h, number_in)

number_in_more : (f x : ℕ) → 10 ≤ x → number_in (suc f) x ≡ number_in f (x / 10) ++ ((48 + x % 10) ∷ [])
unfolding number_in
number_in_more f x h = rw (le-ltb x 10 h, number_in)

-- std's decimal text of a number of at most k + 1 digits
decimal_number_in : (k x : ℕ) → x < 10 ^ suc k → x < 2 ^ 64 → decimal x ≡ number_in (suc k) x
decimal_number_in zero x h u =
    let p : x < 10 = omega (arith, pow-suc 10 0, pow-zero 10) in
    decimal_digit x p ∙ sym (number_in_one 0 x p)
decimal_number_in (suc k) x h u = go (below x 10) (decimal_number_in k (x / 10) (omega (arith, pow-suc 10 (suc k))) (omega arith))
  where
    go : (x < 10) ⊎ (10 ≤ x) → decimal (x / 10) ≡ number_in (suc k) (x / 10) → decimal x ≡ number_in (suc (suc k)) x
    go (inl p) e = decimal_digit x p ∙ sym (number_in_one (suc k) x p)
    go (inr p) e = decimal_step x p u ∙ ap (λ (t : List ℕ). t ++ ((48 + x % 10) ∷ [])) e ∙ sym (number_in_more (suc k) x p)

-- 64 bits take no more than 20 digits
pub decimal_number : (x : ℕ) → x < 2 ^ 64 → decimal x ≡ number x
decimal_number x h = decimal_number_in 19 x (omega arith) h
