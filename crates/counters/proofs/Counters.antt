-- Laws of a word cut in two: its rows below a number, and the others. Assumes nothing.
use mathlib.Core.Path.{◌∙◌, ◌≡◌, ap, refl}
use mathlib.Core.Bool.{Bool, ◌&&◌, false, not}
use mathlib.Core.Logic.{◌⊎◌, inl, inr}
use Prim.Native.Nat.{◌-◌, ◌/◌, ◌<◌, ◌^◌, ◌≤◌, ℕ}
use native.Mathlib.Nat.{div-le_self, lt_of_le_of_lt}
use native.Mathlib.Omega.{arith}
use lib.Bits.{bit_and}
use lib.Dec.{ltb}
use Rattle.model.specs.Masks.{bit}
use Rattle.model.proofs.Masks.{bit-and, bit_high, ones64}
use Rattle.model.proofs.Tests.{below}
use Rattle.counters.specs.Counters.{FirstRows, PastRows}
use Rattle.counters.proofs.Ones.{complement, ones_shifted}

-- ---- the rows of a word below a number, and the others
pub first_rows : (word n : ℕ) → n ≤ 64 → FirstRows word n (bit_and word (ones64 / 2 ^ (64 - n)))
first_rows word n l = record { at = λ k. bit-and k word _ ∙ ap (λ (t : Bool). bit k word && t) (ones_shifted 64 n k l) }

pub past_rows : (word n : ℕ) → word < 2 ^ 64 → n ≤ 64 → PastRows word n (bit_and word (ones64 - ones64 / 2 ^ (64 - n)))
past_rows word n fits l = record { at = λ k. bit-and k word _ ∙ go k (below k 64) }
  where
    go : (k : ℕ) → (k < 64) ⊎ (64 ≤ k) → (bit k word && bit k (ones64 - ones64 / 2 ^ (64 - n))) ≡ (bit k word && not (ltb k n))
    go k (inl m) =
        ap (λ (t : Bool). bit k word && t)
        (complement 64 (ones64 / 2 ^ (64 - n)) k (lt_of_le_of_lt (div-le_self ones64 (2 ^ (64 - n))) (omega arith)) m
        ∙ ap not (ones_shifted 64 n k l))
    go k (inr m) = let z : bit k word ≡ false = bit_high 64 word k fits m in rw z refl
