-- Laws of blocks: their sums, their checks and their bytes. Assumes nothing.
use Rattle.std.proofs.Common.{◌≡◌, ℕ, ◌+◌, ◌*◌, ◌%◌, ◌^◌, ◌<◌, ◌≤◌, not, eqb, List, length, ◌∙◌, add-one, arith, get_or-drop, get_or-take, eq-eqb, eqb-true}
use native.Mathlib.Nat.{mod-add-mod}
use Rattle.model.specs.Tests.{sum}
use Rattle.model.proofs.Tests.{same_test, sum_last}
use Rattle.heads.specs.Blocks.{block_at, check_of, word, word_sum, wrong_check}
use Rattle.fields.specs.Bytes.{byte_at, word_at}

-- one word more in the sum
pub sum_step : (b : List ℕ) (i s w : ℕ) → s ≡ sum i (word b) % 2 ^ 32 → w ≡ word b i → (s + w) % 2 ^ 32 ≡ sum (i + 1) (word b) % 2 ^ 32
sum_step b i s w hs hw = rw (add-one, hs, hw, sum_last, mod-add-mod)

-- the check added on both sides
same_sum : (s c k : ℕ) → c < 2 ^ 32 → eqb ((c + c) % 2 ^ 32) (((s + c) % 2 ^ 32 + k) % 2 ^ 32) ≡ eqb c ((s + k) % 2 ^ 32)
same_sum s c k h =
    same_test _ _
    (λ e. let z = eqb-true ((c + c) % 2 ^ 32) (((s + c) % 2 ^ 32 + k) % 2 ^ 32) e in eq-eqb c ((s + k) % 2 ^ 32) (omega arith))
    (λ e. let z = eqb-true c ((s + k) % 2 ^ 32) e in eq-eqb ((c + c) % 2 ^ 32) (((s + c) % 2 ^ 32 + k) % 2 ^ 32) (omega arith))

-- so the full sum tells whether the check c of block n is wrong
pub check_wrong : (book block : List ℕ) (n c u : ℕ) → block ≡ block_at book n → c ≡ word_at block 508 → c < 2 ^ 32 → u ≡ sum 128 (word block) % 2 ^ 32
    → not (eqb ((c + c) % 2 ^ 32) ((u + (n + 1)) % 2 ^ 32)) ≡ wrong_check book n
unfolding wrong_check check_of word_sum
check_wrong book block n c u hb hc l hu =
    let e : sum 128 (word block) ≡ sum 127 (word block) + c = sum_last 127 (word block) ∙ omega (arith, hc) in
    rw (hu, e, same_sum (sum 127 (word block)) c (n + 1) l, ← hb, ← hc)

-- a byte of block n, in the book
pub block_byte : (b : List ℕ) (n : ℕ) → 512 * n + 512 ≤ length b → (i : ℕ) → i < 512 → byte_at (block_at b n) i ≡ byte_at b (512 * n + i)
block_byte b n h i l = rw (get_or-take, get_or-drop)
