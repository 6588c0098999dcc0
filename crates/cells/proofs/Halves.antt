-- Laws of pass 1 over rows that stand one after the other: of 64 places as two halves of 32, of a row read as one number, and of one row more. Assumes nothing.
use mathlib.Core.Path.{◌∙◌, ◌≡◌, ap, refl, sym}
use mathlib.Core.Bool.{Bool, ◌&&◌, ◌||◌, cond, false, or-false, true}
use mathlib.Core.Logic.{◌⊎◌, inl, inr}
use mathlib.Core.List.{List}
use Prim.Native.Nat.{◌%◌, ◌*◌, ◌+◌, ◌-◌, ◌/◌, ◌<◌, ◌^◌, ◌≤◌, suc, zero, ℕ}
use native.Mathlib.Nat.{lt_of_le_of_lt, mul_assoc, pow-succ'}
use native.Mathlib.Omega.{arith}
use lib.Bits.{and_le_l, bit_and, bit_or}
use lib.Dec.{eqb, ltb}
use lib.ListN.{get_or}
use borrow.Author.Tests.{le-ltb, lt-ltb}
use Rattle.model.specs.Masks.{bit}
use Rattle.model.specs.Tests.{all_below}
use Rattle.model.proofs.Masks.{bit-and, bit_of_zero, bit-or, bit_pow, bit_pow_only, bit_pow_other, bit_suc, bit_zero, some_bit}
use Rattle.model.proofs.Tests.{all_below_last, all_below_same, and_l, and_r, and_true, below, or_r, positive}
use Rattle.fields.specs.Bytes.{byte_at, word_at}
use Rattle.counters.specs.Counters.{cell_place}
use Rattle.cells.specs.Cells.{KeptBy, KeptRun, cell_at, row_inside}
use Rattle.counters.proofs.Ones.{low_ones, bit_moved}
use Rattle.cells.proofs.Stretches.{row_cell}
use Rattle.cells.proofs.Walks.{four_all, split}

-- ---- two halves
-- the places below k of a number whose other places begin at k
bit_first : (k m h v : ℕ) → v < k → bit v (m + 2 ^ k * h) ≡ bit v m
bit_first zero m h v l = absurd (omega arith)
bit_first (suc k) m h zero l =
    let e : (m + 2 ^ suc k * h) % 2 ≡ m % 2 = omega (arith, double) in
    bit_zero (m + 2 ^ suc k * h) ∙ ap (λ (x : ℕ). eqb x 1) e ∙ sym (bit_zero m)
  where
    double : 2 ^ suc k * h ≡ 2 * (2 ^ k * h)
    double = rw (pow-succ' 2 k) (mul_assoc 2 (2 ^ k) h)
bit_first (suc k) m h (suc v) l =
    let e : (m + 2 ^ suc k * h) / 2 ≡ m / 2 + 2 ^ k * h = omega (arith, double) in
    bit_suc v (m + 2 ^ suc k * h) ∙ ap (bit v) e ∙ bit_first k (m / 2) h v (omega arith) ∙ sym (bit_suc v m)
  where
    double : 2 ^ suc k * h ≡ 2 * (2 ^ k * h)
    double = rw (pow-succ' 2 k) (mul_assoc 2 (2 ^ k) h)

-- and those from 32 on
bit_second : (m h v : ℕ) → m < 2 ^ 32 → bit (v + 32) (m + 2 ^ 32 * h) ≡ bit v h
bit_second m h v l = let e : (m + 2 ^ 32 * h) / 2 ^ 32 ≡ h = omega arith in sym (bit_moved v 32 (m + 2 ^ 32 * h)) ∙ ap (bit v) e

pub low_half : (low high x : ℕ) → x / 32 % 2 ≡ 0 → bit (x % 32) low ≡ bit (x % 64) (low + 2 ^ 32 * high)
low_half low high x e = let z : x % 64 ≡ x % 32 = omega arith in rw z (sym (bit_first 32 low high (x % 32) (omega arith)))

pub high_half : (low high x : ℕ) → low < 2 ^ 32 → (x / 32 % 2 ≡ 0 → ⊥) → bit (x % 32) high ≡ bit (x % 64) (low + 2 ^ 32 * high)
high_half low high x l n = let z : x % 64 ≡ x % 32 + 32 = omega arith in rw z (sym (bit_second low high (x % 32) l))

-- ---- a row read as one number
pub from_place : (b : List ℕ) (at j : ℕ) {row : ℕ} → j < 4 → ((i : ℕ) → i < 4 → byte_at b (at + i) < 256) → row ≡ word_at b at → row / 2 ^ (8 * j) % 64 ≡ byte_at b (at + j) % 64
from_place b at j {row} l h e = four_all (λ j. row / 2 ^ (8 * j) % 64 ≡ byte_at b (at + j) % 64) (omega (arith, bytes, first)) (omega (arith, bytes, first)) (omega (arith, bytes, first)) (omega (arith, bytes, first)) j l
  where
    bytes : (byte_at b (at + 0) < 256) × (byte_at b (at + 1) < 256) × (byte_at b (at + 2) < 256) × (byte_at b (at + 3) < 256)
    bytes = (h 0 (omega arith), h 1 (omega arith), h 2 (omega arith), h 3 (omega arith))

    first : byte_at b (at + 0) ≡ byte_at b at
    first = let z : at + 0 ≡ at = omega arith in ap (byte_at b) z

-- ---- whether a place is in a set, as the code tests it
pub place_out : (d v : ℕ) → bit_and d (2 ^ v) ≡ 0 → bit v d ≡ false
place_out d v e = sym (and_true (bit v d)) ∙ ap (λ (t : Bool). bit v d && t) (sym (bit_pow v)) ∙ sym (bit-and v d (2 ^ v)) ∙ ap (bit v) e ∙ bit_of_zero v

pub place_in : (d v : ℕ) → d < 2 ^ 32 → (bit_and d (2 ^ v) ≡ 0 → ⊥) → bit v d ≡ true
place_in d v f n =
    let u = some_bit 32 (bit_and d (2 ^ v)) (lt_of_le_of_lt (and_le_l d (2 ^ v)) f) (positive _ n) in
    let both = sym (bit-and u.0 d (2 ^ v)) ∙ u.2 in
    rw (bit_pow_only v u.0 (and_r (bit u.0 d) _ both)) at (and_l (bit u.0 d) _ both)

-- ---- digits that say whether a cell is in a set
pub held_digit : (d cell h : ℕ) → h ≡ d / 2 ^ (cell % 32) % 2 → eqb h 1 ≡ bit (cell % 32) d
unfolding bit
held_digit d cell h e = ap (λ (x : ℕ). eqb x 1) e

-- the tests of the four cells of a row
pub all_of_four : (f : ℕ → Bool) {p q r s : Bool} → p ≡ f 0 → q ≡ f 1 → r ≡ f 2 → s ≡ f 3 → (p && q && r && s) ≡ all_below 4 f
unfolding all_below
all_of_four f d e g h = rw (d, e, g, h, all_below_last 3 f, all_below_last 2 f, all_below_last 1 f, all_below_last 0 f) refl

pub inside_row : (b x : List ℕ) (begin r : ℕ) {at : ℕ} → at ≡ cell_place begin r 0 → all_below 4 (λ j. bit (byte_at b (at + j) % 32) (get_or x j 0)) ≡ row_inside b begin x r
unfolding row_inside
inside_row b x begin r {at} e = all_below_same 4 _ _ (λ j l. ap (λ (y : ℕ). bit (y % 32) (get_or x j 0)) (row_cell b begin r j e))

-- ---- one row more
pub run_start : (b : List ℕ) (begin from j m : ℕ) → KeptRun b begin from 0 j m 0
run_start b begin from j m = record { at = λ k. bit_of_zero k ∙ ap (λ (t : Bool). t && bit (cell_at b begin (from + k) j % 64) m) (sym (le-ltb k 0 (omega arith))) }

pub run_turn : {b : List ℕ} {begin from k j m keep : ℕ} (half x : ℕ) → KeptRun b begin from k j m keep → x % 64 ≡ cell_at b begin (from + k) j % 64 → bit (x % 32) half ≡ bit (x % 64) m
    → KeptRun b begin from (k + 1) j m (cond (bit (x % 32) half) (bit_or keep (2 ^ k)) keep)
run_turn {b} {begin} {from} {k} {j} {m} {keep} half x h e f = record { at = λ i. split i k (here i) (other i) }
  where
    test : ℕ → Bool
    test i = bit (cell_at b begin (from + i) j % 64) m

    added : (t : Bool) → bit k keep ≡ false → bit k (cond t (bit_or keep (2 ^ k)) keep) ≡ t
    added true z = bit-or k keep (2 ^ k) ∙ or_r (bit k keep) _ (bit_pow k)
    added false z = z

    as_was : (t : Bool) (i : ℕ) → (i ≡ k → ⊥) → bit i (cond t (bit_or keep (2 ^ k)) keep) ≡ bit i keep
    as_was true i n = bit-or i keep (2 ^ k) ∙ ap (λ (s : Bool). bit i keep || s) (bit_pow_other k i n) ∙ or-false (bit i keep)
    as_was false i n = refl

    here : (i : ℕ) → i ≡ k → bit i (cond (bit (x % 32) half) (bit_or keep (2 ^ k)) keep) ≡ (ltb i (k + 1) && test i)
    here i z =
        let l : k < k + 1 = omega arith in
        rw (z, lt-ltb k (k + 1) l)
        (added (bit (x % 32) half) (h.at k ∙ ap (λ (s : Bool). s && test k) (le-ltb k k (omega arith))) ∙ f ∙ ap (λ (y : ℕ). bit y m) e)

    other : (i : ℕ) → (i ≡ k → ⊥) → bit i (cond (bit (x % 32) half) (bit_or keep (2 ^ k)) keep) ≡ (ltb i (k + 1) && test i)
    other i n = as_was (bit (x % 32) half) i n ∙ h.at i ∙ ap (λ (s : Bool). s && test i) (same (below i k))
      where
        same : (i < k) ⊎ (k ≤ i) → ltb i k ≡ ltb i (k + 1)
        same (inl l) = lt-ltb i k l ∙ sym (lt-ltb i (k + 1) (omega arith))
        same (inr l) = le-ltb i k l ∙ sym (le-ltb i (k + 1) (omega arith))

-- ---- the first 60 rows, 32 of them and 28
pub run_end : {b : List ℕ} {begin from j m x y : ℕ} → y < 2 ^ 32 → KeptRun b begin (from + 0) 32 j m x → KeptRun b begin (from + 32) 28 j m y
    → KeptBy b begin from j m (2 ^ 60 - 1) (bit_or x (y * 2 ^ 32 % 2 ^ 64))
run_end {b} {begin} {from} {j} {m} {x} {y} f p q = record { at = λ k. bit-or k x (y * 2 ^ 32 % 2 ^ 64) ∙ go k (below k 32) (below k 60) }
  where
    test : ℕ → Bool
    test r = bit (cell_at b begin r j % 64) m

    up : y * 2 ^ 32 % 2 ^ 64 ≡ 0 + 2 ^ 32 * y
    up = omega (arith, f)

    first : (k : ℕ) → test (from + 0 + k) ≡ test (from + k)
    first k = let z : from + 0 + k ≡ from + k = omega arith in ap test z

    later : (k : ℕ) → 32 ≤ k → test (from + 32 + (k - 32)) ≡ test (from + k)
    later k l = let z : from + 32 + (k - 32) ≡ from + k = omega arith in ap test z

    second : (k : ℕ) → 32 ≤ k → bit k (y * 2 ^ 32 % 2 ^ 64) ≡ bit (k - 32) y
    second k l = let z : k ≡ k - 32 + 32 = omega arith in ap (bit k) up ∙ ap (λ (i : ℕ). bit i (0 + 2 ^ 32 * y)) z ∙ bit_second 0 y (k - 32) (omega arith)

    go : (k : ℕ) → (k < 32) ⊎ (32 ≤ k) → (k < 60) ⊎ (60 ≤ k) → (bit k x || bit k (y * 2 ^ 32 % 2 ^ 64)) ≡ (bit k (2 ^ 60 - 1) && test (from + k))
    go k (inl l) (inl n) = rw (p.at k, lt-ltb k 32 l, low_ones 60 k, lt-ltb k 60 n, up, bit_first 32 0 y k l, bit_of_zero k) (or-false _ ∙ first k)
    go k (inr l) (inl n) = rw (p.at k, le-ltb k 32 l, low_ones 60 k, lt-ltb k 60 n, second k l, q.at (k - 32), lt-ltb (k - 32) 28 (omega arith)) (later k l)
    go k l (inr n) = rw (p.at k, le-ltb k 32 (omega arith), low_ones 60 k, le-ltb k 60 n, second k (omega arith), q.at (k - 32), le-ltb (k - 32) 28 (omega arith)) refl
