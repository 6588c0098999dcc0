-- Laws of rows that rise: where the next row stands, a row that does not rise, and what is lower where one does. Assumes nothing.
use mathlib.Core.Path.{◌∙◌, ◌≡◌, ap, sym}
use mathlib.Core.Bool.{Bool, ◌&&◌, false, not, true}
use mathlib.Core.Logic.{◌⊎◌, inl, inr}
use mathlib.Core.List.{List}
use Rattle.std.proofs.Common.{MatchOption, None, Option, Some, ap₂}
use Prim.Native.Nat.{◌%◌, ◌*◌, ◌+◌, ◌-◌, ◌/◌, ◌<◌, ◌≤◌, suc, zero, ℕ}
use native.Mathlib.Omega.{arith}
use lib.Dec.{eqb, leb}
use lib.ListN.{length}
use borrow.Author.Tests.{le-leb, leb-false, leb-true, lt-leb, ne_eqb}
use Rattle.model.proofs.Tests.{below, either, same_test}
use Rattle.heads.specs.Heads.{rows_of}
use Rattle.rows.specs.Bounds.{SheetThere, string_before}
use Rattle.rows.specs.Rows.{blocks_of, falls, first_block, row_place, string_at}

-- ---- from a row to the next
pub row_first : (b : List ℕ) (s : ℕ) → row_place b s 0 ≡ 512 * first_block b s
unfolding row_place
row_first b s = omega arith

pub row_next : (b : List ℕ) (s r i : ℕ) → i ≡ r % 127 → row_place b s (r + 1) ≡ row_place b s r + (4 + 4 * ((i + 1) / 127))
unfolding row_place
row_next b s r i e = omega arith

pub next_row : (r i : ℕ) → i ≡ r % 127 → i + 1 - 127 * ((i + 1) / 127) ≡ (r + 1) % 127
next_row r i e = omega arith

-- a row of a sheet whose blocks are there is there
pub row_there : (b : List ℕ) (s r at : ℕ) → SheetThere b s → at ≡ row_place b s r → r < rows_of b s → at + 3 < length b
unfolding row_place blocks_of
row_there b s r at h e l = omega (arith, h.blocks)

-- ---- a row that does not rise
-- one more than a row before, where there is one
abbrev pub above : Option ℕ → ℕ
above None = 0
above (Some x) = x + 1

up : (m n : ℕ) → leb m n ≡ leb (m + 1) (n + 1)
up m n =
    same_test _ _ (λ e. le-leb (m + 1) (n + 1) (omega (arith, leb-true m n e))) (λ e. le-leb m n (omega (arith, leb-true (m + 1) (n + 1) e)))

pub falls_before : (b : List ℕ) (s r : ℕ) → falls b s r ≡ leb (string_at b (row_place b s r) + 1) (string_before b s r)
unfolding falls
falls_before b s r = go (either (eqb r 0))
  where
    go : (eqb r 0 ≡ true) ⊎ (eqb r 0 ≡ false)
        → (not (eqb r 0) && leb (string_at b (row_place b s r)) (string_at b (row_place b s (r - 1)))) ≡ leb (string_at b (row_place b s r) + 1) (string_before b s r)
    go (inl e) = rw e (sym (lt-leb (string_at b (row_place b s r) + 1) 0 (omega arith)))
    go (inr e) = rw e (up (string_at b (row_place b s r)) (string_at b (row_place b s (r - 1))))

-- the same by what the code holds: t tells whether there is a row before and x is not above it
pub falls_test : (b : List ℕ) (s r at x : ℕ) (before : Option ℕ) (t : Bool) {P : ℕ → Type 0} → at ≡ row_place b s r → above before ≡ string_before b s r → x ≡ string_at b at
    → MatchOption before (t ≡ false) P → ((p : ℕ) → P p → t ≡ leb x p) → falls b s r ≡ t
falls_test b s r at x before t h k e m f = falls_before b s r ∙ ap₂ leb (ap (λ (n : ℕ). string_at b n + 1) (sym h) ∙ ap (λ (n : ℕ). n + 1) (sym e)) (sym k) ∙ sym (seen before m f)
  where
    seen : (o : Option ℕ) {P : ℕ → Type 0} → MatchOption o (t ≡ false) P → ((p : ℕ) → P p → t ≡ leb x p) → t ≡ leb (x + 1) (above o)
    seen None m f = m ∙ sym (lt-leb (x + 1) 0 (omega arith))
    seen (Some p) m f = f p m ∙ up x p

-- a row that rises is above the one before
pub rises_at : (b : List ℕ) (s r : ℕ) → falls b s (suc r) ≡ false → string_at b (row_place b s r) < string_at b (row_place b s (suc r))
unfolding falls
rises_at b s r e =
    let q : eqb (suc r) 0 ≡ false = ne_eqb (suc r) 0 (λ z. omega arith) in
    let p : suc r - 1 ≡ r = omega arith in
    leb-false (string_at b (row_place b s (suc r))) (string_at b (row_place b s r)) (rw (q, p) at e)

-- what stands before the next row
pub before_next : (b : List ℕ) (s r : ℕ) → string_at b (row_place b s r) + 1 ≡ string_before b s (r + 1)
before_next b s r =
    let e : eqb (r + 1) 0 ≡ false = ne_eqb (r + 1) 0 (λ q. omega arith) in
    let p : r + 1 - 1 ≡ r = omega arith in
    rw (e, p)

-- ---- where a string is below another, the first byte that differs is lower
pub string_lower : (f g : ℕ → ℕ) → ((j : ℕ) → j < 4 → f j < 256) → ((j : ℕ) → j < 4 → g j < 256)
    → f 0 * 16777216 + f 1 * 65536 + f 2 * 256 + f 3 < g 0 * 16777216 + g 1 * 65536 + g 2 * 256 + g 3
    → (j : ℕ) × (j < 4) × (f j < g j) × ((d : ℕ) → d < j → f d ≡ g d)
string_lower f g hf hg l = first (below (f 0) (g 0)) (below (f 1) (g 1)) (below (f 2) (g 2))
  where
    bytes : (f 1 < 256) × (f 2 < 256) × (f 3 < 256) × (g 1 < 256) × (g 2 < 256) × (g 3 < 256)
    bytes = (hf 1 (omega arith), hf 2 (omega arith), hf 3 (omega arith), hg 1 (omega arith), hg 2 (omega arith), hg 3 (omega arith))

    none : (d : ℕ) → d < 0 → f d ≡ g d
    none d p = absurd (omega arith)

    one : f 0 ≡ g 0 → (d : ℕ) → d < 1 → f d ≡ g d
    one e zero p = e
    one e (suc d) p = absurd (omega arith)

    two : f 0 ≡ g 0 → f 1 ≡ g 1 → (d : ℕ) → d < 2 → f d ≡ g d
    two e k zero p = e
    two e k (suc zero) p = k
    two e k (suc (suc d)) p = absurd (omega arith)

    three : f 0 ≡ g 0 → f 1 ≡ g 1 → f 2 ≡ g 2 → (d : ℕ) → d < 3 → f d ≡ g d
    three e k m zero p = e
    three e k m (suc zero) p = k
    three e k m (suc (suc zero)) p = m
    three e k m (suc (suc (suc d))) p = absurd (omega arith)

    first : (f 0 < g 0) ⊎ (g 0 ≤ f 0) → (f 1 < g 1) ⊎ (g 1 ≤ f 1) → (f 2 < g 2) ⊎ (g 2 ≤ f 2)
        → (j : ℕ) × (j < 4) × (f j < g j) × ((d : ℕ) → d < j → f d ≡ g d)
    first (inl p) q r = (0, omega arith, p, none)
    first (inr p) (inl q) r = (1, omega arith, q, one (omega (arith, bytes)))
    first (inr p) (inr q) (inl r) =
        let e : f 0 ≡ g 0 = omega (arith, bytes) in
        (2, omega arith, r, two e (omega (arith, bytes)))
    first (inr p) (inr q) (inr r) =
        let e : f 0 ≡ g 0 = omega (arith, bytes) in
        let k : f 1 ≡ g 1 = omega (arith, bytes) in
        (3, omega arith, omega (arith, bytes), three e k (omega (arith, bytes)))
