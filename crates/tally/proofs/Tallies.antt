-- Laws of the walk that counts values: one row more, one row of a word less, and a word's first rows and its others. Assumes nothing.
use mathlib.Core.Path.{◌∙◌, ◌≡◌, ap, refl, sym}
use mathlib.Core.Bool.{Bool, ◌&&◌, cond, false, not, true}
use mathlib.Core.Logic.{◌⊎◌, inl, inr}
use mathlib.Core.List.{List}
use Prim.Native.Nat.{◌%◌, ◌*◌, ◌+◌, ◌-◌, ◌/◌, ◌<◌, ◌^◌, ◌≤◌, suc, zero, ℕ}
use native.Mathlib.Nat.{not-suc-le-zero}
use native.Mathlib.Omega.{arith}
use lib.Dec.{eqb, ltb}
use lib.ListN.{get_or-eq_default, get_or, length, length-set, set}
use lib.Seq.{get_or-set_other, get_or-set_same}
use borrow.Author.Tests.{eq-eqb, eqb-false, eqb-true, le-ltb, lt-ltb, ne_eqb}
use Rattle.model.specs.Masks.{Cleared, bit}
use Rattle.model.specs.Tests.{count, one_if, sum}
use Rattle.model.proofs.Masks.{bit_of_zero}
use Rattle.model.proofs.Tallies.{count_last, count_most, count_same}
use Rattle.model.proofs.Tests.{below, either, none_count, one_if_le, same_test}
use Rattle.fields.specs.Bytes.{byte_at, word_at}
use Rattle.counters.specs.Counters.{FirstRows, PastRows, cell_place}
use Rattle.cells.proofs.Halves.{from_place}
use Rattle.cells.specs.Cells.{IsCell, Readable, cell_at}
use Rattle.tally.specs.Tallies.{Counted, Counts, Raised, RowBytes, RowCounted, count_at, places_of, rows_with}

-- ---- one row more
pub raised : (C : List ℕ) (i : ℕ) → length C ≡ 128 → i < 128 → Raised i C (set C i (get_or C i 0 + 1))
raised C i h l = record { size = length-set C i _ ∙ h; at = λ k. go k (either (eqb k i)) }
  where
    go : (k : ℕ) → (eqb k i ≡ true) ⊎ (eqb k i ≡ false) → get_or (set C i (get_or C i 0 + 1)) k 0 ≡ get_or C k 0 + one_if (eqb k i)
    go k (inl e) = let z : k ≡ i = eqb-true k i e in rw (e, z) (get_or-set_same C i _ 0 (omega (arith, h)))
    go k (inr e) = let n : k ≡ i → ⊥ = eqb-false k i e in rw e (get_or-set_other C i k _ 0 n ∙ omega arith)

pub raised_most : {C C' : List ℕ} {n i : ℕ} → Counts n C → Raised i C C' → Counts (n + 1) C'
raised_most {C} {C'} {n} {i} h r = record { size = r.size; most = λ k. omega (arith, r.at k, h.most k, one_if_le (eqb k i) true (λ e. refl)) }

pub raise_room : {C : List ℕ} {n : ℕ} (i : ℕ) → Counts n C → n < 1000 → get_or C i 0 < 2 ^ 32 - 1
raise_room i h l = omega (arith, h.most i)

-- the places in turn: none yet, and one more
pub no_place : (cell : ℕ → ℕ) {C : List ℕ} → length C ≡ 128 → RowCounted 0 cell C C
no_place cell h = record { size = h; at = λ j v l m. rw (le-ltb j 0 (omega arith)) (omega arith) }

pub one_place : {cell : ℕ → ℕ} {C C₁ C₂ : List ℕ} (n : ℕ) → cell n < 32 → RowCounted n cell C C₁ → {i : ℕ} → i ≡ 32 * n + cell n → Raised i C₁ C₂ → RowCounted (n + 1) cell C C₂
one_place {cell} {C} {C₁} {C₂} n h p {i} q r = record { size = r.size; at = λ j v l m. omega (arith, rw q at (r.at (32 * j + v)), p.at j v l m, go j v m (below j n) (below n j)) }
  where
    go : (j v : ℕ) → v < 32 → (j < n) ⊎ (n ≤ j) → (n < j) ⊎ (j ≤ n)
        → cond (ltb j n) (one_if (eqb (cell j) v)) 0 + one_if (eqb (32 * j + v) (32 * n + cell n)) ≡ cond (ltb j (n + 1)) (one_if (eqb (cell j) v)) 0
    go j v m (inl l) _ = rw (lt-ltb j n l, lt-ltb j (n + 1) (omega arith), ne_eqb (32 * j + v) (32 * n + cell n) (λ e. omega arith)) (omega arith)
    go j v m (inr k) (inl l) = rw (le-ltb j n k, le-ltb j (n + 1) (omega arith), ne_eqb (32 * j + v) (32 * n + cell n) (λ e. omega arith))
    go j v m (inr k) (inr l) =
        let z : j ≡ n = omega arith in
        rw (z, le-ltb n n (omega arith), lt-ltb n (n + 1) (omega arith)) (omega (arith, same v))
      where
        same : (v : ℕ) → one_if (eqb (32 * n + v) (32 * n + cell n)) ≡ one_if (eqb (cell n) v)
        same v =
            ap one_if (same_test _ _ (λ e. let q = eqb-true (32 * n + v) (32 * n + cell n) e in eq-eqb (cell n) v (omega arith)) (λ e. let q = eqb-true (cell n) v e in eq-eqb (32 * n + v) (32 * n + cell n) (omega arith)))

-- the value at a place of a row that is read as one number
pub row_value : {b : List ℕ} {at row : ℕ} → RowBytes b at → row ≡ word_at b at → (j : ℕ) → j < 4 → row / 2 ^ (8 * j) % 32 ≡ byte_at b (at + j) % 32
row_value {b} {at} h e j l = let z = from_place b at j l h.byte e in omega (arith, z)

-- the bytes of cells
pub cell_bytes : {b : List ℕ} {begin from word at : ℕ} (k : ℕ) → Readable b begin from word → bit k word ≡ true → at ≡ cell_place begin (from + k) 0 → RowBytes b at
cell_bytes {b} {begin} {from} {word} {at} k h e p = record {
  there = omega (arith, h.there k e);
  byte = λ j l. small (rw (same j) (h.cell k j e l));
}
  where
    same : (j : ℕ) → byte_at b (at + j) ≡ cell_at b begin (from + k) j
    same j = let z : at + j ≡ cell_place begin (from + k) j = omega arith in ap (byte_at b) z

    small : {x : ℕ} → IsCell x → x < 256
    small {x} (inl a) = let z = eqb-true x 255 a in omega arith
    small {x} (inr l) = omega arith

-- ---- one row of a word less
-- two tests that agree but at t
count_but : (n : ℕ) (f g : ℕ → Bool) (t : ℕ) → t < n → g t ≡ false → ((k : ℕ) → (k ≡ t → ⊥) → f k ≡ g k) → count n f ≡ count n g + one_if (f t)
count_but zero f g t l e h = absurd (not-suc-le-zero l)
count_but (suc n) f g t l e h = rw (count_last n f, count_last n g) (go (below t n) (λ m. count_but n f g t m e h))
  where
    go : (t < n) ⊎ (n ≤ t) → (t < n → count n f ≡ count n g + one_if (f t)) → count n f + one_if (f n) ≡ count n g + one_if (g n) + one_if (f t)
    go (inl m) q = omega (arith, q m, ap one_if (h n (λ q. omega arith)))
    go (inr m) q =
        let z : n ≡ t = omega arith in
        omega (arith, count_same n f g (λ k q. h k (λ y. omega arith)), ap (λ (i : ℕ). one_if (f i)) z, ap (λ (i : ℕ). one_if (g i)) z, ap one_if e)

pub rows_cleared : (b : List ℕ) (begin from : ℕ) {x y t : ℕ} → Cleared x y t → t < 64 → (j v : ℕ)
    → rows_with b begin from x j v ≡ rows_with b begin from y j v + one_if (eqb (cell_at b begin (from + t) j % 32) v)
rows_cleared b begin from {x} {y} {t} h l j v =
    count_but 64 (λ k. bit k x && eqb (cell_at b begin (from + k) j % 32) v) (λ k. bit k y && eqb (cell_at b begin (from + k) j % 32) v) t l
    (ap (λ (s : Bool). s && eqb (cell_at b begin (from + t) j % 32) v) h.gone)
    (λ k n. ap (λ (s : Bool). s && eqb (cell_at b begin (from + k) j % 32) v) (sym (h.rest k n)))
    ∙ ap (λ (s : Bool). rows_with b begin from y j v + one_if (s && eqb (cell_at b begin (from + t) j % 32) v)) h.here

pub rows_zero : (b : List ℕ) (begin from j v : ℕ) → rows_with b begin from 0 j v ≡ 0
rows_zero b begin from j v =
    none_count 64 (λ k. bit k 0 && eqb (cell_at b begin (from + k) j % 32) v) (λ k l. ap (λ (s : Bool). s && eqb (cell_at b begin (from + k) j % 32) v) (bit_of_zero k))

pub rows_most : (b : List ℕ) (begin from word j v : ℕ) → rows_with b begin from word j v ≤ 64
rows_most b begin from word j v = count_most 64 (λ k. bit k word && eqb (cell_at b begin (from + k) j % 32) v)

-- the first rows and the others
count-sum : (n : ℕ) (f g h : ℕ → Bool) → ((k : ℕ) → one_if (f k) ≡ one_if (g k) + one_if (h k)) → count n f ≡ count n g + count n h
unfolding count sum
count-sum zero f g h e = refl
count-sum (suc n) f g h e = omega (arith, e 0, count-sum n (λ k. f (suc k)) (λ k. g (suc k)) (λ k. h (suc k)) (λ k. e (suc k)))

rows_parts : (b : List ℕ) (begin from : ℕ) {word n x y : ℕ} → FirstRows word n x → PastRows word n y → (j v : ℕ)
    → rows_with b begin from word j v ≡ rows_with b begin from x j v + rows_with b begin from y j v
rows_parts b begin from {word} {n} {x} {y} p q j v =
    count-sum 64 (λ k. bit k word && eqb (cell_at b begin (from + k) j % 32) v) (λ k. bit k x && eqb (cell_at b begin (from + k) j % 32) v) (λ k. bit k y && eqb (cell_at b begin (from + k) j % 32) v)
    (λ k. rw (p.at k, q.at k) (cases (bit k word) (ltb k n) (eqb (cell_at b begin (from + k) j % 32) v)))
  where
    cases : (s t u : Bool) → one_if (s && u) ≡ one_if ((s && t) && u) + one_if ((s && not t) && u)
    cases true true u = omega arith
    cases true false u = omega arith
    cases false t u = refl

-- what is counted and what is left are all
pub record Counting (k : ℕ) (b : List ℕ) (begin from word left : ℕ) (C C' : List ℕ) : Type 0 where
  pub size : length C' ≡ 128
  pub at : (j v : ℕ) → j < 4 → v < 32
      → count_at C' j v + cond (ltb j (places_of k)) (rows_with b begin from left j v) 0 ≡ count_at C j v + cond (ltb j (places_of k)) (rows_with b begin from word j v) 0

cond_most : (t : Bool) (n : ℕ) → cond t n 0 ≤ n
cond_most true n = omega arith
cond_most false n = omega arith

pub counts_below : {m n : ℕ} {C : List ℕ} → m ≤ n → Counts m C → Counts n C
counts_below l h = record { size = h.size; most = λ i. omega (arith, h.most i) }

-- a word has 64 rows
more_most : {n : ℕ} {C C' : List ℕ} → Counts n C → length C' ≡ 128 → ((j v : ℕ) → j < 4 → v < 32 → count_at C' j v ≤ count_at C j v + 64) → Counts (n + 64) C'
more_most {n} {C} {C'} h s g = record { size = s; most = λ i. go i (below i 128) }
  where
    go : (i : ℕ) → (i < 128) ⊎ (128 ≤ i) → get_or C' i 0 ≤ n + 64
    go i (inl l) = let z : 32 * (i / 32) + i % 32 ≡ i = omega arith in omega (arith, rw z at (g (i / 32) (i % 32) (omega arith) (omega arith)), h.most i)
    go i (inr l) = omega (arith, get_or-eq_default C' 0 {n = i} (omega (arith, s)))

-- so there is room for one more, and for the next rows
pub counting_most : {n k : ℕ} {b : List ℕ} {begin from word left : ℕ} {C C' : List ℕ} → Counts n C → Counting k b begin from word left C C' → Counts (n + 64) C'
counting_most {k = k} {b} {begin} {from} {word} h g =
    more_most h g.size (λ j v l m. omega (arith, g.at j v l m, rows_most b begin from word j v, cond_most (ltb j (places_of k)) (rows_with b begin from word j v)))

pub counted_most : {n k : ℕ} {b : List ℕ} {begin from word : ℕ} {C C' : List ℕ} → Counts n C → Counted k b begin from word C C' → Counts (n + 64) C'
counted_most {k = k} {b} {begin} {from} {word} h g =
    more_most h g.size (λ j v l m. omega (arith, g.at j v l m, rows_most b begin from word j v, cond_most (ltb j (places_of k)) (rows_with b begin from word j v)))

pub counting_start : (k : ℕ) (b : List ℕ) (begin from word : ℕ) {n : ℕ} {C : List ℕ} → Counts n C → Counting k b begin from word word C C
counting_start k b begin from word h = record { size = h.size; at = λ j v l m. refl }

-- at a place that is counted, and at another
cond_sum : (t : Bool) (a b c : ℕ) → a ≡ b + c → cond t a 0 ≡ cond t b 0 + cond t c 0
cond_sum true a b c e = e
cond_sum false a b c e = refl

pub counting_turn : {k : ℕ} {b : List ℕ} {begin from word x y t : ℕ} {C C' C'' : List ℕ} → Cleared x y t → t < 64 → Counting k b begin from word x C C'
    → RowCounted (places_of k) (λ j. cell_at b begin (from + t) j % 32) C' C'' → Counting k b begin from word y C C''
counting_turn {k} {b} {begin} {from} {word} {x} {y} {t} h l g r = record {
  size = r.size;
  at = λ j v p q.
      omega (
        arith,
        g.at j v p q,
        r.at j v p q,
        cond_sum (ltb j (places_of k)) (rows_with b begin from x j v) (rows_with b begin from y j v) (one_if (eqb (cell_at b begin (from + t) j % 32) v)) (rows_cleared b begin from h l j v),
      );
}

pub counting_end : {k : ℕ} {b : List ℕ} {begin from word : ℕ} {C C' : List ℕ} → Counting k b begin from word 0 C C' → Counted k b begin from word C C'
counting_end {k} {b} {begin} {from} g = record {
  size = g.size;
  at = λ j v l m. omega (arith, g.at j v l m, rows_zero b begin from j v, cond_most (ltb j (places_of k)) (rows_with b begin from 0 j v));
}

-- the first rows, and then the others
pub counted_join : {k : ℕ} {b : List ℕ} {begin from word n x y : ℕ} {C C' C'' : List ℕ} → FirstRows word n x → PastRows word n y → Counted k b begin from x C C'
    → Counted k b begin from y C' C'' → Counted k b begin from word C C''
counted_join {k} {b} {begin} {from} {word} {n} {x} {y} p q g h = record {
  size = h.size;
  at = λ j v l m.
      omega (
        arith,
        g.at j v l m,
        h.at j v l m,
        cond_sum (ltb j (places_of k)) (rows_with b begin from word j v) (rows_with b begin from x j v) (rows_with b begin from y j v) (rows_parts b begin from p q j v),
      );
}

-- the same of the cells that the code read
pub cells_counted : {n : ℕ} {C C' : List ℕ} {f g : ℕ → ℕ} → ((j : ℕ) → f j ≡ g j) → RowCounted n f C C' → RowCounted n g C C'
cells_counted {n} {C} {C'} {f} {g} e r = record { size = r.size; at = λ j v l m. r.at j v l m ∙ ap (λ (x : ℕ). count_at C j v + cond (ltb j n) (one_if (eqb x v)) 0) (e j) }

-- ---- a width
-- no more places are counted than there are, and as many as a sheet has
pub places_fit : (k : ℕ) → (places_of k ≤ 4) × (k ≤ 4 → k ≤ places_of k)
unfolding places_of
places_fit k = go (below k 3) (below k 4)
  where
    go : (k < 3) ⊎ (3 ≤ k) → (k < 4) ⊎ (4 ≤ k) → (cond (ltb k 3) 2 (cond (ltb k 4) 3 4) ≤ 4) × (k ≤ 4 → k ≤ cond (ltb k 3) 2 (cond (ltb k 4) 3 4))
    go (inl l) _ = rw (lt-ltb k 3 l) (omega arith, λ f. omega arith)
    go (inr l) (inl m) = rw (le-ltb k 3 l, lt-ltb k 4 m) (omega arith, λ f. omega arith)
    go (inr l) (inr m) = rw (le-ltb k 3 l, le-ltb k 4 m) (omega arith, λ f. omega arith)

-- the width that is counted: as many places as it has
width_places : (k : ℕ) → 2 ≤ k → k ≤ 4 → places_of k ≡ k
unfolding places_of
width_places k l m = go (below k 3) (below k 4)
  where
    go : (k < 3) ⊎ (3 ≤ k) → (k < 4) ⊎ (4 ≤ k) → cond (ltb k 3) 2 (cond (ltb k 4) 3 4) ≡ k
    go (inl p) _ = rw (lt-ltb k 3 p) (omega arith)
    go (inr p) (inl q) = rw (le-ltb k 3 p, lt-ltb k 4 q) (omega arith)
    go (inr p) (inr q) = rw (le-ltb k 3 p, le-ltb k 4 q) (omega arith)

pub row_of_width : {k : ℕ} {cell : ℕ → ℕ} {C C' : List ℕ} → 2 ≤ k → k ≤ 4 → RowCounted k cell C C' → RowCounted (places_of k) cell C C'
row_of_width {k} l m r = record { size = r.size; at = λ j v p q. rw (width_places k l m) (r.at j v p q) }

-- two widths at which as many places are counted
pub counted_width : {k m : ℕ} {b : List ℕ} {begin from word : ℕ} {C C' : List ℕ} → places_of k ≡ places_of m → Counted k b begin from word C C' → Counted m b begin from word C C'
counted_width e h = record { size = h.size; at = λ j v l n. rw (← e) (h.at j v l n) }

pub few_places : (k : ℕ) → k < 3 → places_of 2 ≡ places_of k
unfolding places_of
few_places k l = rw (lt-ltb k 3 l) refl

pub all_places : (k : ℕ) → 4 ≤ k → places_of 4 ≡ places_of k
unfolding places_of
all_places k l = rw (le-ltb k 3 (omega arith), le-ltb k 4 l) refl
