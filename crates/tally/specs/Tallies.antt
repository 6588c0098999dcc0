-- How many rows of a word have each value at each place.
use Rattle.std.specs.Prelude.{◌≡◌, ◌&&◌, cond, List, ◌%◌, ◌*◌, ◌+◌, ◌<◌, ◌≤◌, ℕ, eqb, ltb, get_or, length}
use Rattle.model.specs.Masks.{bit}
use Rattle.model.specs.Tests.{count, one_if}
use Rattle.fields.specs.Bytes.{byte_at}
use Rattle.cells.specs.Cells.{cell_at}

--     entry   0 .. 31    32 .. 63    64 .. 95    96 .. 127          entry 32 j + v: how many rows have the value v at place j
--             place 0    place 1     place 2     place 3
abbrev pub count_at : List ℕ → ℕ → ℕ → ℕ
count_at C j v = get_or C (32 * j + v) 0

-- 128 counts, none above n
pub record Counts (n : ℕ) (C : List ℕ) : Type 0 where
  pub size : length C ≡ 128
  pub most : (i : ℕ) → get_or C i 0 ≤ n

-- the four bytes of a row, at byte `at`, are bytes
pub record RowBytes (b : List ℕ) (at : ℕ) : Type 0 where
  pub there : at + 3 < length b
  pub byte : (j : ℕ) → j < 4 → byte_at b (at + j) < 256

-- C' are the counts C with one more at entry i
pub record Raised (i : ℕ) (C C' : List ℕ) : Type 0 where
  pub size : length C' ≡ 128
  pub at : (k : ℕ) → get_or C' k 0 ≡ get_or C k 0 + one_if (eqb k i)

-- at how many places the values of a sheet of width k are counted: at as many as it has, two at least
unfoldable pub places_of : ℕ → ℕ
places_of k = cond (ltb k 3) 2 (cond (ltb k 4) 3 4)

-- C' are the counts C and one more at each of the first n places for a row, `cell j` at place j
pub record RowCounted (n : ℕ) (cell : ℕ → ℕ) (C C' : List ℕ) : Type 0 where
  pub size : length C' ≡ 128
  pub at : (j v : ℕ) → j < 4 → v < 32 → count_at C' j v ≡ count_at C j v + cond (ltb j n) (one_if (eqb (cell j) v)) 0

-- how many rows of a word have the value v at place j, by the last five bits of their cells
abbrev pub rows_with : List ℕ → ℕ → ℕ → ℕ → ℕ → ℕ → ℕ
rows_with b begin from word j v = count 64 (λ k. bit k word && eqb (cell_at b begin (from + k) j % 32) v)

-- C' are the counts C and the rows of a word, of a sheet of width k
pub record Counted (k : ℕ) (b : List ℕ) (begin from word : ℕ) (C C' : List ℕ) : Type 0 where
  pub size : length C' ≡ 128
  pub at : (j v : ℕ) → j < 4 → v < 32 → count_at C' j v ≡ count_at C j v + cond (ltb j (places_of k)) (rows_with b begin from word j v) 0
