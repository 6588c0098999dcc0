-- The counters of a walk over a sheet's rows, where a row stands in the file, and the rows of a word cut in two.
use Rattle.std.specs.Prelude.{◌≡◌, ◌&&◌, not, ◌%◌, ◌*◌, ◌+◌, ◌/◌, ℕ, ltb}
use Rattle.model.specs.Masks.{bit}

-- ---- where rows stand
-- where place j of row r stands, of a sheet whose rows begin at byte `begin`: each block has 127 rows of 4 bytes, and 4 bytes more
abbrev pub cell_place : ℕ → ℕ → ℕ → ℕ
cell_place begin r j = begin + 4 * (r + r / 127) + j

-- where row 0 of word w stands
abbrev pub near_place : ℕ → ℕ → ℕ
near_place begin w = begin + 4 * (64 * w + 64 * w / 127)

-- ---- the walk over rows
-- "Walk block, row and bit along as counters instead, proved equal at every row to those quotients and remainders.": the counters of row r
pub record CountersOf (r block row word bit₀ : ℕ) : Type 0 where
  pub block_is : block ≡ r / 127
  pub row_is : row ≡ r % 127
  pub word_is : word ≡ r / 64
  pub bit_is : bit₀ ≡ r % 64

-- a walk stands at row r, of a sheet whose rows begin at `begin`: by its counters, and at the row's first byte
pub record AtRow (r begin block row word bit₀ at : ℕ) : Type 0 where
  pub counters : CountersOf r block row word bit₀
  pub place : at ≡ cell_place begin r 0

-- ---- the rows of a word below a number, and the others
-- r is the word cut to its first n rows
pub record FirstRows (word n r : ℕ) : Type 0 where
  pub at : (k : ℕ) → bit k r ≡ (bit k word && ltb k n)

-- r is the word without its first n rows
pub record PastRows (word n r : ℕ) : Type 0 where
  pub at : (k : ℕ) → bit k r ≡ (bit k word && not (ltb k n))
