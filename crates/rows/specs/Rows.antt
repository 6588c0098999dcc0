-- The rows of the sheets: where they stand, the first fault in them, and the first row of a forbidden sheet that does not rise.
use Rattle.std.specs.Prelude.{ℕ, ◌+◌, ◌-◌, ◌*◌, ◌/◌, ◌%◌, Bool, cond, not, ◌&&◌, List, ◌==◌, nat_le, nat_lt}
use Rattle.model.specs.Books.{is_any}
use Rattle.model.specs.Tests.{any_below, lowest, sum}
use Rattle.fields.specs.Bytes.{byte_at}
use Rattle.heads.specs.Heads.{column_of, forbids_of, rows_of, sheets_of, values_of, width_of}

-- ---- where rows stand
-- "Each sheet in turn then has as many blocks as n / 127 rounded up."
unfoldable pub blocks_of : List ℕ → ℕ → ℕ
blocks_of b s = (rows_of b s + 126) / 127

-- the block in which the rows of sheet s begin: after the head and the sheets before it
unfoldable pub first_block : List ℕ → ℕ → ℕ
first_block b s = 1 + sum s (blocks_of b)

-- "1 plus those of the sheets"
unfoldable pub blocks_needed : List ℕ → ℕ
blocks_needed b = first_block b (sheets_of b)

-- the byte at which row r of sheet s begins: "A row is 4 bytes", and a block has 127 of them before its check
unfoldable pub row_place : List ℕ → ℕ → ℕ → ℕ
row_place b s r = 512 * (first_block b s + r / 127) + 4 * (r % 127)

-- ---- what is wrong in a row
-- byte j of row r of sheet s is a value: one of the k of a used row. Any other byte of a row, used or not, is filler
unfoldable pub is_value : List ℕ → ℕ → ℕ → ℕ → Bool
is_value b s r j = nat_lt r (rows_of b s) && nat_lt j (width_of b s)

-- what it has to be below: "k values, each below its column's V, then zeros. Unused rows are zero."
unfoldable pub bound_of : List ℕ → ℕ → ℕ → ℕ → ℕ
bound_of b s r j = cond (is_value b s r j) (values_of b (column_of b s j)) 1

-- the places of a used row of sheet s at which 255 passes are those below this: "Refusal 5 lets 255 pass."; in a forbidden sheet "255 is refused with 5"
unfoldable pub any_places : List ℕ → ℕ → ℕ
any_places b s = cond (forbids_of b s) 0 (width_of b s)

-- byte x is over its bound m: not below it, and not a 255 that passes
abbrev pub over_at : Bool → ℕ → ℕ → Bool
over_at passes m x = nat_le m x && not (passes && is_any x)

-- byte j of row r of sheet s is wrong where it is x
unfoldable pub is_wrong : List ℕ → ℕ → ℕ → ℕ → ℕ → Bool
is_wrong b s r j x = over_at (nat_lt r (rows_of b s) && nat_lt j (any_places b s)) (bound_of b s r j) x

-- byte i of block q of sheet s, i < 508, is wrong: it belongs to row 127 q + i / 4
unfoldable pub wrong_byte : List ℕ → ℕ → ℕ → ℕ → Bool
wrong_byte b s q i = is_wrong b s (127 * q + i / 4) (i % 4) (byte_at b (512 * (first_block b s + q) + i))

-- some byte of block q of sheet s is wrong
unfoldable pub wrong_block : List ℕ → ℕ → ℕ → Bool
wrong_block b s q = any_below 508 (wrong_byte b s q)

-- some block of sheet s is
unfoldable pub wrong_sheet : List ℕ → ℕ → Bool
wrong_sheet b s = any_below (blocks_of b s) (wrong_block b s)

-- ---- the first fault
-- "Refusal 5 is now only for a value that is too large. A filler byte that isn't zero gets its own number."
pub data Kind : Type 0 where
  too_large : Kind
  not_zero : Kind

-- the first fault of the rows: the byte of the file where it is, and what it is
pub data RowFault : Type 0 where
  clean : RowFault
  fault : ℕ → Kind → RowFault

-- what is wrong at byte j of row r of sheet s, where something is
unfoldable pub kind_of : List ℕ → ℕ → ℕ → ℕ → Kind
kind_of b s r j = cond (is_value b s r j) too_large not_zero

-- the fault at byte i of block q of sheet s
unfoldable pub fault_at : List ℕ → ℕ → ℕ → ℕ → RowFault
fault_at b s q i = fault (512 * (first_block b s + q) + i) (kind_of b s (127 * q + i / 4) (i % 4))

-- the first wrong byte of block q of sheet s, which has one
unfoldable pub fault_in_block : List ℕ → ℕ → ℕ → RowFault
fault_in_block b s q = fault_at b s q (lowest 508 (wrong_byte b s q))

-- the first wrong byte of sheet s, which has one
unfoldable pub fault_in_sheet : List ℕ → ℕ → RowFault
fault_in_sheet b s = fault_in_block b s (lowest (blocks_of b s) (wrong_block b s))

-- "the first fault in file order": sheet by sheet, block by block, byte by byte
unfoldable pub first_fault : List ℕ → RowFault
first_fault b = cond (nat_lt (lowest (sheets_of b) (wrong_sheet b)) (sheets_of b)) (fault_in_sheet b (lowest (sheets_of b) (wrong_sheet b))) clean

-- ---- rows that do not rise
-- four bytes as a byte string: as one number, in which the first byte counts most
abbrev pub string_at : List ℕ → ℕ → ℕ
string_at b i = byte_at b i * 16777216 + byte_at b (i + 1) * 65536 + byte_at b (i + 2) * 256 + byte_at b (i + 3)

-- row r of sheet s is "not above the one before it in its sheet"
unfoldable pub falls : List ℕ → ℕ → ℕ → Bool
falls b s r = not (r == 0) && nat_le (string_at b (row_place b s r)) (string_at b (row_place b s (r - 1)))

-- sheet s is a forbidden one with such a row: "Its rows rise strictly as byte strings"
unfoldable pub falls_in : List ℕ → ℕ → Bool
falls_in b s = forbids_of b s && any_below (rows_of b s) (falls b s)

-- the byte at which the first such row of sheet s begins
unfoldable pub fall_place : List ℕ → ℕ → ℕ
fall_place b s = row_place b s (lowest (rows_of b s) (falls b s))

-- the first sheet with one, or S
unfoldable pub first_fall : List ℕ → ℕ
first_fall b = lowest (sheets_of b) (falls_in b)
