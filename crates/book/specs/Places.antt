-- What the place of refusal 5, 6 or 7 tells a dealer: the sheet, the row and the byte of the first fault. Proved in proofs/Places.antt.
--
-- A row has 4 bytes and begins at a multiple of 4, so a place is a row, and a block has 128 of them:
--
--     place   128 × block   + 1     ..   + 126     + 127
--     holds   row 0         row 1   ..   row 126   the check
use Rattle.std.specs.Prelude.{◌≡◌, Bool, true, false, ◌⊎◌, List, ℕ, ◌+◌, ◌*◌, ◌-◌, ◌/◌, ◌%◌, ◌≤◌, ◌<◌, ltb}
use Rattle.model.specs.Books.{is_any}
use Rattle.model.specs.Tests.{lowest}
use Rattle.fields.specs.Bytes.{byte_at}
use Rattle.heads.specs.Heads.{column_of, forbids_of, rows_of, sheets_of, values_of, width_of}
use Rattle.rows.specs.Rows.{blocks_of, falls, first_block, is_wrong, row_place}
use Rattle.book.specs.Verdicts.{check_result}

-- ---- from the place to the sheet, the row and the column
-- the sheet in whose blocks the place lies: the first whose blocks end behind it
unfoldable pub place_sheet : List ℕ → ℕ → ℕ
place_sheet b place = lowest (sheets_of b) (λ s. ltb (place / 128) (first_block b s + blocks_of b s))

-- the row of that sheet, used or not
unfoldable pub place_row : List ℕ → ℕ → ℕ
place_row b place = 127 * (place / 128 - first_block b (place_sheet b place)) + place % 128

-- byte j of row r of sheet s is wrong
unfoldable pub wrong_cell : List ℕ → ℕ → ℕ → ℕ → Bool
wrong_cell b s r j = is_wrong b s r j (byte_at b (row_place b s r + j))

-- which of the four bytes of that row is the first wrong one
unfoldable pub place_byte : List ℕ → ℕ → ℕ
place_byte b place = lowest 4 (wrong_cell b (place_sheet b place) (place_row b place))

-- the column whose value it is, where it is one
unfoldable pub place_column : List ℕ → ℕ → ℕ
place_column b place = column_of b (place_sheet b place) (place_byte b place)

-- ---- what they tell
-- the first fault stands in bytes 4 × place to 4 × place + 3
pub record FirstFault (b : List ℕ) (place : ℕ) : Type 0 where
  -- the sheet and the row are there, and these are the bytes of that row
  pub sheet : place_sheet b place < sheets_of b
  pub row : place_row b place < 127 * blocks_of b (place_sheet b place)
  pub stands : row_place b (place_sheet b place) (place_row b place) ≡ 4 * place
  -- one of the four is wrong
  pub byte : place_byte b place < 4
  pub wrong : wrong_cell b (place_sheet b place) (place_row b place) (place_byte b place) ≡ true
  -- "the first fault in file order": no byte of a row, used or not, that stands before it is
  pub first : (s r j : ℕ) → s < sheets_of b → r < 127 * blocks_of b s → j < 4 → row_place b s r + j < 4 * place + place_byte b place
      → wrong_cell b s r j ≡ false

-- "Refusal 5 is now only for a value that is too large.": the row is used, and the value is not below its column's V. "Refusal 5 lets 255 pass.", but in
-- a forbidden sheet "255 is refused with 5"
pub record LargeValue (b : List ℕ) (place : ℕ) : Type 0 where
  pub fault : FirstFault b place
  pub used : place_row b place < rows_of b (place_sheet b place)
  pub value : place_byte b place < width_of b (place_sheet b place)
  pub large : values_of b (place_column b place) ≤ byte_at b (4 * place + place_byte b place)
  pub not_any : forbids_of b (place_sheet b place) ≡ false → is_any (byte_at b (4 * place + place_byte b place)) ≡ false

-- "A filler byte that isn't zero gets its own number.": the row is not used, or the byte comes after its values
pub record WrongFiller (b : List ℕ) (place : ℕ) : Type 0 where
  pub fault : FirstFault b place
  pub filler : (rows_of b (place_sheet b place) ≤ place_row b place) ⊎ (width_of b (place_sheet b place) ≤ place_byte b place)
  pub not_zero : 1 ≤ byte_at b (4 * place + place_byte b place)

-- "7 for rows that don't rise": a used row of a forbidden sheet stands there, and is "not above the one before it in its sheet"
pub record FirstFall (b : List ℕ) (place : ℕ) : Type 0 where
  pub sheet : place_sheet b place < sheets_of b
  pub forbidden : forbids_of b (place_sheet b place) ≡ true
  pub row : place_row b place < rows_of b (place_sheet b place)
  pub stands : row_place b (place_sheet b place) (place_row b place) ≡ 4 * place
  pub falling : falls b (place_sheet b place) (place_row b place) ≡ true
  -- "the first row": every row of a forbidden sheet that stands before it is above the one before
  pub first : (s r : ℕ) → s < sheets_of b → forbids_of b s ≡ true → r < rows_of b s → row_place b s r < 4 * place → falls b s r ≡ false
  -- "after 5 and 6": no byte of a row is wrong
  pub right : (s r j : ℕ) → s < sheets_of b → r < 127 * blocks_of b s → j < 4 → wrong_cell b s r j ≡ false

-- the claim, of every byte string: read off the call's number, "refusal × 65,536 + place"
pub record PlacesTell (b : List ℕ) : Type 0 where
  pub number_5 : check_result b / 65536 ≡ 5 → LargeValue b (check_result b % 65536)
  pub number_6 : check_result b / 65536 ≡ 6 → WrongFiller b (check_result b % 65536)
  pub number_7 : check_result b / 65536 ≡ 7 → FirstFall b (check_result b % 65536)
