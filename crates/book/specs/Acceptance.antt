-- Worked examples of the check: what harbour book H and single rows decode to, a fault as a number, and what its place tells. Blocks and fields are worked
-- in crate heads, the rows in crate rows, whole checks in crate examples.
-- Each record is proved in proofs/Acceptance.antt under its name with a small letter.
use Rattle.std.specs.Prelude.{◌≡◌, true, [], ◌∷◌, set}
use Rattle.fields.specs.Bytes.{word_bytes}
use Rattle.model.specs.Acceptance.{H}
use Rattle.heads.specs.Acceptance.{head, padded}
use Rattle.heads.specs.Blocks.{check_of}
use Rattle.rows.specs.Acceptance.{both, both_rows, clash, harbour, long_rows, rows0, rows1}
use Rattle.rows.specs.Rows.{too_large, not_zero, fault}
use Rattle.book.specs.Verdicts.{refused}
use Rattle.book.specs.Places.{place_byte, place_column, place_row, place_sheet}
use Rattle.book.specs.Refusals.{fault_number}
use Rattle.book.specs.Decoding.{book_of, row_of, sheet_of}

-- ---- what they give
-- H decodes to the book of the model, and its checks are these bytes
pub record HarbourFacts : Type 0 where
  pub book : book_of harbour ≡ H
  pub check0 : word_bytes (check_of (padded head) 0) ≡ 81 ∷ 76 ∷ 78 ∷ 49 ∷ []
  pub check1 : word_bytes (check_of (padded rows0) 1) ≡ 6 ∷ 2 ∷ 0 ∷ 0 ∷ []
  pub check2 : word_bytes (check_of (padded rows1) 2) ≡ 4 ∷ 2 ∷ 0 ∷ 0 ∷ []

-- 255 in a row stays 255, and a forbidden sheet has its mark
pub record DecodedFacts : Type 0 where
  pub any : row_of (both (set both_rows 4 255)) 0 1 ≡ 255 ∷ []
  pub forbidden : sheet_of (clash both_rows) 0 ≡ record { forbids = true; columns = 0 ∷ []; rows = (0 ∷ []) ∷ (1 ∷ []) ∷ [] }

-- "The place is the offset in the whole file divided by 4, rounded down": bytes 516 to 519 are one row; the last byte that can be at fault. Faults in whole
-- books are worked in crate examples
pub record NumberFacts : Type 0 where
  pub large : fault_number (fault 516 too_large) ≡ refused 5 129
  pub filler : fault_number (fault 519 not_zero) ≡ refused 6 129
  pub next : fault_number (fault 520 too_large) ≡ refused 5 130
  pub last : fault_number (fault 16891 not_zero) ≡ refused 6 4222

-- from a place of H to the sheet and the row: the first and the last row of block 1, which is sheet 0's, and the first of block 2; and of a sheet of two
-- blocks the first row of the second; the first wrong byte of a row, after 255 in place of a value too, and its column
pub record PlaceFacts : Type 0 where
  pub first_sheet : place_sheet head 128 ≡ 0
  pub first_row : place_row head 128 ≡ 0
  pub last_sheet : place_sheet head 254 ≡ 0
  pub last_row : place_row head 254 ≡ 126
  pub next_sheet : place_sheet head 256 ≡ 1
  pub next_row : place_row head 256 ≡ 0
  pub second_block : place_row (long_rows 2) 256 ≡ 127
  pub second_byte : place_byte (both (set (set both_rows 5 1) 7 1)) 129 ≡ 1
  pub after_any : place_byte (both (set (set both_rows 4 255) 7 255)) 129 ≡ 3
  pub second_column : place_column (set harbour 1025 2) 256 ≡ 2
