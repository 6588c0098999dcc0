-- Worked examples of the rows: harbour book H as bytes, and each kind of fault of the rows at its limits. Blocks and fields are worked in crate heads, what
-- a book decodes to in crate book, whole checks in crate examples.
-- Each record is proved in proofs/Acceptance.antt under its name with a small letter.
use Rattle.std.specs.Prelude.{◌≡◌, ℕ, suc, true, false, List, [], ◌∷◌, ◌++◌, nat_lt, slice_set}
use Rattle.fields.specs.Bytes.{word_bytes}
use Rattle.heads.specs.Acceptance.{head, padded}
use Rattle.heads.specs.Blocks.{check_of}
use Rattle.rows.specs.Rows.{blocks_of, blocks_needed, fall_place, falls, falls_in, row_place, is_wrong, wrong_byte, string_at, too_large, not_zero, kind_of}

-- ---- books as bytes
-- blocks n and on, each with its right check
unfoldable pub sealed : ℕ → List (List ℕ) → List ℕ
sealed n [] = []
sealed n (x ∷ xs) = padded x ++ word_bytes (check_of (padded x) n) ++ sealed (suc n) xs

-- its rows: 00 10 11 21 and 00 01 11
abbrev pub rows0 : List ℕ
rows0 = 0 ∷ 0 ∷ 0 ∷ 0 ∷ 1 ∷ 0 ∷ 0 ∷ 0 ∷ 1 ∷ 1 ∷ 0 ∷ 0 ∷ 2 ∷ 1 ∷ 0 ∷ 0 ∷ []

abbrev pub rows1 : List ℕ
rows1 = 0 ∷ 0 ∷ 0 ∷ 0 ∷ 0 ∷ 1 ∷ 0 ∷ 0 ∷ 1 ∷ 1 ∷ 0 ∷ 0 ∷ []

abbrev pub harbour : List ℕ
harbour = sealed 0 (head ∷ rows0 ∷ rows1 ∷ [])

-- the smallest book: one column of one value, no sheet
abbrev pub tiny_head : List ℕ
tiny_head = 70 ∷ 71 ∷ 66 ∷ 49 ∷ 1 ∷ 0 ∷ 0 ∷ 0 ∷ 1 ∷ []

abbrev pub tiny : List ℕ
tiny = sealed 0 (tiny_head ∷ [])

-- one column of two values and a sheet that allows both: its head, and its rows 0 and 1
abbrev pub both_head : List ℕ
both_head = 70 ∷ 71 ∷ 66 ∷ 49 ∷ 1 ∷ 1 ∷ 0 ∷ 0 ∷ 2 ∷ 0 ∷ 0 ∷ 0 ∷ 0 ∷ 0 ∷ 0 ∷ 0 ∷ 0 ∷ 0 ∷ 0 ∷ 0 ∷ 0 ∷ 0 ∷ 0 ∷ 0 ∷ 1 ∷ 0 ∷ 0 ∷ 0 ∷ 0 ∷ 0 ∷ 2 ∷ 0 ∷ []

abbrev pub both_rows : List ℕ
both_rows = padded (0 ∷ 0 ∷ 0 ∷ 0 ∷ 1 ∷ 0 ∷ 0 ∷ 0 ∷ [])

abbrev pub both : List ℕ → List ℕ
both rows = sealed 0 (both_head ∷ rows ∷ [])

-- ---- the rows
-- a sheet of one column with 128 rows: row 127, of value v, is the first of its second block, and the first unused row is not zero
abbrev pub long_rows : ℕ → List ℕ
long_rows v = sealed 0 (slice_set both_head 30 128 ∷ [] ∷ (v ∷ 0 ∷ 0 ∷ 0 ∷ 1 ∷ []) ∷ [])

-- blocks at the edges, "508 rows is 4 blocks" among them; where rows stand; a value, a filler and an unused row at their limits, in a second
-- block too
pub record RowFacts : Type 0 where
  pub rows0 : blocks_of (slice_set head 30 0) 0 ≡ 0
  pub rows1 : blocks_of (slice_set head 30 1) 0 ≡ 1
  pub rows127 : blocks_of (slice_set head 30 127) 0 ≡ 1
  pub rows128 : blocks_of (slice_set head 30 128) 0 ≡ 2
  pub rows508 : blocks_of (slice_set (slice_set head 30 252) 31 1) 0 ≡ 4
  pub needed : blocks_needed (slice_set (slice_set head 30 252) 31 1) ≡ 6
  pub last_in_block : row_place head 0 126 ≡ 1016
  pub first_in_next : row_place head 0 127 ≡ 1024
  pub value : wrong_byte (both both_rows) 0 0 4 ≡ false
  pub filler : wrong_byte (both (slice_set both_rows 1 1)) 0 0 1 ≡ true
  pub filler_kind : kind_of both_head 0 0 1 ≡ not_zero
  pub unused_row : wrong_byte (both (slice_set both_rows 8 1)) 0 0 8 ≡ true
  pub unused_kind : kind_of both_head 0 2 0 ≡ not_zero
  pub next_block : wrong_byte (long_rows 1) 0 1 0 ≡ false
  pub next_unused : wrong_byte (long_rows 1) 0 1 4 ≡ true

-- sheet 0 of H, of two columns, with 1 and 32 values; its rows 0 to 3 are used
abbrev pub any_head : List ℕ
any_head = slice_set (slice_set head 8 1) 9 32

-- "Refusal 5 lets 255 pass.": in the first and the last value of the used rows, and nothing else that is too large; not in filler, nor in the
-- first unused row
pub record AnyFacts : Type 0 where
  pub first : is_wrong any_head 0 0 0 255 ≡ false
  pub last : is_wrong any_head 0 3 1 255 ≡ false
  pub first_254 : is_wrong any_head 0 0 0 254 ≡ true
  pub last_254 : is_wrong any_head 0 3 1 254 ≡ true
  pub only_value : is_wrong any_head 0 0 0 0 ≡ false
  pub value_1 : is_wrong any_head 0 0 0 1 ≡ true
  pub value_31 : is_wrong any_head 0 3 1 31 ≡ false
  pub value_32 : is_wrong any_head 0 3 1 32 ≡ true
  pub large_kind : kind_of any_head 0 3 1 ≡ too_large
  pub filler : is_wrong any_head 0 3 2 255 ≡ true
  pub filler_kind : kind_of any_head 0 3 2 ≡ not_zero
  pub unused : is_wrong any_head 0 4 0 255 ≡ true
  pub unused_kind : kind_of any_head 0 4 0 ≡ not_zero

-- sheet 0 of the same head as a forbidden one, of two columns; and the book of one column and rows 0 and 1, its sheet forbidden
abbrev pub clash_head : List ℕ
clash_head = slice_set any_head 24 130

abbrev pub clash : List ℕ → List ℕ
clash rows = sealed 0 (slice_set both_head 24 129 ∷ rows ∷ [])

-- in a forbidden sheet "255 is refused with 5"; in filler it stays a fault of its own
pub record ForbiddenFacts : Type 0 where
  pub first : is_wrong clash_head 0 0 0 255 ≡ true
  pub last : is_wrong clash_head 0 3 1 255 ≡ true
  pub large_kind : kind_of clash_head 0 3 1 ≡ too_large
  pub value_31 : is_wrong clash_head 0 3 1 31 ≡ false
  pub value_32 : is_wrong clash_head 0 3 1 32 ≡ true
  pub filler : is_wrong clash_head 0 3 2 255 ≡ true
  pub filler_kind : kind_of clash_head 0 3 2 ≡ not_zero
  pub unused_kind : kind_of clash_head 0 4 0 ≡ not_zero
  -- "Its rows rise strictly as byte strings": 0 and 1 do, an equal row and a lower one do not, and the first has none before it
  pub rises : falls (clash both_rows) 0 1 ≡ false
  pub equal : falls (clash (slice_set both_rows 0 1)) 0 1 ≡ true
  pub lower : falls (clash (slice_set (slice_set both_rows 0 1) 4 0)) 0 1 ≡ true
  pub row_0 : falls (clash both_rows) 0 0 ≡ false
  -- the first byte counts most
  pub first_byte : nat_lt (string_at (0 ∷ 255 ∷ 255 ∷ 255 ∷ 1 ∷ 0 ∷ 0 ∷ 0 ∷ []) 0) (string_at (0 ∷ 255 ∷ 255 ∷ 255 ∷ 1 ∷ 0 ∷ 0 ∷ 0 ∷ []) 4) ≡ true
  pub last_byte : nat_lt (string_at (7 ∷ 3 ∷ 2 ∷ 0 ∷ 7 ∷ 3 ∷ 2 ∷ 1 ∷ []) 0) (string_at (7 ∷ 3 ∷ 2 ∷ 0 ∷ 7 ∷ 3 ∷ 2 ∷ 1 ∷ []) 4) ≡ true
  -- over a block's end too: row 126 is a zero, and so is row 127
  pub next_block : falls (slice_set (long_rows 0) 24 129) 0 127 ≡ true
  pub next_above : falls (slice_set (long_rows 1) 24 129) 0 127 ≡ false
  -- a sheet that allows its rows has them in any order; a forbidden one has the first that falls
  pub plain : falls_in (both (slice_set both_rows 0 1)) 0 ≡ false
  pub forbidden : falls_in (clash (slice_set both_rows 0 1)) 0 ≡ true
  pub place : fall_place (clash (slice_set both_rows 0 1)) 0 ≡ 516
