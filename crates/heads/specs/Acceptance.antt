-- Worked examples of blocks and fields: each at its limits, on the head of harbour book H. Each record is proved in proofs/Acceptance.antt under its name
-- with a small letter.
use Rattle.std.specs.Prelude.{◌≡◌, ℕ, ◌-◌, true, false, List, [], ◌∷◌, ◌++◌, length, replicate, slice_set}
use Rattle.heads.specs.Blocks.{wrong_length, check_of}
use Rattle.heads.specs.Heads.{forbids_of, width_of, wrong_field, first_wrong_field}

-- bytes 0 to 507 of a block: what it begins with, then zeros
abbrev pub padded : List ℕ → List ℕ
padded xs = xs ++ replicate (508 - length xs) 0

-- the head of H: FGB1, three columns, two sheets; 3, 2 and 2 values; the two entries
abbrev pub head : List ℕ
head =
    70 ∷ 71 ∷ 66 ∷ 49 ∷ 3 ∷ 2 ∷ 0 ∷ 0 ∷ 3 ∷ 2 ∷ 2 ∷ 0 ∷ 0 ∷ 0 ∷ 0 ∷ 0 ∷ 0 ∷ 0 ∷ 0 ∷ 0 ∷ 0 ∷ 0 ∷ 0 ∷ 0
    ∷ 2 ∷ 0 ∷ 1 ∷ 0 ∷ 0 ∷ 0 ∷ 4 ∷ 0 ∷ 2 ∷ 1 ∷ 2 ∷ 0 ∷ 0 ∷ 0 ∷ 3 ∷ 0 ∷ []

-- "a multiple of 512 from 512 to 16,896"; "every carry past 32 bits" is left out, in the sum and where b + 1 is added; the last word counts
pub record BlockFacts : Type 0 where
  pub none : wrong_length [] ≡ true
  pub least : wrong_length (replicate 512 0) ≡ false
  pub odd : wrong_length (replicate 513 0) ≡ true
  pub longest : wrong_length (replicate 16896 0) ≡ false
  pub long : wrong_length (replicate 17408 0) ≡ true
  pub carry : check_of (255 ∷ 255 ∷ 255 ∷ 255 ∷ 3 ∷ []) 1 ≡ 4
  pub carry_last : check_of (255 ∷ 255 ∷ 255 ∷ 255 ∷ []) 0 ≡ 0
  pub bit31 : check_of (0 ∷ 0 ∷ 0 ∷ 128 ∷ []) 0 ≡ 2147483649
  pub last_word : check_of (slice_set (padded []) 504 1) 0 ≡ 2

-- each field of H's head: letters, C, S, zeros, V, width, column numbers, byte 5, rows, an entry from S on, the last zero
-- (the definition of a new field also joins `computing` in proofs/Acceptance.antt: the examples compute only what is opened there)
pub record FieldFacts : Type 0 where
  pub right : first_wrong_field head ≡ 508
  pub letters : wrong_field (slice_set head 3 48) 0 ≡ true
  pub no_column : wrong_field (slice_set head 4 0) 4 ≡ true
  pub most_columns : wrong_field (slice_set head 4 16) 4 ≡ false
  pub many_columns : wrong_field (slice_set head 4 17) 4 ≡ true
  pub most_sheets : wrong_field (slice_set head 5 8) 5 ≡ false
  pub many_sheets : wrong_field (slice_set head 5 9) 5 ≡ true
  pub zero6 : wrong_field (slice_set head 6 1) 6 ≡ true
  pub zero7 : wrong_field (slice_set head 7 1) 7 ≡ true
  pub no_value : wrong_field (slice_set head 10 0) 10 ≡ true
  pub most_values : wrong_field (slice_set head 8 32) 8 ≡ false
  pub many_values : wrong_field (slice_set head 8 33) 8 ≡ true
  pub value_past : wrong_field (slice_set head 23 1) 23 ≡ true
  pub no_width : wrong_field (slice_set head 24 0) 24 ≡ true
  pub widest : wrong_field (slice_set head 32 4) 32 ≡ false
  pub wide : wrong_field (slice_set head 32 5) 32 ≡ true
  -- "Width byte 129 to 132 marks a forbidden sheet of width 1 to 4"
  pub mark_alone : wrong_field (slice_set head 32 128) 32 ≡ true
  pub narrowest_forbidden : wrong_field (slice_set head 32 129) 32 ≡ false
  pub widest_forbidden : wrong_field (slice_set head 32 132) 32 ≡ false
  pub wide_forbidden : wrong_field (slice_set head 32 133) 32 ≡ true
  pub highest_byte : wrong_field (slice_set head 32 255) 32 ≡ true
  pub plain_sheet : forbids_of (slice_set head 32 4) 1 ≡ false
  pub forbidden_sheet : forbids_of (slice_set head 32 129) 1 ≡ true
  pub forbidden_width : width_of (slice_set head 32 132) 1 ≡ 4
  pub equal_column : wrong_field (slice_set head 34 1) 34 ≡ true
  pub high_column : wrong_field (slice_set head 26 3) 26 ≡ true
  pub past_width : wrong_field (slice_set head 28 1) 28 ≡ true
  pub byte5 : wrong_field (slice_set head 29 1) 29 ≡ true
  pub past_width1 : wrong_field (slice_set head 35 1) 35 ≡ true
  pub byte5_1 : wrong_field (slice_set head 37 1) 37 ≡ true
  pub no_rows : wrong_field (slice_set head 30 0) 30 ≡ false
  pub most_rows : wrong_field (slice_set (slice_set head 30 252) 31 1) 30 ≡ false
  pub many_rows : wrong_field (slice_set (slice_set head 30 253) 31 1) 30 ≡ true
  pub high_byte : wrong_field (slice_set (slice_set head 30 253) 31 1) 31 ≡ false
  pub unused_entry : wrong_field (slice_set (padded head) 87 1) 87 ≡ true
  pub last_zero : wrong_field (slice_set (padded head) 507 1) 507 ≡ true
