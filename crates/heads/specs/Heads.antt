-- Block 0, the head: each field, where it stands and what it must be.
--
--     0    4 5 6   8        24      32             88             508
--     FGB1 C S 0 0 V × 16   entry 0 entry 1 … 7    0 … 0          check
--
--     entry s:  24 + 8 s + 0  1 2 3 4  5  6 7
--                          k  columns  0  rows            k + 128 of a forbidden sheet
use Rattle.std.specs.Prelude.{ℕ, ◌+◌, ◌-◌, ◌*◌, ◌/◌, ◌%◌, Bool, false, cond, not, ◌&&◌, ◌||◌, List, ◌==◌, nat_le, nat_lt}
use Rattle.model.specs.Tests.{lowest, NoneIn}
use Rattle.fields.specs.Bytes.{byte_at, half_at, word_at}
use Rattle.heads.specs.Limits.{set_at, out_of_range}

-- ---- the fields
-- "byte 4: columns C"
abbrev pub columns_of : List ℕ → ℕ
columns_of b = byte_at b 4

-- "byte 5: sheets S"
abbrev pub sheets_of : List ℕ → ℕ
sheets_of b = byte_at b 5

-- "byte 8 + i, for i from 0 to 15: values V of column i"
abbrev pub values_of : List ℕ → ℕ → ℕ
values_of b c = byte_at b (8 + c)

-- "from byte 24, eight sheet entries of 8 bytes. Byte 0: width k". "Width byte 129 to 132 marks a forbidden sheet of width 1 to 4": what is above 128 is
-- the width, and 128 the mark
unfoldable pub width_of : List ℕ → ℕ → ℕ
width_of b s = byte_at b (24 + 8 * s) % 128

-- the mark is there
unfoldable pub forbids_of : List ℕ → ℕ → Bool
forbids_of b s = nat_le 128 (byte_at b (24 + 8 * s))

-- "Bytes 1 to 4: k column numbers"
abbrev pub column_of : List ℕ → ℕ → ℕ → ℕ
column_of b s j = byte_at b (25 + 8 * s + j)

-- "Bytes 6, 7: rows n"
abbrev pub rows_of : List ℕ → ℕ → ℕ
rows_of b s = half_at b (30 + 8 * s)

-- ---- what is wrong in a field
-- "bytes 0 to 3: the letters FGB1 in ASCII", which are 70, 71, 66 and 49; one field
unfoldable pub wrong_letters : List ℕ → Bool
wrong_letters b = not (word_at b 0 == 70 + 71 * 256 + 66 * 65536 + 49 * 16777216)

-- "columns C, 1 to 16"
unfoldable pub wrong_columns : List ℕ → Bool
wrong_columns b = out_of_range 1 16 (columns_of b)

-- "sheets S, 0 to 8"
unfoldable pub wrong_sheets : List ℕ → Bool
wrong_sheets b = out_of_range 0 8 (sheets_of b)

-- "1 to 32 for i < C, else zero"
unfoldable pub wrong_values : List ℕ → ℕ → Bool
wrong_values b c = cond (nat_lt c (columns_of b)) (out_of_range 1 32 (values_of b c)) (set_at b (8 + c))

-- "width k, 1 to 4", with the mark or without
unfoldable pub wrong_width : List ℕ → ℕ → Bool
wrong_width b s = out_of_range 1 4 (width_of b s)

-- number j of the columns of sheet s is not above the one before
unfoldable pub not_rising : List ℕ → ℕ → ℕ → Bool
not_rising b s j = not (j == 0) && nat_le (column_of b s j) (column_of b s (j - 1))

-- "k column numbers below C, each above the one before; the rest zero"
unfoldable pub wrong_column : List ℕ → ℕ → ℕ → Bool
wrong_column b s j = cond (nat_lt j (width_of b s)) (nat_le (columns_of b) (column_of b s j) || not_rising b s j) (set_at b (25 + 8 * s + j))

-- "rows n, 0 to 508"
unfoldable pub wrong_rows : List ℕ → ℕ → Bool
wrong_rows b s = out_of_range 0 508 (rows_of b s)

-- a wrong field begins at byte o of the entry of sheet s, one of the S; byte 7 belongs to the field before it
unfoldable pub wrong_in_entry : List ℕ → ℕ → ℕ → Bool
wrong_in_entry b s o =
    cond (o == 0) (wrong_width b s)
    (cond (nat_lt o 5) (wrong_column b s (o - 1))
    (cond (o == 5) (set_at b (29 + 8 * s))
    (cond (o == 6) (wrong_rows b s)
    false)))

-- "Entries from S on are all zero."
unfoldable pub wrong_entry : List ℕ → ℕ → ℕ → Bool
wrong_entry b s o = cond (nat_lt s (sheets_of b)) (wrong_in_entry b s o) (set_at b (24 + 8 * s + o))

-- a wrong field of the head begins at byte i. "bytes 6, 7: zero", "bytes 88 to 507: zero"
unfoldable pub wrong_field : List ℕ → ℕ → Bool
wrong_field b i =
    cond (i == 0) (wrong_letters b)
    (cond (nat_lt i 4) false
    (cond (i == 4) (wrong_columns b)
    (cond (i == 5) (wrong_sheets b)
    (cond (nat_lt i 8) (set_at b i)
    (cond (nat_lt i 24) (wrong_values b (i - 8))
    (cond (nat_lt i 88) (wrong_entry b ((i - 24) / 8) ((i - 24) % 8))
    (set_at b i)))))))

-- "3 if a head field is wrong, place the offset of the first one, in offset order, zeros counted byte by byte"; 508 where none is
unfoldable pub first_wrong_field : List ℕ → ℕ
first_wrong_field b = lowest 508 (wrong_field b)

-- no field of the head is wrong
abbrev pub RightHead : List ℕ → Type 0
RightHead b = NoneIn (wrong_field b) 0 508
