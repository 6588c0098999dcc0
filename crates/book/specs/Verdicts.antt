-- The verdict on a book, and the number that the call returns.
use Rattle.std.specs.Prelude.{cond, not, List, ℕ, ◌+◌, ◌*◌, ◌/◌, ◌<◌, ltb, eqb}
use Rattle.heads.specs.Blocks.{wrong_length, block_count, first_wrong_check}
use Rattle.heads.specs.Heads.{columns_of, sheets_of, first_wrong_field}
use Rattle.rows.specs.Rows.{blocks_needed, Kind, RowFault, clean, fall_place, fault, first_fall, first_fault, too_large, not_zero}

-- "Refused with" 1 to 7, each with its place, or "Accepted" with C and S
pub data Verdict : Type 0 where
  bad_length : Verdict
  bad_check : ℕ → Verdict
  bad_field : ℕ → Verdict
  bad_blocks : ℕ → Verdict
  bad_value : ℕ → Verdict
  bad_filler : ℕ → Verdict
  bad_order : ℕ → Verdict
  accepted : ℕ → ℕ → Verdict

-- "The place is the offset in the whole file divided by 4, rounded down, for the first fault in file order."
abbrev pub fault_verdict : ℕ → Kind → Verdict
fault_verdict offset too_large = bad_value (offset / 4)
fault_verdict offset not_zero = bad_filler (offset / 4)

-- "7 for rows that don't rise, place the offset, as in W1, of the first row not above the one before it in its sheet, after 5 and 6"
unfoldable pub order_verdict : List ℕ → Verdict
order_verdict b = cond (ltb (first_fall b) (sheets_of b)) (bad_order (fall_place b (first_fall b) / 4)) (accepted (columns_of b) (sheets_of b))

abbrev pub row_verdict : List ℕ → RowFault → Verdict
row_verdict b clean = order_verdict b
row_verdict b (fault offset kind) = fault_verdict offset kind

-- "4 if the blocks aren't 1 plus those of the sheets, place the number needed". "Where several apply, the lowest of these numbers is given."; but
-- "6 for filler, ranked with 5 by file order"
unfoldable pub verdict : List ℕ → Verdict
verdict b =
    cond (wrong_length b) bad_length
    (cond (ltb (first_wrong_check b) (block_count b)) (bad_check (first_wrong_check b))
    (cond (ltb (first_wrong_field b) 508) (bad_field (first_wrong_field b))
    (cond (not (eqb (blocks_needed b) (block_count b))) (bad_blocks (blocks_needed b))
    (row_verdict b (first_fault b)))))

-- "refusal × 65,536 + place"
abbrev pub refused : ℕ → ℕ → ℕ
refused n place = n * 65536 + place

-- the papers' number for each verdict. "Refusal 5 is now only for a value that is too large." "6 for filler". "7 for rows that don't rise". "Accepted:
-- C × 16 + S."
abbrev pub number_of : Verdict → ℕ
number_of bad_length = refused 1 0
number_of (bad_check n) = refused 2 n
number_of (bad_field i) = refused 3 i
number_of (bad_blocks n) = refused 4 n
number_of (bad_value place) = refused 5 place
number_of (bad_filler place) = refused 6 place
number_of (bad_order place) = refused 7 place
number_of (accepted c s) = c * 16 + s

-- "Each call returns one 64-bit number"
unfoldable pub check_result : List ℕ → ℕ
check_result b = number_of (verdict b)

-- the book is accepted: its number is no refusal's
abbrev pub Accepted : List ℕ → Type 0
Accepted b = check_result b < 65536
