-- What `fitting_check` and `fitting_run` give on worked examples: harbour book H, also with a short row or a forbidden pair, each refusal with a place, and whole runs
-- over a book of one column with one value. Proved in proofs/Acceptance.antt.
use Rattle.std.specs.Prelude.{◌≡◌, false, true, List, [], ◌++◌, ◌∷◌, ℕ, replicate, set, take}
use Rattle.model.specs.Acceptance.{HA, HF}
use Rattle.heads.specs.Acceptance.{head, padded}
use Rattle.rows.specs.Acceptance.{both, both_head, both_rows, clash, harbour, long_rows, rows0, rows1, sealed, tiny, tiny_head}
use Rattle.book.specs.Decoding.{book_of}
use Rattle.rows.specs.Rows.{fault, first_fault, not_zero, too_large}
use Rattle.book.specs.Verdicts.{check_result, refused}
use Rattle.runs.specs.Results.{run_refusal, run_result, run_space, wrong_list}
use Rattle.promises.specs.Promises.{ComparedRuns}
use Rattle.promises.specs.Twins.{TwinRuns}

pub record CheckFacts : Type 0 where
  -- "Accepted: C × 16 + S."
  pub harbour_accepted : check_result harbour ≡ 50
  pub tiny_accepted : check_result tiny ≡ 16
  pub empty : check_result [] ≡ refused 1 0
  pub short : check_result (take 511 tiny) ≡ refused 1 0
  pub second_check : check_result (tiny ++ tiny) ≡ refused 2 1
  pub many_values : check_result (sealed 0 (set tiny_head 8 33 ∷ [])) ≡ refused 3 8
  -- "509 is refusal 3"
  pub rows_509 : check_result (sealed 0 (set (set both_head 30 253) 31 1 ∷ [])) ≡ refused 3 30
  pub last_zero : check_result (sealed 0 (set (padded tiny_head) 507 1 ∷ [])) ≡ refused 3 507
  pub block_too_many : check_result (sealed 0 (tiny_head ∷ [] ∷ [])) ≡ refused 4 1

-- checks that end at a row: value 2 in row 1, which begins at byte 516; and the same after a filler of row 0
pub record RowCheckFacts : Type 0 where
  -- "Refusal 5 is now only for a value that is too large."
  pub large_value : check_result (both (set both_rows 4 2)) ≡ refused 5 129
  -- "6 for filler, ranked with 5 by file order"
  pub filler_first : check_result (both (set (set both_rows 3 1) 4 2)) ≡ refused 6 128

-- the same rows in a forbidden sheet: "Its rows rise strictly as byte strings; 255 is refused with 5"
pub record RiseCheckFacts : Type 0 where
  pub rises : check_result (clash both_rows) ≡ 17
  -- "7 for rows that don't rise, place the offset, as in W1, of the first row not above the one before it": row 1 is equal to row 0
  pub equal_rows : check_result (clash (set both_rows 0 1)) ≡ refused 7 129
  -- "after 5 and 6": also where these stand later in the file
  pub filler_later : check_result (clash (set (set both_rows 0 1) 8 1)) ≡ refused 6 130
  pub any_later : check_result (clash (set (set both_rows 0 1) 4 255)) ≡ refused 5 129
  -- rows that are allowed may repeat
  pub plain_rows : check_result (both (set both_rows 0 1)) ≡ 17

-- "for the first fault in file order": a value and a filler of one row; the last byte of the unused rows; in a second block, a value before an unused
-- row, and that row alone
pub record FaultFacts : Type 0 where
  pub value_first : first_fault (both (set (set both_rows 5 1) 4 2)) ≡ fault 516 too_large
  pub unused_end : first_fault (both (set both_rows 507 1)) ≡ fault 1019 not_zero
  pub second_value : first_fault (long_rows 2) ≡ fault 1024 too_large
  pub second_unused : first_fault (long_rows 1) ≡ fault 1028 not_zero

-- ---- "Any board" in one row: H as bytes, with one row for motor 0 and any board in place of a row for each board (HA: model, Acceptance)
abbrev pub any_board : List ℕ
any_board = sealed 0 (set head 38 2 ∷ rows0 ∷ (0 ∷ 255 ∷ 0 ∷ 0 ∷ 1 ∷ 1 ∷ 0 ∷ 0 ∷ []) ∷ [])

pub record AnyBoardFacts : Type 0 where
  -- "Refusal 5 lets 255 pass."
  pub accepted : check_result any_board ≡ 50
  pub stands_for : book_of any_board ≡ HA
  -- "What a buyer sees of an accepted book must equal a book with such rows written out": that is H
  pub runs : TwinRuns any_board harbour

-- ---- "Sheets of forbidden pairs": H as bytes, with a third sheet, of width and board, that forbids the pair 00 (HF: model, Acceptance)
abbrev pub forbidden_pair : List ℕ
forbidden_pair = sealed 0 (set (set (set (set (padded head) 5 3) 40 130) 42 2) 46 1 ∷ rows0 ∷ rows1 ∷ [] ∷ [])

pub record ForbiddenPairFacts : Type 0 where
  pub accepted : check_result forbidden_pair ≡ 51
  pub stands_for : book_of forbidden_pair ≡ HF
  -- "A buyer's comparison between lists covers mixed books.": any two lists over it, as over every book
  pub compared : (x y : List ℕ) → ComparedRuns forbidden_pair x y

-- a mark, a narrow of column 0 to no value, an order of no kind
abbrev pub three_orders : List ℕ
three_orders = (2 ∷ 0 ∷ 0 ∷ 0 ∷ 0 ∷ 0 ∷ 0 ∷ 0 ∷ []) ++ (1 ∷ 0 ∷ 0 ∷ 0 ∷ 0 ∷ 0 ∷ 0 ∷ 0 ∷ []) ++ (9 ∷ 0 ∷ 0 ∷ 0 ∷ 0 ∷ 0 ∷ 0 ∷ 0 ∷ [])

-- 72 bytes of an answer: refusal r, status s, depth d, the domain m of column 0, and zeros
abbrev pub tiny_answer : ℕ → ℕ → ℕ → ℕ → List ℕ
tiny_answer r s d m = r ∷ s ∷ d ∷ 0 ∷ 0 ∷ 0 ∷ 0 ∷ 0 ∷ m ∷ replicate 63 0

pub record RunFacts : Type 0 where
  -- "Refused as a book is; then 10 …; 11 …"
  pub no_book : run_refusal [] (0 ∷ []) 0 ≡ refused 1 0
  pub ragged : run_refusal tiny (0 ∷ []) 0 ≡ refused 10 0
  -- "256 orders run, 257 give 10"
  pub orders_256 : wrong_list (replicate 2048 0) ≡ false
  pub orders_257 : wrong_list (replicate 2056 0) ≡ true
  -- "11 if the answer space is shorter than 72 × (n + 1) for n orders, place that many bytes"
  pub short_space : run_refusal tiny three_orders 287 ≡ refused 11 288
  pub exact_space : run_refusal tiny three_orders 288 ≡ 0
  -- "Accepted: the number of accepted orders"
  pub two_accepted : run_result tiny three_orders 288 ≡ 2
  -- the answers, and "Later bytes of the space are untouched"
  pub four_answers : run_space tiny three_orders (replicate 290 7)
      ≡ tiny_answer 0 2 0 1 ++ tiny_answer 0 2 1 1 ++ tiny_answer 0 0 1 0 ++ tiny_answer 20 0 1 0 ++ (7 ∷ 7 ∷ [])
  -- "a refused run writes nothing"
  pub nothing_written : run_space tiny three_orders (replicate 287 7) ≡ replicate 287 7
