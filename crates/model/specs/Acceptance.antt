-- The examples of document 01 that the customer accepts by: harbour book H, the ten facts K1 to K10, the run of seven lines; and beside
-- them what the search finds and with how many tries, refusals, bytes, valid rows, done sheets, and what demand 3 leaves free. Each record is proved in proofs/Acceptance.antt under
-- its name with a small letter; `BooksWellFormed`, `RowFacts` and `AnyBoard` in proofs/Witness.antt.
use Rattle.std.specs.Prelude.{◌≡◌, true, false, List, [], ◌∷◌, ◌++◌, ℕ, zero, suc, replicate}
use Rattle.std.proofs.Math.Option.{none, some}
use Rattle.fields.specs.Bytes.{byte_at}
use Rattle.model.specs.Books.{Sheet, Book, WellFormed, sheet_at}
use Rattle.model.specs.Search.{searched}
use Rattle.model.specs.Orders.{try_limit, Entry, checkpoint, refusal, trail, domains}
use Rattle.model.specs.Answers.{Answer, answers, last_answer, accepted_count, answer_bytes}
use Rattle.model.specs.States.{choices_but, valid_rows_at, valid_word, StateOf}
use Rattle.model.specs.Demands.{SameAllowed}
use Rattle.model.specs.Twins.{SameAnswers}
use Rattle.model.specs.WrittenOut.{written_row, written_sheet, written_out}

abbrev pub sheet_of : List ℕ → List (List ℕ) → Sheet
sheet_of cs rs = record { forbids = false; columns = cs; rows = rs }

-- "H has three columns: 0 width with V 3, 1 motor with V 2, 2 board with V 2. … Sheet 0 (width, motor): 00 10 11 21. Sheet 1 (motor,
-- board): 00 01 11."
abbrev pub H : Book
H = record {
  counts = 3 ∷ 2 ∷ 2 ∷ [];
  sheets =
      sheet_of (0 ∷ 1 ∷ []) ((0 ∷ 0 ∷ []) ∷ (1 ∷ 0 ∷ []) ∷ (1 ∷ 1 ∷ []) ∷ (2 ∷ 1 ∷ []) ∷ [])
      ∷ sheet_of (1 ∷ 2 ∷ []) ((0 ∷ 0 ∷ []) ∷ (0 ∷ 1 ∷ []) ∷ (1 ∷ 1 ∷ []) ∷ [])
      ∷ [];
}

-- K7: "three columns of 2 values and a sheet 01 10 on each pair"
abbrev pub unequal : List (List ℕ)
unequal = (0 ∷ 1 ∷ []) ∷ (1 ∷ 0 ∷ []) ∷ []

abbrev pub H7 : Book
H7 = record {
  counts = 2 ∷ 2 ∷ 2 ∷ [];
  sheets = sheet_of (0 ∷ 1 ∷ []) unequal ∷ sheet_of (0 ∷ 2 ∷ []) unequal ∷ sheet_of (1 ∷ 2 ∷ []) unequal ∷ [];
}

-- K8: "a sheet without rows"; K9: "no sheets"
abbrev pub H8 : Book
H8 = record { counts = 3 ∷ 2 ∷ 2 ∷ []; sheets = sheet_of (0 ∷ 1 ∷ []) [] ∷ [] }

abbrev pub H9 : Book
H9 = record { counts = 3 ∷ 2 ∷ 2 ∷ []; sheets = [] }

abbrev pub narrow : ℕ → ℕ → List ℕ
narrow c m = 1 ∷ c ∷ 0 ∷ 0 ∷ m ∷ 0 ∷ 0 ∷ 0 ∷ []

abbrev pub mark : List ℕ
mark = 2 ∷ 0 ∷ 0 ∷ 0 ∷ 0 ∷ 0 ∷ 0 ∷ 0 ∷ []

abbrev pub back : ℕ → List ℕ
back m = 3 ∷ m ∷ 0 ∷ 0 ∷ 0 ∷ 0 ∷ 0 ∷ 0 ∷ []

abbrev pub finish : List ℕ
finish = 4 ∷ 0 ∷ 0 ∷ 0 ∷ 0 ∷ 0 ∷ 0 ∷ 0 ∷ []

-- a finish with a limit below 256
abbrev pub finish_in : ℕ → List ℕ
finish_in n = 4 ∷ 0 ∷ 0 ∷ 0 ∷ n ∷ 0 ∷ 0 ∷ 0 ∷ []

-- the tries of a finish, and the answer in the order of a printed line: "refusal, status, depth, done, byte 3, the C domains"
abbrev pub tried : ℕ → ℕ → ℕ → ℕ → ℕ → ℕ → List ℕ → Answer
tried t r s k n f B = record { refused = r; status = s; depth = k; outcome = f; done = n; tries = t; shown = B }

abbrev pub line : ℕ → ℕ → ℕ → ℕ → ℕ → List ℕ → Answer
line r s k n f B = tried 0 r s k n f B

pub record TenFacts : Type 0 where
  -- "K1 opening: domains 7 3 3, done 0."
  pub k1 : last_answer H [] ≡ line 0 1 0 0 0 (7 ∷ 3 ∷ 3 ∷ [])
  -- "K2 narrow width 4: 4 2 2, decided, done 3."
  pub k2 : last_answer H (narrow 0 4 ∷ []) ≡ line 0 2 0 3 0 (4 ∷ 2 ∷ 2 ∷ [])
  -- "K3 narrow board 1: 3 1 1, open, done 3."
  pub k3 : last_answer H (narrow 2 1 ∷ []) ≡ line 0 1 0 3 0 (3 ∷ 1 ∷ 1 ∷ [])
  -- "K4 then motor 2: dead, zeros."
  pub k4 : last_answer H (narrow 2 1 ∷ narrow 1 2 ∷ []) ≡ line 0 0 0 0 0 (0 ∷ 0 ∷ 0 ∷ [])
  -- "K5 narrow width 2: 2 3 3, done 1."
  pub k5 : last_answer H (narrow 0 2 ∷ []) ≡ line 0 1 0 1 0 (2 ∷ 3 ∷ 3 ∷ [])
  -- "K6 finish at opening: 1 1 1."
  pub k6 : last_answer H (finish ∷ []) ≡ tried 2 0 1 0 0 1 (1 ∷ 1 ∷ 1 ∷ [])
  -- "K7 three columns of 2 values and a sheet 01 10 on each pair: domains 3 3 3, finish none."
  pub k7 : (domains H7 [] ≡ 3 ∷ 3 ∷ 3 ∷ []) × (last_answer H7 (finish ∷ []) ≡ tried 2 0 1 0 0 2 (0 ∷ 0 ∷ 0 ∷ []))
  -- "K8 a sheet without rows: dead."
  pub k8 : last_answer H8 [] ≡ line 0 0 0 0 0 (0 ∷ 0 ∷ 0 ∷ [])
  -- "K9 no sheets: all values stay."
  pub k9 : last_answer H9 [] ≡ line 0 1 0 0 0 (7 ∷ 3 ∷ 3 ∷ [])
  -- "K10 narrow width 8: refusal 22."
  pub k10 : last_answer H (narrow 0 8 ∷ []) ≡ line 22 1 0 0 0 (7 ∷ 3 ∷ 3 ∷ [])

-- "On H with mark, narrow board 1, finish, back 1, back 1, narrow width 4"
abbrev pub example_orders : List (List ℕ)
example_orders = mark ∷ narrow 2 1 ∷ finish ∷ back 1 ∷ back 1 ∷ narrow 0 4 ∷ []

pub record SevenLines : Type 0 where
  pub lines : answers H example_orders
      ≡ line 0 1 0 0 0 (7 ∷ 3 ∷ 3 ∷ [])
      ∷ line 0 1 1 0 0 (7 ∷ 3 ∷ 3 ∷ [])
      ∷ line 0 1 1 3 0 (3 ∷ 1 ∷ 1 ∷ [])
      ∷ tried 1 0 1 1 3 1 (1 ∷ 1 ∷ 1 ∷ [])
      ∷ line 0 1 0 0 0 (7 ∷ 3 ∷ 3 ∷ [])
      ∷ line 24 1 0 0 0 (7 ∷ 3 ∷ 3 ∷ [])
      ∷ line 0 2 0 3 0 (4 ∷ 2 ∷ 2 ∷ [])
      ∷ []
  -- "accepted 5"
  pub accepted : accepted_count H example_orders ≡ 5

-- ---- the search
-- two columns of 2 values and the sheet 01 10
abbrev pub H2 : Book
H2 = record { counts = 2 ∷ 2 ∷ []; sheets = sheet_of (0 ∷ 1 ∷ []) unequal ∷ [] }

-- K7 on columns 1 to 3 where column 0 is 0, and one set where it is 1
abbrev pub dead_first : List (List ℕ)
dead_first = (0 ∷ 0 ∷ 1 ∷ []) ∷ (0 ∷ 1 ∷ 0 ∷ []) ∷ (1 ∷ 0 ∷ 0 ∷ []) ∷ []

abbrev pub HD : Book
HD = record {
  counts = 2 ∷ 2 ∷ 2 ∷ 2 ∷ [];
  sheets =
      sheet_of (0 ∷ 1 ∷ 2 ∷ []) dead_first ∷ sheet_of (0 ∷ 1 ∷ 3 ∷ []) dead_first ∷ sheet_of (0 ∷ 2 ∷ 3 ∷ []) dead_first ∷ [];
}

pub record SearchFacts : Type 0 where
  -- K6: width 0 leaves both boards, and board 0 is the second try. K7: each of the two tries ends dead
  pub k6 : searched H (domains H []) ≡ record { solution = some (0 ∷ 0 ∷ 0 ∷ []); tries = 2 }
  pub k7 : searched H7 (domains H7 []) ≡ record { solution = none; tries = 2 }
  -- "The search sets the lowest column that isn't single": the highest first would find 10
  pub lowest_column : searched H2 (domains H2 []) ≡ record { solution = some (0 ∷ 1 ∷ []); tries = 1 }
  -- tries below a value that comes to nothing count, also where a set is found after it: 0, under it 0 and 1, and 1
  pub dead_first_shown : searched HD (domains HD []) ≡ record { solution = some (1 ∷ 0 ∷ 0 ∷ 0 ∷ []); tries = 4 }

-- request W4, on both sides of each limit
pub record TriesFacts : Type 0 where
  -- "stopped, exactly when the answer needs more tries than the limit; the domains are then zero"; found with the last try
  pub stopped_at_1 : last_answer H (finish_in 1 ∷ []) ≡ tried 1 0 1 0 0 3 (0 ∷ 0 ∷ 0 ∷ [])
  pub found_at_2 : last_answer H (finish_in 2 ∷ []) ≡ tried 2 0 1 0 0 1 (1 ∷ 1 ∷ 1 ∷ [])
  -- "A larger limit never changes found or none, nor the set"
  pub found_at_3 : last_answer H (finish_in 3 ∷ []) ≡ tried 2 0 1 0 0 1 (1 ∷ 1 ∷ 1 ∷ [])
  -- none with the last try, which ends dead, as the first does
  pub k7_stopped : last_answer H7 (finish_in 1 ∷ []) ≡ tried 1 0 1 0 0 3 (0 ∷ 0 ∷ 0 ∷ [])
  pub k7_none : last_answer H7 (finish_in 2 ∷ []) ≡ tried 2 0 1 0 0 2 (0 ∷ 0 ∷ 0 ∷ [])
  -- dead and decided: no try
  pub failed : last_answer H (narrow 1 0 ∷ finish_in 1 ∷ []) ≡ tried 0 0 0 0 0 2 (0 ∷ 0 ∷ 0 ∷ [])
  pub decided : last_answer H (narrow 0 4 ∷ finish_in 1 ∷ []) ≡ tried 0 0 2 0 3 1 (4 ∷ 2 ∷ 2 ∷ [])
  -- "a limit from 1 to 65,535; 0 is read as 65,535"
  pub limit_0 : try_limit finish ≡ 65535
  pub limit_1 : try_limit (finish_in 1) ≡ 1
  pub limit_65535 : try_limit (4 ∷ 0 ∷ 0 ∷ 0 ∷ 255 ∷ 255 ∷ 0 ∷ 0 ∷ []) ≡ 65535

-- ---- refusals: "Within a kind, the cause written first counts"
-- an order with an argument, byte 2, byte 3, the mask's lowest and its highest byte
abbrev pub order : ℕ → ℕ → ℕ → ℕ → ℕ → ℕ → List ℕ
order k a x y lo hi = k ∷ a ∷ x ∷ y ∷ lo ∷ 0 ∷ 0 ∷ hi ∷ []

-- a trail of n checkpoints
abbrev pub checkpoints : ℕ → List Entry
checkpoints zero = []
checkpoints (suc n) = checkpoint ∷ checkpoints n

pub record RefusalFacts : Type 0 where
  -- narrow: 25, then 21, then 22
  pub narrow_byte_2 : refusal H [] (order 1 3 1 0 255 0) ≡ 25
  pub narrow_byte_3 : refusal H [] (order 1 3 0 1 255 0) ≡ 25
  pub narrow_column : refusal H [] (order 1 3 0 0 255 0) ≡ 21
  pub narrow_mask : refusal H [] (order 1 1 0 0 4 0) ≡ 22
  pub narrow_mask_high : refusal H [] (order 1 1 0 0 3 128) ≡ 22
  pub narrow_all : refusal H [] (order 1 0 0 0 7 0) ≡ 0
  -- "mask 0 is accepted and makes the session dead", its finish "says none", and a back past it brings it back to life
  pub narrow_none : last_answer H (narrow 1 0 ∷ []) ≡ line 0 0 0 0 0 (0 ∷ 0 ∷ 0 ∷ [])
  pub failed_finish : last_answer H (narrow 1 0 ∷ finish ∷ []) ≡ line 0 0 0 0 2 (0 ∷ 0 ∷ 0 ∷ [])
  pub failed_back : last_answer H (mark ∷ narrow 1 0 ∷ back 1 ∷ []) ≡ line 0 1 0 0 0 (7 ∷ 3 ∷ 3 ∷ [])
  -- "a dead session gives the same refusals as an open one"
  pub failed_refusal : last_answer H (narrow 1 0 ∷ back 1 ∷ []) ≡ line 24 0 0 0 0 (0 ∷ 0 ∷ 0 ∷ [])
  -- mark: 25, then 23; "mark 16 is accepted, mark 17 refused"
  pub mark_argument : refusal H (checkpoints 16) (order 2 1 0 0 0 0) ≡ 25
  pub mark_last_byte : refusal H (checkpoints 16) (order 2 0 0 0 0 1) ≡ 25
  pub mark_16 : refusal H (checkpoints 15) mark ≡ 0
  pub mark_17 : refusal H (checkpoints 16) mark ≡ 23
  -- back: 25, then 24
  pub back_byte_2 : refusal H [] (order 3 0 1 0 0 0) ≡ 25
  pub back_last_byte : refusal H [] (order 3 0 0 0 0 1) ≡ 25
  pub back_0 : refusal H (checkpoints 2) (back 0) ≡ 24
  pub back_above : refusal H (checkpoints 2) (back 3) ≡ 24
  pub back_depth : refusal H (checkpoints 2) (back 2) ≡ 0
  -- finish: 25, "which covers only bytes 1 to 3 here", then 27
  pub finish_argument : refusal H [] (order 4 1 0 0 0 1) ≡ 25
  pub finish_byte_2 : refusal H [] (order 4 0 1 0 0 1) ≡ 25
  pub finish_byte_3 : refusal H [] (order 4 0 0 1 0 1) ≡ 25
  pub finish_last_byte : refusal H [] (order 4 0 0 0 0 1) ≡ 27
  pub finish_65536 : refusal H [] (4 ∷ 0 ∷ 0 ∷ 0 ∷ 0 ∷ 0 ∷ 1 ∷ 0 ∷ []) ≡ 27
  pub finish_65535 : refusal H [] (4 ∷ 0 ∷ 0 ∷ 0 ∷ 255 ∷ 255 ∷ 0 ∷ 0 ∷ []) ≡ 0
  -- a refused finish has byte 3 zero, shows the domains and no tries
  pub finish_refused : last_answer H (order 4 1 0 0 0 0 ∷ []) ≡ line 25 1 0 0 0 (7 ∷ 3 ∷ 3 ∷ [])
  pub finish_too_large : last_answer H (order 4 0 0 0 0 1 ∷ []) ≡ line 27 1 0 0 0 (7 ∷ 3 ∷ 3 ∷ [])
  -- "Other kinds are refused with 20, before the rest"
  pub kind_0 : refusal H [] (order 0 3 1 1 255 255) ≡ 20
  pub kind_7 : refusal H [] (order 7 3 1 1 255 255) ≡ 20

-- ---- bytes: "fields of several bytes have the lowest byte first"
-- one column of 32 values, no sheet
abbrev pub H1 : Book
H1 = record { counts = 32 ∷ []; sheets = [] }

pub record ByteFacts : Type 0 where
  -- a mark, and a narrow whose mask has the bytes 1 2 3 4: so has the domain shown
  pub narrow_bytes : answer_bytes (last_answer H1 (mark ∷ (1 ∷ 0 ∷ 0 ∷ 0 ∷ 1 ∷ 2 ∷ 3 ∷ 4 ∷ []) ∷ []))
      ≡ 0 ∷ 1 ∷ 1 ∷ 0 ∷ 0 ∷ 0 ∷ 0 ∷ 0 ∷ 1 ∷ 2 ∷ 3 ∷ 4 ∷ replicate 60 0
  -- answer 3 of the run of seven lines
  pub finish_bytes : answer_bytes (last_answer H (mark ∷ narrow 2 1 ∷ finish ∷ []))
      ≡ 0 ∷ 1 ∷ 1 ∷ 1 ∷ 3 ∷ 0 ∷ 1 ∷ 0 ∷ 1 ∷ 0 ∷ 0 ∷ 0 ∷ 1 ∷ 0 ∷ 0 ∷ 0 ∷ 1 ∷ 0 ∷ 0 ∷ 0 ∷ replicate 52 0
  -- 258 tries
  pub tries_bytes : answer_bytes (tried 258 0 1 0 0 3 []) ≡ 0 ∷ 1 ∷ 0 ∷ 3 ∷ 0 ∷ 0 ∷ 2 ∷ 1 ∷ replicate 64 0

-- ---- valid rows
-- the state of H at its opening: rows 0 to 3 of sheet 0, rows 0 to 2 of sheet 1
abbrev pub opening_rows : List ℕ
opening_rows = 15 ∷ 0 ∷ 0 ∷ 0 ∷ 0 ∷ 0 ∷ 0 ∷ 0 ∷ 7 ∷ 0 ∷ 0 ∷ 0 ∷ 0 ∷ 0 ∷ 0 ∷ 0 ∷ []

abbrev pub opening_index : List ℕ
opening_index = 0 ∷ 1 ∷ 2 ∷ 3 ∷ 4 ∷ 5 ∷ 6 ∷ 7 ∷ 0 ∷ 1 ∷ 2 ∷ 3 ∷ 4 ∷ 5 ∷ 6 ∷ 7 ∷ []

pub record RowFacts : Type 0 where
  pub opening : StateOf H (domains H []) (7 ∷ 3 ∷ 3 ∷ []) opening_rows opening_index (1 ∷ 1 ∷ [])
  -- K3: narrow board 1 leaves rows 00 and 10, and row 00
  pub narrowed_0 : valid_word (domains H (trail H (narrow 2 1 ∷ []))) (sheet_at H 0) 0 ≡ 3
  pub narrowed_1 : valid_word (domains H (trail H (narrow 2 1 ∷ []))) (sheet_at H 1) 0 ≡ 1

-- ---- "Any board" in one row
-- H with one row for motor 0 and any board, where H has a row for each board
abbrev pub HA : Book
HA = record {
  counts = H.counts;
  sheets = sheet_at H 0 ∷ sheet_of (1 ∷ 2 ∷ []) ((0 ∷ 255 ∷ []) ∷ (1 ∷ 1 ∷ []) ∷ []) ∷ [];
}

pub record WrittenOutFacts : Type 0 where
  -- "Row byte 255 in a used column stands for all its values": all 3 of column 0. A plain row stays
  pub one : written_sheet (3 ∷ 2 ∷ []) (sheet_of (0 ∷ 1 ∷ []) ((255 ∷ 1 ∷ []) ∷ (2 ∷ 0 ∷ []) ∷ []))
      ≡ sheet_of (0 ∷ 1 ∷ []) ((0 ∷ 1 ∷ []) ∷ (1 ∷ 1 ∷ []) ∷ (2 ∷ 1 ∷ []) ∷ (2 ∷ 0 ∷ []) ∷ [])
  -- each 255 of a row for itself
  pub two : written_row (3 ∷ 2 ∷ []) (0 ∷ 1 ∷ []) (255 ∷ 255 ∷ [])
      ≡ (0 ∷ 0 ∷ []) ∷ (0 ∷ 1 ∷ []) ∷ (1 ∷ 0 ∷ []) ∷ (1 ∷ 1 ∷ []) ∷ (2 ∷ 0 ∷ []) ∷ (2 ∷ 1 ∷ []) ∷ []
  pub harbour : written_out HA ≡ H

-- so every list of orders is answered over it as over H
pub record AnyBoard : Type 0 where
  pub same : SameAnswers HA H

-- ---- done
-- two columns, the first of n values, the second of 2, and a sheet of these rows
abbrev pub pairs : ℕ → List (List ℕ) → Book
pairs n rs = record { counts = n ∷ 2 ∷ []; sheets = sheet_of (0 ∷ 1 ∷ []) rs ∷ [] }

-- "all four of 2 motors by 2 boards", and without the last
abbrev pub four_rows : List (List ℕ)
four_rows = (0 ∷ 0 ∷ []) ∷ (0 ∷ 1 ∷ []) ∷ (1 ∷ 0 ∷ []) ∷ (1 ∷ 1 ∷ []) ∷ []

abbrev pub three_rows : List (List ℕ)
three_rows = (0 ∷ 0 ∷ []) ∷ (0 ∷ 1 ∷ []) ∷ (1 ∷ 0 ∷ []) ∷ []

-- a third motor, with board 0 alone; motor 0 with any board, and motor 1 with each, or with one
abbrev pub five_rows : List (List ℕ)
five_rows = (2 ∷ 0 ∷ []) ∷ four_rows

abbrev pub any_rows : List (List ℕ)
any_rows = (0 ∷ 255 ∷ []) ∷ (1 ∷ 0 ∷ []) ∷ (1 ∷ 1 ∷ []) ∷ []

abbrev pub few_any_rows : List (List ℕ)
few_any_rows = (0 ∷ 255 ∷ []) ∷ (1 ∷ 0 ∷ []) ∷ []

pub record DoneFacts : Type 0 where
  -- "A sheet that permits all four of 2 motors by 2 boards is over for the buyer too, though two columns are open."
  pub all_four : last_answer (pairs 2 four_rows) [] ≡ line 0 1 0 1 0 (3 ∷ 3 ∷ [])
  -- one choice is missing, that of the highest values; and so it is where a row stands twice
  pub one_missing : last_answer (pairs 2 three_rows) [] ≡ line 0 1 0 0 0 (3 ∷ 3 ∷ [])
  pub row_twice : last_answer (pairs 2 ((1 ∷ 0 ∷ []) ∷ three_rows)) [] ≡ line 0 1 0 0 0 (3 ∷ 3 ∷ [])
  -- a choice goes by the current domains: without motor 2 every one is allowed
  pub five : last_answer (pairs 3 five_rows) [] ≡ line 0 1 0 0 0 (7 ∷ 3 ∷ [])
  pub five_narrowed : last_answer (pairs 3 five_rows) (narrow 0 3 ∷ []) ≡ line 0 1 0 1 0 (3 ∷ 3 ∷ [])
  -- several rows together allow every choice, one with 255 among them
  pub any_and_plain : last_answer (pairs 2 any_rows) [] ≡ line 0 1 0 1 0 (3 ∷ 3 ∷ [])
  pub any_and_one : last_answer (pairs 2 few_any_rows) [] ≡ line 0 1 0 0 0 (3 ∷ 3 ∷ [])
  -- "the session isn't dead"
  pub failed : last_answer (pairs 2 four_rows) (narrow 1 0 ∷ []) ≡ line 0 0 0 0 0 (0 ∷ 0 ∷ [])

-- ---- forbidden sheets
-- a sheet of "the few sets that clash"
abbrev pub clashes : List ℕ → List (List ℕ) → Sheet
clashes cs rs = record { forbids = true; columns = cs; rows = rs }

-- two columns of 2 values, and these pairs forbidden
abbrev pub without : List (List ℕ) → Book
without rs = record { counts = 2 ∷ 2 ∷ []; sheets = clashes (0 ∷ 1 ∷ []) rs ∷ [] }

-- H with a forbidden pair: width 0 does not go with board 0
abbrev pub HF : Book
HF = record { counts = H.counts; sheets = H.sheets ++ (clashes (0 ∷ 2 ∷ []) ((0 ∷ 0 ∷ []) ∷ []) ∷ []) }

pub record ForbiddenFacts : Type 0 where
  -- "no rows forbid nothing", and the sheet is done; all four rows leave nothing
  pub no_rows : last_answer (without []) [] ≡ line 0 1 0 1 0 (3 ∷ 3 ∷ [])
  pub all_rows : last_answer (without four_rows) [] ≡ line 0 0 0 0 0 (0 ∷ 0 ∷ [])
  -- "a combination is allowed when it isn't a row": each value has another partner, and one loses it though no row is cut
  pub one_row : last_answer (without ((0 ∷ 0 ∷ []) ∷ [])) [] ≡ line 0 1 0 0 0 (3 ∷ 3 ∷ [])
  pub no_row_cut : last_answer (without ((0 ∷ 0 ∷ []) ∷ [])) (narrow 1 1 ∷ []) ≡ line 0 2 0 1 0 (2 ∷ 1 ∷ [])
  -- a value that clashes with all of the other column is struck, and its rows are valid no more
  pub own_strike : last_answer (without ((0 ∷ 0 ∷ []) ∷ (0 ∷ 1 ∷ []) ∷ [])) [] ≡ line 0 1 0 1 0 (2 ∷ 3 ∷ [])
  pub own_rows : valid_word (2 ∷ 3 ∷ []) (clashes (0 ∷ 1 ∷ []) ((0 ∷ 0 ∷ []) ∷ (0 ∷ 1 ∷ []) ∷ [])) 0 ≡ 0
  -- counting: two rows have value 0 at place 0, as many as there are choices for place 1; one has value 1 at place 1, of two
  pub counted : valid_rows_at (3 ∷ 3 ∷ []) (clashes (0 ∷ 1 ∷ []) ((0 ∷ 0 ∷ []) ∷ (0 ∷ 1 ∷ []) ∷ [])) 0 0 ≡ 2
  pub choices : choices_but (3 ∷ 3 ∷ []) (clashes (0 ∷ 1 ∷ []) ((0 ∷ 0 ∷ []) ∷ (0 ∷ 1 ∷ []) ∷ [])) 0 ≡ 2
  pub fewer : valid_rows_at (3 ∷ 3 ∷ []) (clashes (0 ∷ 1 ∷ []) ((0 ∷ 0 ∷ []) ∷ (0 ∷ 1 ∷ []) ∷ [])) 1 1 ≡ 1
  -- a mixed book: the opening shows what H does; the first full set is the second of H; board 0 leaves width 1 alone; with board 1 the pair cannot be
  -- had, and the sheet is done
  pub opening : last_answer HF [] ≡ line 0 1 0 0 0 (7 ∷ 3 ∷ 3 ∷ [])
  pub first_set : last_answer HF (finish ∷ []) ≡ tried 1 0 1 0 0 1 (1 ∷ 1 ∷ 2 ∷ [])
  pub board_0 : last_answer HF (narrow 2 1 ∷ []) ≡ line 0 2 0 7 0 (2 ∷ 1 ∷ 1 ∷ [])
  pub board_1 : last_answer HF (narrow 2 2 ∷ []) ≡ line 0 1 0 6 0 (7 ∷ 3 ∷ 2 ∷ [])
  -- two lists with equal allowed values end alike there, and a narrower one within a wider
  pub same_lists : SameAllowed HF (trail HF (mark ∷ narrow 2 1 ∷ [])) (trail HF (narrow 2 3 ∷ narrow 2 1 ∷ []))
  pub same_ends : last_answer HF (narrow 2 3 ∷ narrow 2 1 ∷ []) ≡ line 0 2 0 7 0 (2 ∷ 1 ∷ 1 ∷ [])
  pub narrower_end : last_answer HF (narrow 0 5 ∷ narrow 2 2 ∷ []) ≡ line 0 1 0 6 0 (5 ∷ 3 ∷ 2 ∷ [])

-- ---- the books of this page are well-formed
pub record BooksWellFormed : Type 0 where
  pub h : WellFormed H
  pub h1 : WellFormed H1
  pub h2 : WellFormed H2
  pub h7 : WellFormed H7
  pub h8 : WellFormed H8
  pub h9 : WellFormed H9
  pub hd : WellFormed HD
  pub ha : WellFormed HA
  pub four : WellFormed (pairs 2 four_rows)
  pub three : WellFormed (pairs 2 ((1 ∷ 0 ∷ []) ∷ three_rows))
  pub five : WellFormed (pairs 3 five_rows)
  pub with_any : WellFormed (pairs 2 any_rows)
  pub few_any : WellFormed (pairs 2 few_any_rows)
  pub hf : WellFormed HF
  pub none_forbidden : WellFormed (without [])
  pub all_forbidden : WellFormed (without four_rows)

-- "Depth and byte 0 may differ between the lists": a mark, or an order of an unknown kind, after the opening
abbrev pub unknown : List ℕ
unknown = 9 ∷ 0 ∷ 0 ∷ 0 ∷ 0 ∷ 0 ∷ 0 ∷ 0 ∷ []

pub record MayDiffer : Type 0 where
  pub same_marked : SameAllowed H (trail H []) (trail H (mark ∷ []))
  pub depths : (byte_at (answer_bytes (last_answer H [])) 2 ≡ 0) × (byte_at (answer_bytes (last_answer H (mark ∷ []))) 2 ≡ 1)
  pub same_unknown : SameAllowed H (trail H []) (trail H (unknown ∷ []))
  pub refusals : (byte_at (answer_bytes (last_answer H [])) 0 ≡ 0) × (byte_at (answer_bytes (last_answer H (unknown ∷ []))) 0 ≡ 20)
