-- What a run of a list gives: its number, and the answer space when it is over. b and o are the bytes of the book and of the orders: `book_of b`
-- (book, Decoding) is the book that they stand for, `orders_of o` (sessions, Lists) the orders, 8 bytes each. Quoted are document 01 and the demands.
use Rattle.std.specs.Prelude.{◌≡◌, Bool, ◌||◌, cond, false, not, List, ◌%◌, ◌*◌, ◌+◌, ◌/◌, ◌≤◌, ℕ, Result, Ok, Err, eqb, leb, ltb, length}
use Rattle.model.specs.Answers.{accepted_count, answers}
use Rattle.book.specs.Decoding.{book_of}
use Rattle.book.specs.Refusals.{refusal_number}
use Rattle.book.specs.Verdicts.{Accepted, check_result, refused}
use Rattle.sessions.specs.Lists.{orders_of}
use Rattle.answers.specs.Spaces.{written}
use Rattle.runs.specs.declared.run.RunRefusal.{RunRefusal}
use Rattle.runs.specs.declared.run.RunRefusal.TheVariants as refusal

-- "10 if the orders aren't a multiple of 8 bytes or exceed 2,048 bytes"
unfoldable pub wrong_list : List ℕ → Bool
wrong_list o = ltb 2048 (length o) || not (eqb (length o % 8) 0)

-- "72 × (n + 1) for n orders"
abbrev pub space_needed : List ℕ → ℕ
space_needed o = 72 * (length o / 8 + 1)

-- "Refused as a book is; then 10 if …, place 0; 11 if the answer space is shorter than 72 × (n + 1) for n orders, place that many bytes": the
-- number returned, or 0 where the run is accepted
unfoldable pub run_refusal : List ℕ → List ℕ → ℕ → ℕ
run_refusal b o room =
    cond (leb 65536 (check_result b)) (check_result b)
    (cond (wrong_list o) (refused 10 0)
    (cond (ltb room (space_needed o)) (refused 11 (space_needed o)) 0))

-- nothing of that applies
pub record RightInput (b o : List ℕ) (room : ℕ) : Type 0 where
  pub book : Accepted b
  pub list : wrong_list o ≡ false
  pub enough : space_needed o ≤ room

-- "Accepted: the number of accepted orders"
unfoldable pub run_result : List ℕ → List ℕ → ℕ → ℕ
run_result b o room =
    cond (eqb (run_refusal b o room) 0) (accepted_count (book_of b) (orders_of o)) (run_refusal b o room)

-- the answer space at the end: the answers, and then what was there (`written`: answers, Spaces); "a refused run writes nothing"
unfoldable pub run_space : List ℕ → List ℕ → List ℕ → List ℕ
run_space b o space =
    cond (eqb (run_refusal b o (length space)) 0) (written (answers (book_of b) (orders_of o)) space) space

-- the number of a refusal that the code holds, and of what a run returns
abbrev pub run_refusal_number : RunRefusal → ℕ
run_refusal_number (refusal.Book r) = refusal_number r
run_refusal_number refusal.List = refused 10 0
run_refusal_number (refusal.Space n) = refused 11 n

abbrev pub run_number : Result ℕ RunRefusal → ℕ
run_number (Ok n) = n
run_number (Err r) = run_refusal_number r
