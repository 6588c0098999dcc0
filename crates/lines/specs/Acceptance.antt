-- Worked examples of the text: document 01's run, its line 3 from the bytes, numbers and refusals. Proved in proofs/Acceptance.antt.
use Rattle.std.specs.Prelude.{◌≡◌, List, [], ◌∷◌, ◌++◌, ℕ, replicate}
use Rattle.model.specs.Answers.{accepted_count, all_bytes, answers}
use Rattle.model.specs.Acceptance.{H, example_orders}
use Rattle.book.specs.Verdicts.{refused}
use Rattle.lines.specs.Texts.{ascii, number, answer_line, printed}

-- the seven lines of document 01, and the last
abbrev pub example_text : List ℕ
example_text =
    ascii "0 0 1 0 0 0 7 3 3\n"
    ++ ascii "1 0 1 1 0 0 7 3 3\n"
    ++ ascii "2 0 1 1 3 0 3 1 1\n"
    ++ ascii "3 0 1 1 3 1 1 1 1\n"
    ++ ascii "4 0 1 0 0 0 7 3 3\n"
    ++ ascii "5 24 1 0 0 0 7 3 3\n"
    ++ ascii "6 0 2 0 3 0 4 2 2\n"
    ++ ascii "accepted 5\n"

-- answer 3 of that run: status 1, depth 1, a full set found, both sheets done, value 0 in each of three columns
abbrev pub answer3 : List ℕ
answer3 =
    0 ∷ 1 ∷ 1 ∷ 1 ∷ 3 ∷ 0 ∷ 0 ∷ 0 ∷ 1 ∷ 0 ∷ 0 ∷ 0 ∷ 1 ∷ 0 ∷ 0 ∷ 0 ∷ 1 ∷ 0 ∷ 0 ∷ 0 ∷ replicate 52 0

pub record TextFacts : Type 0 where
  -- "On H with mark, narrow board 1, finish, back 1, back 1, narrow width 4", from the orders to the text
  pub example : printed (accepted_count H example_orders) 3 6 (all_bytes (answers H example_orders)) ≡ example_text
  pub line_3 : answer_line 3 3 answer3 ≡ ascii "3 0 1 1 3 1 1 1 1\n"
  -- "fields of several bytes have the lowest byte first"
  pub domain_bytes_shown : answer_line 1 256 (replicate 8 0 ++ (1 ∷ 2 ∷ 0 ∷ 128 ∷ [])) ≡ ascii "256 0 0 0 0 0 2147484161\n"
  pub none : number 0 ≡ ascii "0"
  pub inner_zeros : number 65536000 ≡ ascii "65536000"
  pub largest : number 18446744073709551615 ≡ ascii "18446744073709551615"
  -- "257 give 10", with place 0
  pub list_refused : printed (refused 10 0) 3 256 [] ≡ ascii "refused 10 0\n"
  pub book_refused : printed (refused 3 30) 3 6 (all_bytes (answers H example_orders)) ≡ ascii "refused 3 30\n"
