-- The text of a run, from the bytes of a book, of a list of orders and of an answer space.
use Rattle.std.specs.Prelude.{cond, List, ℕ, ◌/◌, ltb, length}
use Rattle.heads.specs.Heads.{columns_of}
use Rattle.lines.specs.Texts.{printed}
use Rattle.runs.specs.Results.{run_result, run_space}

-- what `lines` prints of the run's number, of the book's C columns, of n orders and of the answers
unfoldable pub run_text : List ℕ → List ℕ → List ℕ → List ℕ
run_text b o space = printed (run_result b o (length space)) (columns_of b) (length o / 8) (run_space b o space)

-- how many columns a line can show: an accepted book has at most 16, and of a refused run no line is printed
unfoldable pub columns_shown : List ℕ → ℕ
columns_shown b = cond (ltb 16 (columns_of b)) 0 (columns_of b)
