-- Two books compared: what runs over twins leave (`Twins`: model, Twins), and over a book and the one with its rows written out (model, WrittenOut). b and
-- c are the bytes of the books. Quoted is request W2.
use Rattle.std.specs.Prelude.{◌≡◌, List, ℕ}
use Rattle.model.specs.Twins.{Twins}
use Rattle.model.specs.WrittenOut.{written_out}
use Rattle.book.specs.Decoding.{book_of}
use Rattle.book.specs.Verdicts.{Accepted, check_result}
use Rattle.runs.specs.Results.{run_result, run_space}

-- "What a buyer sees" of one is what he sees of the other
pub record TwinRuns (b c : List ℕ) : Type 0 where
  -- the number of the check
  pub figure : check_result b ≡ check_result c
  -- every byte of the answer space, of every list and in every space
  pub spaces : (o space : List ℕ) → run_space b o space ≡ run_space c o space
  -- and the number of the run, a refusal or the accepted orders
  pub numbers : (o : List ℕ) (room : ℕ) → run_result b o room ≡ run_result c o room

-- ---- the claims, which `twins_run_alike` and `written_out_runs` of proofs/Twins.antt prove
abbrev pub TwinsRunAlike : Type 0
TwinsRunAlike = (b c : List ℕ) → Accepted b → Accepted c → Twins (book_of b) (book_of c) → TwinRuns b c

-- "What a buyer sees of an accepted book must equal a book with such rows written out, where that book is within the limits": where it is accepted
abbrev pub WrittenOutRuns : Type 0
WrittenOutRuns = (b c : List ℕ) → Accepted b → Accepted c → book_of c ≡ written_out (book_of b) → TwinRuns b c
