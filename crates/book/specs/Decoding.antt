-- The book that the bytes of an accepted file stand for.
use Rattle.std.specs.Prelude.{◌≡◌, List, ℕ, ◌+◌, ◌*◌, length}
use Rattle.model.specs.Books.{Book, Sheet, WellFormed, column_count}
use Rattle.model.specs.Tests.{tab}
use Rattle.fields.specs.Bytes.{byte_at}
use Rattle.heads.specs.Heads.{column_of, columns_of, forbids_of, rows_of, sheets_of, values_of, width_of}
use Rattle.rows.specs.Rows.{row_place}
use Rattle.book.specs.Verdicts.{Accepted, check_result}

-- "A row is 4 bytes: k values …"
unfoldable pub row_of : List ℕ → ℕ → ℕ → List ℕ
row_of b s r = tab (width_of b s) (λ j. byte_at b (row_place b s r + j))

-- sheet s: its mark and the columns of its entry, and its rows
unfoldable pub sheet_of : List ℕ → ℕ → Sheet
sheet_of b s = record { forbids = forbids_of b s; columns = tab (width_of b s) (column_of b s); rows = tab (rows_of b s) (row_of b s) }

-- the book: V of each of the C columns, and the S sheets
unfoldable pub book_of : List ℕ → Book
book_of b = record { counts = tab (columns_of b) (values_of b); sheets = tab (sheets_of b) (sheet_of b) }

-- an accepted book decodes to a well-formed one, and its figure is that book's: proved in proofs/Decoding.antt
pub record AcceptedBook (b : List ℕ) : Type 0 where
  pub well_formed : WellFormed (book_of b)
  -- "Accepted: C × 16 + S."
  pub figure : check_result b ≡ column_count (book_of b) * 16 + length (book_of b).sheets

-- the claim, of every byte string
abbrev pub AcceptedWellFormed : Type 0
AcceptedWellFormed = (b : List ℕ) → Accepted b → AcceptedBook b
