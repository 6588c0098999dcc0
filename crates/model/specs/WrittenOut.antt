-- A book with its short rows, those with 255, written out as plain rows: "What a buyer sees of an accepted book must equal a book with such rows
-- written out, where that book is within the limits." What runs over the two leave: `WrittenOutRuns` (crate promises).
use Rattle.std.specs.Prelude.{false, cond, ℕ, ◌≤◌, length, get_or}
use mathlib.Core.List.{List, [], ◌∷◌, Memᴰ, map, flat_map}
use Rattle.model.specs.Tests.{tab}
use Rattle.model.specs.Books.{Sheet, Book, is_any, WellFormed}
use Rattle.model.specs.Twins.{Combination, Twins, SameAnswers}

-- "Row byte 255 in a used column stands for all its values.": the values that the cell x of a column with n values stands for
unfoldable pub written_cell : ℕ → ℕ → List ℕ
written_cell n x = cond (is_any x) (tab n (λ v. v)) (x ∷ [])

-- the rows that one row of a sheet with these columns is written out as: each value of its first cell in front of each row of the rest
unfoldable pub written_row : List ℕ → List ℕ → List ℕ → List (List ℕ)
written_row counts [] [] = [] ∷ []
written_row counts [] (x ∷ r) = []
written_row counts (c ∷ cs) [] = []
written_row counts (c ∷ cs) (x ∷ r) = flat_map (λ v. map (λ t. v ∷ t) (written_row counts cs r)) (written_cell (get_or counts c 0) x)

-- "such rows written out": a sheet with the rows that its rows stand for, in their order. A forbidden sheet has no such rows, and stays
unfoldable pub written_sheet : List ℕ → Sheet → Sheet
written_sheet counts s = cond s.forbids s (record { forbids = false; columns = s.columns; rows = flat_map (written_row counts s.columns) s.rows })

-- "a book with such rows written out"
unfoldable pub written_out : Book → Book
written_out b = record { counts = b.counts; sheets = map (written_sheet b.counts) b.sheets }

-- a book without 255: each row has in every cell a value of its column, and V is 32 at most
pub record Plain (b : Book) : Type 0 where
  pub row : (s : Sheet) → Memᴰ s b.sheets → (r : List ℕ) → Memᴰ r s.rows → Combination b.counts s.columns r

-- ---- the claims, proved in proofs/WrittenOut.antt
-- the written-out book allows the same
abbrev pub WrittenOutTwins : Type 0
WrittenOutTwins = (b : Book) → WellFormed b → Twins b (written_out b)

-- so it is answered alike, within the limits or not
abbrev pub WrittenOutAnswers : Type 0
WrittenOutAnswers = (b : Book) → WellFormed b → SameAnswers b (written_out b)

-- it has no 255
abbrev pub WrittenOutPlain : Type 0
WrittenOutPlain = (b : Book) → WellFormed b → Plain (written_out b)

-- "where that book is within the limits": the only limit that it may pass is that of the rows
abbrev pub WrittenOutFormed : Type 0
WrittenOutFormed =
    (b : Book) → WellFormed b → ((s : Sheet) → Memᴰ s (written_out b).sheets → length s.rows ≤ 508) → WellFormed (written_out b)
