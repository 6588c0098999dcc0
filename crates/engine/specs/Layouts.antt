-- What the engine keeps of a book.
--
--     begins    | byte where the rows of sheet 0 begin | of sheet 1 | ..        scopes    | columns of sheet 0, bit c for column c | of sheet 1 | ..
--     shorts    | places of sheet 0 at which a row has 255, bit 8 j + 7 for place j | of sheet 1 | ..
use Rattle.std.specs.Prelude.{◌≡◌, true, List, ℕ, ◌≤◌, ◌<◌, get_or}
use Rattle.model.specs.Masks.{bit}
use Rattle.heads.specs.Heads.{column_of, sheets_of, width_of}
use Rattle.book.specs.Verdicts.{Accepted}
use Rattle.words.specs.Sheets.{ShortPlaces, first_byte}

-- m has the columns of sheet s, and no other. The bars make it a fact without a choice of j, as a ghost field wants; `column_place` (proofs/Layouts) gives j
pub record ColumnsIn (b : List ℕ) (s m : ℕ) : Type 0 where
  pub all : (j : ℕ) → j < width_of b s → bit (column_of b s j) m ≡ true
  pub only : (c : ℕ) → bit c m ≡ true → ∥ ((j : ℕ) × (j < width_of b s) × (column_of b s j ≡ c)) ∥₁

-- where the rows of each sheet of an accepted book begin, and where it has 255: what is asked of the book's layout by all that does not propagate
pub record SheetsLaid (b begins shorts : List ℕ) : Type 0 where
  pub accepted : Accepted b
  pub starts : (s : ℕ) → s < sheets_of b → get_or begins s 0 ≡ first_byte b s
  pub any : (s : ℕ) → s < sheets_of b → ShortPlaces b s (get_or shorts s 0)

-- the layout of an accepted book: where the rows of each sheet begin, its columns, and where it has 255; no columns past the last sheet
pub record LayoutOf (b begins scopes shorts : List ℕ) : Type 0 where
  pub accepted : Accepted b
  pub starts : (s : ℕ) → s < sheets_of b → get_or begins s 0 ≡ first_byte b s
  pub columns : (s : ℕ) → s < sheets_of b → ColumnsIn b s (get_or scopes s 0)
  pub any : (s : ℕ) → s < sheets_of b → ShortPlaces b s (get_or shorts s 0)
  pub past : (s : ℕ) → sheets_of b ≤ s → get_or scopes s 0 ≡ 0
