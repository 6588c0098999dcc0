-- The look at a sheet, as the engine sees it: in the model's words, and of either kind of sheet.
--
-- Names: D are the domains, W, X, N the arrays of words, index positions and counts of words that are not zero; a second set has a '.
use Rattle.std.specs.Prelude.{◌≡◌, Bool, false, true, ◌⊎◌, List, Err, Ok, Result, ◌<◌, ℕ, get_or}
use Rattle.model.specs.Books.{Settles, supported_in, sheet_at}
use Rattle.model.specs.Masks.{bit}
use Rattle.model.specs.States.{of_sheet, valid_word}
use Rattle.model.specs.Stores.{Within, has}
use Rattle.book.specs.Decoding.{book_of}
use Rattle.heads.specs.Heads.{column_of, width_of}
use Rattle.words.specs.Sheets.{IndexOf, OnlySheet, Sized}
use Rattle.looks.specs.Strikes.{Loses}

-- the values without support in sheet s are struck, and no other; `lost` are the columns that lost one
pub record Struck (b : List ℕ) (s : ℕ) (D D' : List ℕ) (lost : ℕ) : Type 0 where
  pub loses : Loses D D' lost
  pub settles : Settles D D' (sheet_at (book_of b) s)

-- sheet s has looked at the domains E: its words are the rows that are valid there, with their index, and every value left has support. At the opening,
-- at which no sheet has looked, the last is not known
pub record Seen (b : List ℕ) (s : ℕ) (opening : Bool) (E W X N : List ℕ) : Type 0 where
  pub rows : (w : ℕ) → w < 8 → of_sheet W s w ≡ valid_word E (sheet_at (book_of b) s) w
  pub indexed : IndexOf s W X N
  pub supported : opening ≡ false → (c v : ℕ) → has E c v ≡ true → supported_in E c v (sheet_at (book_of b) s) ≡ true

-- what is known of sheet s while the engine works: it has looked at some domains, and D are these but for columns in `changed`, which lost values since
pub record SheetKnown (b : List ℕ) (s changed : ℕ) (opening : Bool) (D W X N : List ℕ) : Type 0 where
  pub saw : List ℕ
  pub seen : Seen b s opening saw W X N
  pub within : Within D saw
  pub same : (c : ℕ) → bit c changed ≡ false → get_or D c 0 ≡ get_or saw c 0

-- sheet s has been looked at. It is satisfied, and then it has seen the new domains, and no column became empty; or no value of its columns has
-- support. The new domains are the old ones without values that have no support, and `lost` are the columns that lost one
pub record Revised (b : List ℕ) (s : ℕ) (D W X N D' W' X' N' : List ℕ) (satisfied : Bool) (lost : ℕ) : Type 0 where
  pub loses : Loses D D' lost
  pub struck : (c v : ℕ) → has D c v ≡ true → (has D' c v ≡ true) ⊎ (supported_in D c v (sheet_at (book_of b) s) ≡ false)
  pub seen : satisfied ≡ true → Seen b s false D' W' X' N'
  pub filled : satisfied ≡ true → (c v : ℕ) → has D c v ≡ true → (u : ℕ) × (has D' c u ≡ true)
  pub failed : satisfied ≡ false → (j v : ℕ) → j < width_of b s → supported_in D (column_of b s j) v (sheet_at (book_of b) s) ≡ false
  pub indexed : IndexOf s W' X' N'
  pub only : OnlySheet s W X N W' X' N'
  pub sized : Sized W' X' N'

-- r tells what a look came to: the columns that lost a value, as an error where the sheet is not satisfied
abbrev pub Looked : List ℕ → ℕ → (D W X N D' W' X' N' : List ℕ) → Result ℕ ℕ → Type 0
Looked b s D W X N D' W' X' N' (Ok lost) = Revised b s D W X N D' W' X' N' true lost
Looked b s D W X N D' W' X' N' (Err lost) = Revised b s D W X N D' W' X' N' false lost
