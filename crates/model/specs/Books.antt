-- A book: columns, and sheets of rows. What its consistent stores and closure are: "What settled means" of document 01.
use Rattle.std.specs.Prelude.{◌≡◌, Bool, true, false, cond, not, ◌&&◌, ◌||◌, ◌⊎◌, ℕ, suc, ◌^◌, ◌≤◌, ◌<◌, eqb, ltb, length, get_or}
use mathlib.Core.List.{List, [], ◌∷◌, Memᴰ}
use Rattle.model.specs.Tests.{all_in, any_in}
use Rattle.model.specs.Masks.{bit}
use Rattle.model.specs.Stores.{has, Within}
use Rattle.model.specs.Closure.{closure_of}
use Rattle.model.specs.Choices.{pick, Lower, Takes, any_choice}

-- ---- books
-- a sheet: whether its rows are "the few sets that clash", its columns, rising, and its rows, each with one value for each of those columns
pub record Sheet : Type 0 where
  pub forbids : Bool
  pub columns : List ℕ
  pub rows : List (List ℕ)

-- a book: the number of values V of each column ("The values are 0 to V − 1"), and the sheets
pub record Book : Type 0 where
  pub counts : List ℕ
  pub sheets : List Sheet

-- the number of columns C
abbrev pub column_count : Book → ℕ
column_count b = length b.counts

-- what stands for a sheet that the book does not have
abbrev pub no_sheet : Sheet
no_sheet = record { forbids = false; columns = []; rows = [] }

-- sheet s of the book
abbrev pub sheet_at : Book → ℕ → Sheet
sheet_at b s = get_or b.sheets s no_sheet

-- "Row byte 255 in a used column stands for all its values."
abbrev pub is_any : ℕ → Bool
is_any x = eqb x 255

-- the cell x of a row is in the domain d: "A row lies in a box when its other values do and the 255 columns aren't empty". Whatever looks at a
-- cell goes by this
unfoldable pub in_domain : ℕ → ℕ → Bool
in_domain x d = cond (is_any x) (ltb 0 d) (bit x d)

-- it matches the value v: it is in the domain of v alone. So 255 matches every value
abbrev pub matches : ℕ → ℕ → Bool
matches x v = in_domain x (2 ^ v)

-- a row matches the values t, cell by cell
unfoldable pub row_matches : List ℕ → List ℕ → Bool
row_matches [] [] = true
row_matches [] (v ∷ t) = false
row_matches (x ∷ r) [] = false
row_matches (x ∷ r) (v ∷ t) = matches x v && row_matches r t

-- the values t match a row of the sheet: "Full sets match in the same way"
unfoldable pub is_row : Sheet → List ℕ → Bool
is_row s t = any_in s.rows (λ r. row_matches r t)

-- the sheet allows the values t in its columns: they match a row; of a forbidden sheet, "There a combination is allowed when it isn't a row, and no
-- rows forbid nothing". Nothing else looks at rows to say what is allowed
unfoldable pub allows : Sheet → List ℕ → Bool
allows s t = cond s.forbids (not (is_row s t)) (is_row s t)

-- "width k, 1 to 4", "k column numbers below C, each above the one before", "rows n, 0 to 508", "k values, each below its column's V", or 255. Of a
-- forbidden sheet: "Its rows rise strictly as byte strings; 255 is refused"
pub record WellFormedSheet (counts : List ℕ) (s : Sheet) : Type 0 where
  pub some_column : 0 < length s.columns
  pub few_columns : length s.columns ≤ 4
  pub rising : (i j : ℕ) → i < j → j < length s.columns → get_or s.columns i 0 < get_or s.columns j 0
  pub inside : (i : ℕ) → i < length s.columns → get_or s.columns i 0 < length counts
  pub few_rows : length s.rows ≤ 508
  pub row_size : (r : ℕ) → r < length s.rows → length (get_or s.rows r []) ≡ length s.columns
  pub row_value : (r i : ℕ) → r < length s.rows → i < length s.columns
      → ((s.forbids ≡ false) × (is_any (get_or (get_or s.rows r []) i 0) ≡ true)) ⊎ (get_or (get_or s.rows r []) i 0 < get_or counts (get_or s.columns i 0) 0)
  pub row_rises : s.forbids ≡ true → (r : ℕ) → suc r < length s.rows → Lower (get_or s.rows r []) (get_or s.rows (suc r) [])

-- "columns C, 1 to 16", "sheets S, 0 to 8", "values V of column i, 1 to 32"
pub record WellFormed (b : Book) : Type 0 where
  pub some_column : 0 < column_count b
  pub few_columns : column_count b ≤ 16
  pub few_sheets : length b.sheets ≤ 8
  pub some_value : (c : ℕ) → c < column_count b → 0 < get_or b.counts c 0
  pub few_values : (c : ℕ) → c < column_count b → get_or b.counts c 0 ≤ 32
  pub sheet : (s : Sheet) → Memᴰ s b.sheets → WellFormedSheet b.counts s

-- ---- what settled means
-- a support: an allowed tuple, with one value of each domain of the sheet's columns in B (`pick`, `Takes`: Choices), that has the value v at place i.
-- Where rows are allowed there is one exactly when a row of the sheet lies in B and carries v there (`SupportsByRows`, States). That there is one is
-- formula (3.2) of document 000: (currTable ∩ supports[x, a]) ≠ ∅. Where they are forbidden, rows are counted (`SupportsByCounting`)
pub record Support (B : List ℕ) (s : Sheet) (i v : ℕ) : Type 0 where
  pub tuple : List ℕ
  pub sheet_allows : allows s tuple ≡ true
  pub valid : Takes (pick B s.columns) tuple
  pub value : get_or tuple i 0 ≡ v

-- a consistent store: "A sound box has no empty column, and in it, for each sheet, every value of every column of that sheet is carried
-- by a row of that sheet lying in the box"; with forbidden sheets, "Sound boxes, full sets and done then go by allowed combinations"
pub record ConsistentStore (b : Book) (B : List ℕ) : Type 0 where
  pub filled : (c : ℕ) → c < column_count b → (v : ℕ) × (has B c v ≡ true)
  pub support : (s : Sheet) → Memᴰ s b.sheets → (i : ℕ) → i < length s.columns
      → (v : ℕ) → has B (get_or s.columns i 0) v ≡ true → Support B s i v

-- v stays in column c: "the settled domains are the union, column by column, of all sound boxes within" A
pub record Stays (b : Book) (A : List ℕ) (c v : ℕ) : Type 0 where
  pub store : List ℕ
  pub consistent : ConsistentStore b store
  pub within : Within store A
  pub holds : has store c v ≡ true

-- "If there is none": no consistent store lies within A
pub record Fails (b : Book) (A : List ℕ) : Type 0 where
  pub none : (B : List ℕ) → ConsistentStore b B → Within B A → ⊥

-- ---- the same as a computation
-- with these columns, t has the value v in column c
unfoldable pub supports : List ℕ → List ℕ → ℕ → ℕ → Bool
supports [] t c v = false
supports (k ∷ ks) [] c v = false
supports (k ∷ ks) (x ∷ xs) c v = (eqb k c && eqb x v) || supports ks xs c v

-- c is not one of the sheet's columns, or in the store B the sheet allows some choice with the value v in column c
unfoldable pub supported_in : List ℕ → ℕ → ℕ → Sheet → Bool
supported_in B c v s =
    not (any_in s.columns (eqb c)) || any_choice (pick B s.columns) (λ t. allows s t && supports s.columns t c v)

-- "both kinds share one proof of settling, done for any allowed set": E is D without the values that have no support in the sheet. Then each value left has
-- support in E itself (`settles_seen`), and all columns of the sheet are empty or none that had a value is (`settles_filled`, `settles_failed`:
-- proofs/Settling.antt, where nothing is known of `allows`)
pub record Settles (D E : List ℕ) (s : Sheet) : Type 0 where
  pub within : Within E D
  pub struck : (c v : ℕ) → has D c v ≡ true → (has E c v ≡ true) ⊎ (supported_in D c v s ≡ false)
  pub left : (c v : ℕ) → has E c v ≡ true → supported_in D c v s ≡ true

-- every sheet supports v in column c: the book's support test
unfoldable pub supported : Book → List ℕ → ℕ → ℕ → Bool
supported b B c v = all_in b.sheets (supported_in B c v)

-- the settled domains of A. That they have the value v in column c exactly when v `Stays` there is `Demand2.stays` (Demands)
unfoldable pub closure : Book → List ℕ → List ℕ
closure b A = closure_of (column_count b) (supported b) A
