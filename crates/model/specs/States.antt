-- Valid rows (document 01: live rows), what they say of a book with one sheet, the rows as words, the index of the words, and what a state
-- holds when a trail stands.
use Rattle.std.specs.Prelude.{◌≡◌, Bool, true, false, ◌&&◌, ◌↔◌, List, [], ◌∷◌, ℕ, ◌+◌, ◌*◌, ◌^◌, ◌≤◌, ◌<◌, eqb, ltb, length, get_or}
use Rattle.model.specs.Tests.{count}
use Rattle.model.specs.Masks.{mask_of}
use Rattle.model.specs.Stores.{has, IsStore}
use Rattle.model.specs.Choices.{pick, space_but}
use Rattle.model.specs.Books.{Sheet, Book, Support, column_count, WellFormed, WellFormedSheet, closure, in_domain, matches, sheet_at}

-- "A row lies in a box when its other values do and the 255 columns aren't empty": one cell for each of these columns
unfoldable pub valid : List ℕ → List ℕ → List ℕ → Bool
valid D [] [] = true
valid D [] (v ∷ r) = false
valid D (c ∷ cs) [] = false
valid D (c ∷ cs) (x ∷ r) = in_domain x (get_or D c 0) && valid D cs r

-- row r of the sheet is valid in D. Formula (3.1) of document 000: i ∈ currTable ⇔ ∀ x ∈ scp(c) : τ_i[x] ∈ dom(x)
unfoldable pub valid_row : List ℕ → Sheet → ℕ → Bool
valid_row D s r = ltb r (length s.rows) && valid D s.columns (get_or s.rows r [])

-- a row of the sheet that is valid in D and carries the value v at place i: its cell there matches v, and v is in the column's domain. With 255,
-- "it carries every value there"
pub record ValidSupport (D : List ℕ) (s : Sheet) (i v : ℕ) : Type 0 where
  pub row : ℕ
  pub is_valid : valid_row D s row ≡ true
  pub value : matches (get_or (get_or s.rows row []) i 0) v ≡ true
  pub there : has D (get_or s.columns i 0) v ≡ true

-- there is one exactly when there is a support (Books): so a sound box, which speaks of allowed combinations, is one in which "every value of every
-- column of that sheet is carried by a row of that sheet lying in the box". Proved as `supports_by_rows` (proofs/Rows.antt), of sheets that allow their rows
abbrev pub SupportsByRows : Type 0
SupportsByRows = (D : List ℕ) (s : Sheet) → s.forbids ≡ false → (i v : ℕ) → i < length s.columns → Support D s i v ↔ ValidSupport D s i v

-- how many rows of the sheet are valid in D and have the value v at place i
unfoldable pub valid_rows_at : List ℕ → Sheet → ℕ → ℕ → ℕ
valid_rows_at D s i v = count (length s.rows) (λ r. valid_row D s r && eqb (get_or (get_or s.rows r []) i 0) v)

-- how many choices D has for the other places of the sheet
abbrev pub choices_but : List ℕ → Sheet → ℕ → ℕ
choices_but D s i = space_but i (pick D s.columns)

-- of a forbidden sheet, whose rows do not repeat, the value v of place i has support exactly when fewer valid rows have it there than there are choices for
-- the other places. Proved as `supports_by_counting` (proofs/Counting.antt)
abbrev pub SupportsByCounting : Type 0
SupportsByCounting =
    (D counts : List ℕ) (s : Sheet) → WellFormedSheet counts s → ((c : ℕ) → c < length counts → get_or counts c 0 ≤ 32) → ((c : ℕ) → get_or D c 0 < 2 ^ 32)
    → s.forbids ≡ true → (i v : ℕ) → i < length s.columns
    → has D (get_or s.columns i 0) v ≡ true → Support D s i v ↔ (valid_rows_at D s i v < choices_but D s i)

-- "For one sheet this is formulas (3.1) and (3.2) of source document 000": the closure of A where s is the only sheet, from the rows that
-- are valid in A itself, once and with no fixed point
pub record OneSheet (b : Book) (s : Sheet) (A : List ℕ) : Type 0 where
  -- (3.1): a row is valid exactly when each of its cells is in the domain that A has for its column
  pub row : (r : ℕ) → r < length s.rows
      → (valid_row A s r ≡ true) ↔ ((i : ℕ) → i < length s.columns → in_domain (get_or (get_or s.rows r []) i 0) (get_or A (get_or s.columns i 0) 0) ≡ true)
  -- (3.2): a value of the sheet's column at place i is left exactly when a valid row carries it there
  pub own : (i : ℕ) → i < length s.columns → (v : ℕ) → (has (closure b A) (get_or s.columns i 0) v ≡ true) ↔ ValidSupport A s i v
  -- any other column keeps its values, where there is a valid row at all
  pub other : (c : ℕ) → ((i : ℕ) → i < length s.columns → get_or s.columns i 0 ≡ c → ⊥) → (v : ℕ)
      → (has (closure b A) c v ≡ true) ↔ ((has A c v ≡ true) × ((r : ℕ) × (valid_row A s r ≡ true)))

-- so it is for every well-formed book with one sheet that allows its rows and every store with no empty column (with one, no consistent store lies within).
-- Proved as `one_sheets` (proofs/OneSheet.antt)
abbrev pub OneSheets : Type 0
OneSheets =
    (b : Book) (s : Sheet) (A : List ℕ) → WellFormed b → b.sheets ≡ s ∷ [] → s.forbids ≡ false → IsStore (column_count b) A
    → ((c : ℕ) → c < column_count b → (v : ℕ) × (has A c v ≡ true)) → OneSheet b s A

-- word w of the sheet's valid rows: "Row r is bit r mod 64 of word r div 64"
unfoldable pub valid_word : List ℕ → Sheet → ℕ → ℕ
valid_word D s w = mask_of 64 (λ k. valid_row D s (64 * w + k))

-- "An index lists word numbers as a permutation, and position i is at or below the limit exactly when the word it names isn't zero"
-- Each of the eight word numbers stands at one position.
-- n is the number of words that are not zero, one more than the limit: "With no live row the limit is −1", and n is 0
--
--     position   0   1   2 | 3   4   5   6   7        n = 3
--     index      5   0   2 | 7   1   6   3   4        words 5, 0 and 2 have a valid row, the others are zero
--
pub record Indexed (index : ℕ → ℕ) (n : ℕ) (word : ℕ → ℕ) : Type 0 where
  pub few : n ≤ 8
  pub each : (i : ℕ) → i < 8 → index i < 8
  pub once : (i j : ℕ) → i < 8 → j < 8 → index i ≡ index j → i ≡ j
  pub every : (w : ℕ) → w < 8 → (i : ℕ) × (i < 8) × (index i ≡ w)
  pub limit : (i : ℕ) → i < 8 → (i < n) ↔ (0 < word (index i))

-- ---- "eight 64-bit words for each sheet, held with the domains"
--
--     valid   | sheet 0: 8 words | sheet 1: 8 words | ..      index   | sheet 0: 8 positions | sheet 1: 8 positions | ..
--
-- entry i of sheet s in an array with eight for each sheet
abbrev pub of_sheet : List ℕ → ℕ → ℕ → ℕ
of_sheet xs s i = get_or xs (8 * s + i) 0

-- "arrays of live-row words, index positions, limits and domains" are the state of a store D: its domains, its valid rows, and an index of their words.
-- A limit is held as the number of words that are not zero, which is one more
pub record StateOf (b : Book) (D dom valid index nonzero : List ℕ) : Type 0 where
  pub domain : (c : ℕ) → get_or dom c 0 ≡ get_or D c 0
  pub rows : (s w : ℕ) → s < length b.sheets → w < 8 → of_sheet valid s w ≡ valid_word D (sheet_at b s) w
  pub indexed : (s : ℕ) → s < length b.sheets → Indexed (of_sheet index s) (get_or nonzero s 0) (of_sheet valid s)
