-- Whether every choice is matched by a row that is set. A choice t has the value t j at each of the four places j, one of the set that x has there.
--
-- Names: W, X, N are the arrays of words, index positions and counts of words that are not zero, T a table.
use Rattle.std.specs.Prelude.{◌≡◌, Bool, ◌&&◌, ◌||◌, cond, false, true, ◌⊎◌, List, ◌*◌, ◌+◌, ◌<◌, ◌^◌, ◌≤◌, suc, zero, ℕ, eqb, ltb, get_or, length}
use Rattle.std.specs.Int.Bits.{bit_or}
use Rattle.fields.specs.Bytes.{byte_at}
use Rattle.model.specs.Books.{matches, sheet_at}
use Rattle.model.specs.Masks.{bit, size}
use Rattle.model.specs.States.{of_sheet, valid_word}
use Rattle.book.specs.Decoding.{book_of}
use Rattle.heads.specs.Heads.{column_of, width_of}
use Rattle.cells.specs.Cells.{IsCell}
use Rattle.words.specs.Sheets.{is_set, value_at}

-- ---- choices
-- t takes one value of each of the sets x
pub record ChosenFrom (x : List ℕ) (t : ℕ → ℕ) : Type 0 where
  pub each : (j : ℕ) → j < 4 → bit (t j) (get_or x j 0) ≡ true

-- a row of sheet s that is set matches the choice t
pub record MatchedBy (b : List ℕ) (s : ℕ) (W : List ℕ) (t : ℕ → ℕ) : Type 0 where
  pub row : ℕ
  pub small : row < 512
  pub set_row : is_set W s row ≡ true
  pub cells : (j : ℕ) → j < 4 → matches (value_at b s row j) (t j) ≡ true

-- "every choice of one value from the current domain of each column of the sheet is allowed by it": each choice from x is matched
pub record AllMatched (b : List ℕ) (s : ℕ) (W x : List ℕ) : Type 0 where
  pub each : (t : ℕ → ℕ) → ChosenFrom x t → MatchedBy b s W t

-- r tells whether it is so
pub record TellsMatched (b : List ℕ) (s : ℕ) (W x : List ℕ) (r : Bool) : Type 0 where
  pub yes : r ≡ true → AllMatched b s W x
  pub no : r ≡ false → AllMatched b s W x → ⊥

-- no set is empty
pub record FilledSets (x : List ℕ) : Type 0 where
  pub some : (j : ℕ) → j < 4 → (v : ℕ) × (bit v (get_or x j 0) ≡ true)

-- ---- the quick no
-- how many choices the places below n have where no row has 255; at the other places one value stands for all
unfoldable pub plain_choices : ℕ → List ℕ → ℕ → ℕ
plain_choices shorts x zero = 1
plain_choices shorts x (suc n) = plain_choices shorts x n * cond (bit (8 * n + 7) shorts) 1 (size (get_or x n 0))

-- Z has the number of values of each domain in D below column n
pub record SizesTo (D : List ℕ) (n : ℕ) (Z : List ℕ) : Type 0 where
  pub all : length Z ≡ 16
  pub at : (c : ℕ) → c < n → get_or Z c 0 ≡ size (get_or D c 0)

-- sixteen such numbers, of domains of 32 values at most
pub record FewValues (Z : List ℕ) : Type 0 where
  pub all : length Z ≡ 16
  pub most : (c : ℕ) → c < 16 → get_or Z c 0 ≤ 32

-- the same number of choices for the places below n of sheet s, from the sizes of its columns' domains
unfoldable pub plain_in : List ℕ → ℕ → ℕ → List ℕ → ℕ → ℕ
plain_in b s shorts Z zero = 1
plain_in b s shorts Z (suc n) = plain_in b s shorts Z n * cond (bit (8 * n + 7) shorts) 1 (get_or Z (column_of b s n) 0)

-- ---- the table
--
--              slot of place 1:   0      1      ..   31     32
--     slot of place 2:  0         set    set    ..   set    set          each set: values of place 0, bit a for value a
--                       1         set    ..                              a row stands at the slots of its cells at places 2 and 1:
--                       ..                                               a value has its own, 255 has slot 32
--                       32        set    ..                 set          the set at slots i and j is entry 33 i + j
--
unfoldable pub slot : ℕ → ℕ
slot x = cond (ltb x 32) x 32

-- the entry of the slots i and j
abbrev pub entry_at : List ℕ → ℕ → ℕ → ℕ
entry_at T i j = get_or T (33 * i + j) 0

-- 1,089 sets of 32 bits
pub record IsTable (T : List ℕ) : Type 0 where
  pub size : length T ≡ 1089
  pub fits : (i : ℕ) → get_or T i 0 < 2 ^ 32

-- a row stands at byte `at`, and its first cell is one
pub record RowAt (b : List ℕ) (at : ℕ) : Type 0 where
  pub there : at + 3 < length b
  pub first : IsCell (byte_at b at)

-- r are the values that the cell x matches
pub record MatchedValues (x r : ℕ) : Type 0 where
  pub at : (a : ℕ) → a < 32 → bit a r ≡ matches x a

-- T' is the table T and a row with the cells x, y and z at places 0, 1 and 2
pub record RowPut (x y z : ℕ) (T T' : List ℕ) : Type 0 where
  pub table : IsTable T'
  pub at : (i a : ℕ) → a < 32 → bit a (get_or T' i 0) ≡ (bit a (get_or T i 0) || (eqb i (33 * slot z + slot y) && matches x a))

-- T' is the table T and the rows that pass; `cell k j` is the cell of row k at place j
pub record Tabled (cell : ℕ → ℕ → ℕ) (passes : ℕ → Bool) (T T' : List ℕ) : Type 0 where
  pub table : IsTable T'
  pub old : (i a : ℕ) → a < 32 → bit a (get_or T i 0) ≡ true → bit a (get_or T' i 0) ≡ true
  pub new : (k a : ℕ) → a < 32 → passes k ≡ true → matches (cell k 0) a ≡ true → bit a (entry_at T' (slot (cell k 2)) (slot (cell k 1))) ≡ true
  pub sound : (i a : ℕ) → a < 32 → bit a (get_or T' i 0) ≡ true
      → (bit a (get_or T i 0) ≡ true) ⊎ ((k : ℕ) × (passes k ≡ true) × (33 * slot (cell k 2) + slot (cell k 1) ≡ i) × (matches (cell k 0) a ≡ true))

-- row r of sheet s is set and matches the value v at place 3
unfoldable pub set_with : List ℕ → ℕ → List ℕ → ℕ → ℕ → Bool
set_with b s W v r = ltb r 512 && (is_set W s r && matches (value_at b s r 3) v)

-- T has those rows
abbrev pub TableOf : List ℕ → ℕ → List ℕ → ℕ → List ℕ → List ℕ → Type 0
TableOf b s W v T T' = Tabled (value_at b s) (set_with b s W v) T T'

-- the values of place 0 that the table allows with c at place 2 and e at place 1
unfoldable pub allowed_with : List ℕ → ℕ → ℕ → ℕ
allowed_with T c e = bit_or (bit_or (bit_or (entry_at T 32 32) (entry_at T c 32)) (entry_at T 32 e)) (entry_at T c e)

-- r tells whether the table allows each choice from x that has c at place 2, or any value of the set m there
pub record TellsAllowed (T x : List ℕ) (m : ℕ) (r : Bool) : Type 0 where
  pub yes : r ≡ true → (a e c : ℕ) → bit a (get_or x 0 0) ≡ true → bit e (get_or x 1 0) ≡ true → bit c m ≡ true → bit a (allowed_with T c e) ≡ true
  pub no : r ≡ false → (a : ℕ) × (e : ℕ) × (c : ℕ) × (bit a (get_or x 0 0) ≡ true) × (bit e (get_or x 1 0) ≡ true) × (bit c m ≡ true) × (bit a (allowed_with T c e) ≡ false)

-- ---- the sheet
-- the words of sheet s are its rows that are valid in D, and no column of it is empty there
pub record SettledSheet (b : List ℕ) (s : ℕ) (D W : List ℕ) : Type 0 where
  pub rows : (w : ℕ) → w < 8 → of_sheet W s w ≡ valid_word D (sheet_at (book_of b) s) w
  pub filled : (j : ℕ) → j < width_of b s → (v : ℕ) × (bit v (get_or D (column_of b s j) 0) ≡ true)
