-- One sheet and its rows: which of them are set in the words, and what a pass makes of them. What the engine sees of a sheet is in crate looks.
--
-- Names: W, X, N are the arrays of words, index positions and counts of words that are not zero, D the domains; a second set has a '.
use Rattle.std.specs.Prelude.{◌≡◌, Bool, ◌&&◌, ◌||◌, false, not, true, ◌⊎◌, List, ◌%◌, ◌*◌, ◌+◌, ◌/◌, ◌<◌, ◌^◌, ◌≤◌, suc, zero, ℕ, get_or, length, set}
use Rattle.std.specs.Int.Count.{ones}
use Rattle.model.specs.Books.{in_domain, is_any, matches, sheet_at, supported_in}
use Rattle.model.specs.Masks.{bit}
use Rattle.model.specs.States.{Indexed, of_sheet, valid_row}
use Rattle.model.specs.Stores.{IsStore, has}
use Rattle.model.specs.Tests.{all_below}
use Rattle.book.specs.Decoding.{book_of}
use Rattle.heads.specs.Heads.{column_of, rows_of, sheets_of, width_of}
use Rattle.rows.specs.Rows.{first_block}
use Rattle.book.specs.Verdicts.{Accepted}
use Rattle.counters.specs.Counters.{near_place}
use Rattle.cells.specs.Cells.{Readable, SmallSets, cell_at}

-- ---- the rows of a sheet
-- the byte at which the rows of sheet s begin
abbrev pub first_byte : List ℕ → ℕ → ℕ
first_byte b s = 512 * first_block b s

-- the cell of row r of sheet s at place j: a value or 255
abbrev pub value_at : List ℕ → ℕ → ℕ → ℕ → ℕ
value_at b s r j = cell_at b (first_byte b s) r j

-- s is a sheet of the accepted book b, and its rows begin at `begin`
pub record AtSheet (b : List ℕ) (begin s : ℕ) : Type 0 where
  pub accepted : Accepted b
  pub one : s < sheets_of b
  pub begins : begin ≡ first_byte b s

-- s is a sheet of the accepted book b
abbrev pub IsSheet : List ℕ → ℕ → Type 0
IsSheet b s = AtSheet b (first_byte b s) s

-- row r of sheet s is set: "Row r is bit r mod 64 of word r div 64"
unfoldable pub is_set : List ℕ → ℕ → ℕ → Bool
is_set W s r = bit (r % 64) (of_sheet W s (r / 64))

-- the arrays have their sizes: 64 words of 64 bits, 64 index positions, 8 counts
pub record Sized (W X N : List ℕ) : Type 0 where
  pub words : length W ≡ 64
  pub bits : (i : ℕ) → get_or W i 0 < 2 ^ 64
  pub index : length X ≡ 64
  pub nonzero : length N ≡ 8

-- nothing but rows of the sheet is set
pub record Inside (b : List ℕ) (s : ℕ) (W : List ℕ) : Type 0 where
  pub at : (r : ℕ) → r < 512 → is_set W s r ≡ true → r < rows_of b s

-- the index and the count of sheet s keep document 01's invariant
abbrev pub IndexOf : ℕ → List ℕ → List ℕ → List ℕ → Type 0
IndexOf s W X N = Indexed (of_sheet X s) (get_or N s 0) (of_sheet W s)

-- all that every pass asks of the arrays
pub record SheetWords (b : List ℕ) (s : ℕ) (W X N : List ℕ) : Type 0 where
  pub inside : Inside b s W
  pub indexed : IndexOf s W X N
  pub sized : Sized W X N

-- what the arrays hold of other sheets than s is as it was
pub record OnlySheet (s : ℕ) (W X N W' X' N' : List ℕ) : Type 0 where
  pub words : (t i : ℕ) → i < 8 → (t ≡ s → ⊥) → of_sheet W' t i ≡ of_sheet W t i
  pub index : (t i : ℕ) → i < 8 → (t ≡ s → ⊥) → of_sheet X' t i ≡ of_sheet X t i
  pub nonzero : (t : ℕ) → (t ≡ s → ⊥) → get_or N' t 0 ≡ get_or N t 0

-- ---- pass 1
-- entries i and j of a list change places
unfoldable pub swapped : List ℕ → ℕ → ℕ → List ℕ
swapped xs i j = set (set xs i (get_or xs j 0)) j (get_or xs i 0)

-- y is what is kept of x, which is word w of a sheet: the rows that pass a test
pub record WordKept (test : ℕ → Bool) (w x y : ℕ) : Type 0 where
  pub at : (k : ℕ) → bit k y ≡ (bit k x && test (64 * w + k))

-- x are rows of word w of a sheet, which is there with them
pub record WordThere (b : List ℕ) (begin w x : ℕ) : Type 0 where
  pub few : w < 8
  pub rows : Readable b begin (64 * w) x
  pub near : near_place begin w + 239 < length b

-- what is given for a word of a sheet is what is kept of it by a test; `gives w x y` says that y may be given for the rows x of word w
pub record Keeps (b : List ℕ) (begin : ℕ) (gives : ℕ → ℕ → ℕ → Type 0) (test : ℕ → Bool) : Type 0 where
  pub at : (w x y : ℕ) → WordThere b begin w x → gives w x y → WordKept test w x y

-- the word at position p of the index is cut to the rows that pass a test. If it is zero then, it goes past the limit: positions from p on may
-- change places, and those before p stay
pub record WordCut (test : ℕ → Bool) (s p : ℕ) (W X N W' X' N' : List ℕ) : Type 0 where
  pub word : WordKept test (of_sheet X s p) (of_sheet W s (of_sheet X s p)) (of_sheet W' s (of_sheet X s p))
  pub rest : (w : ℕ) → w < 8 → (w ≡ of_sheet X s p → ⊥) → of_sheet W' s w ≡ of_sheet W s w
  pub before : (i : ℕ) → i < p → of_sheet X' s i ≡ of_sheet X s i
  pub after : (i : ℕ) → p ≤ i → i < 8 → (k : ℕ) × (p ≤ k) × (k < 8) × (of_sheet X' s i ≡ of_sheet X s k)
  pub indexed : IndexOf s W' X' N'
  pub limit : p ≤ get_or N' s 0
  pub only : OnlySheet s W X N W' X' N'
  pub sized : Sized W' X' N'

-- the rows of sheet s are cut to those that pass a test
pub record CutBy (test : ℕ → Bool) (s : ℕ) (W X N W' X' N' : List ℕ) : Type 0 where
  pub at : (r : ℕ) → r < 512 → is_set W' s r ≡ (is_set W s r && test r)
  pub indexed : IndexOf s W' X' N'
  pub only : OnlySheet s W X N W' X' N'
  pub sized : Sized W' X' N'

-- the cell of row r at place j is in d
unfoldable pub value_in : List ℕ → ℕ → ℕ → ℕ → ℕ → Bool
value_in b s j d r = in_domain (value_at b s r j) d

-- the column of place j is not in `changed`, or the cell of row r is in its domain
unfoldable pub passes_at : List ℕ → ℕ → ℕ → List ℕ → ℕ → ℕ → Bool
passes_at b s changed D j r = not (bit (column_of b s j) changed) || in_domain (value_at b s r j) (get_or D (column_of b s j) 0)

-- the same at every place below n
unfoldable pub passes_below : List ℕ → ℕ → ℕ → List ℕ → ℕ → ℕ → Bool
passes_below b s changed D n r = all_below n (λ j. passes_at b s changed D j r)

-- ---- pass 2
-- bit 8 j + 7 of m is set where a row of sheet s has 255 at place j: the highest bit of byte j, as the rows joined by `|` have it
pub record ShortPlaces (b : List ℕ) (s m : ℕ) : Type 0 where
  pub at : (r j : ℕ) → r < rows_of b s → j < 4 → is_any (value_at b s r j) ≡ true → bit (8 * j + 7) m ≡ true

-- a support of the value v at place j (document 01: a row that carries it), among the rows that are set: "it carries every value there"
pub record SetSupport (b : List ℕ) (s : ℕ) (W : List ℕ) (j v : ℕ) : Type 0 where
  pub row : ℕ
  pub small : row < 512
  pub set_row : is_set W s row ≡ true
  pub value : matches (value_at b s row j) v ≡ true

-- y has at each place no value but those with support, and of the values in x each that has it
pub record Supported (b : List ℕ) (s : ℕ) (W x y : List ℕ) : Type 0 where
  pub sound : (j v : ℕ) → j < 4 → bit v (get_or y j 0) ≡ true → SetSupport b s W j v
  pub complete : (j v : ℕ) → j < 4 → bit v (get_or x j 0) ≡ true → SetSupport b s W j v → bit v (get_or y j 0) ≡ true

-- y has at each place no value but those with support, and of each row that is set the last five bits of its cell. What is missing is carried by 255 alone
pub record PlainSeen (b : List ℕ) (s : ℕ) (W y : List ℕ) : Type 0 where
  pub small : SmallSets y
  pub sound : (j v : ℕ) → j < 4 → bit v (get_or y j 0) ≡ true → SetSupport b s W j v
  pub cells : (r j : ℕ) → r < 512 → j < 4 → is_set W s r ≡ true → bit (value_at b s r j % 32) (get_or y j 0) ≡ true

-- besides, y has every value of x with support at the places below n
pub record Widened (b : List ℕ) (s : ℕ) (W x y : List ℕ) (n : ℕ) : Type 0 where
  pub plain : PlainSeen b s W y
  pub complete : (j v : ℕ) → j < n → bit v (get_or x j 0) ≡ true → SetSupport b s W j v → bit v (get_or y j 0) ≡ true

-- the sheet has no 255 at place j, or every value of x is in y
abbrev pub NothingMissed : ℕ → ℕ → ℕ → ℕ → Type 0
NothingMissed shorts j x y = (bit (8 * j + 7) shorts ≡ false) ⊎ ((v : ℕ) → bit v x ≡ true → bit v y ≡ true)

-- row r is set and has 255 at place j
unfoldable pub any_at : List ℕ → ℕ → List ℕ → ℕ → ℕ → Bool
any_at b s W j r = is_set W s r && is_any (value_at b s r j)

-- the sets x are the domains at the places below n, and 0 alone at the others
pub record Wanted (b : List ℕ) (s : ℕ) (D : List ℕ) (n : ℕ) (x : List ℕ) : Type 0 where
  pub small : SmallSets x
  pub at : (j : ℕ) → j < n → get_or x j 0 ≡ get_or D (column_of b s j) 0
  pub rest : (j : ℕ) → n ≤ j → j < 4 → get_or x j 0 ≡ 1

-- the rows of sheet s that are set are those that are valid in D
pub record RowsAre (b : List ℕ) (s : ℕ) (D W : List ℕ) : Type 0 where
  pub at : (r : ℕ) → r < 512 → is_set W s r ≡ valid_row D (sheet_at (book_of b) s) r

-- y are the values with support, in the model's words: whatever the domains D are, so long as x are those of the sheet's columns and W the rows that are
-- valid in them. This is all that is known of how a sheet allows; two functions ensure it, `carried` by the rows that carry a value, and `unforbidden` (crate
-- looks) by counting the rows that forbid it
pub record FindsSupported (b : List ℕ) (s : ℕ) (W x y : List ℕ) : Type 0 where
  pub at : (D : List ℕ) → IsStore 16 D → Wanted b s D (width_of b s) x → RowsAre b s D W → (j v : ℕ) → j < width_of b s → has D (column_of b s j) v ≡ true
      → bit v (get_or y j 0) ≡ supported_in D (column_of b s j) v (sheet_at (book_of b) s)

-- ---- the rows while a sheet is looked at
-- every row that is valid in D is set; a row that is set is a row of the sheet, with cells in the domains of all columns but those in
-- `changed`, which the sheet has not looked at since they lost a value
pub record RowsKnown (b : List ℕ) (s changed : ℕ) (D W X N : List ℕ) : Type 0 where
  pub words : SheetWords b s W X N
  pub all : (r : ℕ) → r < 512 → valid_row D (sheet_at (book_of b) s) r ≡ true → is_set W s r ≡ true
  pub seen : (r j : ℕ) → r < 512 → is_set W s r ≡ true → j < width_of b s → bit (column_of b s j) changed ≡ false
      → in_domain (value_at b s r j) (get_or D (column_of b s j) 0) ≡ true

-- ---- counted rows
-- how many rows of sheet s are set in the words at the positions below n of its index
unfoldable pub rows_to : List ℕ → List ℕ → ℕ → ℕ → ℕ
rows_to W X s zero = 0
rows_to W X s (suc n) = rows_to W X s n + ones (of_sheet W s (of_sheet X s n))
