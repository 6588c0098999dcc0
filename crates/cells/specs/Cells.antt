-- The rows of one word, by where they stand in the file, and what the two passes make of them.
use Rattle.std.specs.Prelude.{◌≡◌, Bool, ◌&&◌, true, ◌⊎◌, List, [], ◌∷◌, ◌%◌, ◌*◌, ◌+◌, ◌<◌, ◌^◌, ℕ, ltb, get_or, length}
use Rattle.std.specs.Int.Bits.{bit_or}
use Rattle.model.specs.Books.{in_domain, is_any}
use Rattle.model.specs.Masks.{bit}
use Rattle.model.specs.Tests.{all_below}
use Rattle.fields.specs.Bytes.{byte_at}
use Rattle.counters.specs.Counters.{cell_place}
use Rattle.counters.specs.declared.counter.Counters.{Counters}

-- the cell that stands there
abbrev pub cell_at : List ℕ → ℕ → ℕ → ℕ → ℕ
cell_at b begin r j = byte_at b (cell_place begin r j)

-- a cell is 255 or a value, which is below 32
abbrev pub IsCell : ℕ → Type 0
IsCell x = (is_any x ≡ true) ⊎ (x < 32)

-- bit k of the word stands for row from + k. The rows of the word are there, and their bytes are cells
pub record Readable (b : List ℕ) (begin from word : ℕ) : Type 0 where
  pub there : (k : ℕ) → bit k word ≡ true → cell_place begin (from + k) 3 < length b
  pub cell : (k j : ℕ) → bit k word ≡ true → j < 4 → IsCell (cell_at b begin (from + k) j)

-- ---- the walk over rows
-- a walk stands at a word's first row, and the rows that are set in `rows` are there, where it may go on to them
pub record Stretch (may : Counters → ℕ → Type 0) (b : List ℕ) (p : Counters) (rows : ℕ) : Type 0 where
  pub first : p.bit ≡ 0
  pub in_word : (k : ℕ) → bit k rows ≡ true → k < 64
  pub may_go : (k : ℕ) → bit k rows ≡ true → may p k
  pub there : (k : ℕ) → bit k rows ≡ true → cell_place p.begin (64 * p.word + k) 3 < length b

-- no row is set but of the first 60
pub record NearRows (word : ℕ) : Type 0 where
  pub few : (k : ℕ) → bit k word ≡ true → k < 60

-- ---- pass 1
-- r is the word cut to the rows whose cell at place j is in d
pub record Kept (b : List ℕ) (begin from j d word r : ℕ) : Type 0 where
  pub at : (k : ℕ) → bit k r ≡ (bit k word && in_domain (cell_at b begin (from + k) j) d)

-- r is the word cut to the rows with 255 at place j
pub record KeptAny (b : List ℕ) (begin from j word r : ℕ) : Type 0 where
  pub at : (k : ℕ) → bit k r ≡ (bit k word && is_any (cell_at b begin (from + k) j))

-- the 64 places m say of each cell x, at x % 64, whether it is in the domain d
pub record WithAny (d m : ℕ) : Type 0 where
  pub at : (x : ℕ) → IsCell x → bit (x % 64) m ≡ in_domain x d

-- r is the word cut to the rows whose cell at place j is one of the places m
pub record KeptBy (b : List ℕ) (begin from j m word r : ℕ) : Type 0 where
  pub at : (k : ℕ) → bit k r ≡ (bit k word && bit (cell_at b begin (from + k) j % 64) m)

-- bit k of r says of row from + k, of n rows, whether its cell at place j is one of the places m
pub record KeptRun (b : List ℕ) (begin from n j m r : ℕ) : Type 0 where
  pub at : (k : ℕ) → bit k r ≡ (ltb k n && bit (cell_at b begin (from + k) j % 64) m)

-- every cell of row r, by its last five bits, is in the set of its place
unfoldable pub row_inside : List ℕ → ℕ → List ℕ → ℕ → Bool
row_inside b begin x r = all_below 4 (λ j. bit (cell_at b begin r j % 32) (get_or x j 0))

-- r is the word cut to the rows with every cell in its set
pub record KeptInside (b : List ℕ) (begin from : ℕ) (x : List ℕ) (word r : ℕ) : Type 0 where
  pub at : (k : ℕ) → bit k r ≡ (bit k word && row_inside b begin x (from + k))

-- ---- pass 2
-- a set for each of the four places
abbrev pub four_of : ℕ → ℕ → ℕ → ℕ → List ℕ
four_of w x y z = w ∷ x ∷ y ∷ z ∷ []

-- the sets g are the sets f and the values of the rows that pass; `cell k j` is the value of row k at place j
pub record GatheredOf (cell : ℕ → ℕ → ℕ) (passes : ℕ → Bool) (f g : List ℕ) : Type 0 where
  pub old : (j v : ℕ) → j < 4 → bit v (get_or f j 0) ≡ true → bit v (get_or g j 0) ≡ true
  pub new : (j k : ℕ) → j < 4 → passes k ≡ true → bit (cell k j) (get_or g j 0) ≡ true
  pub sound : (j v : ℕ) → j < 4 → bit v (get_or g j 0) ≡ true → (bit v (get_or f j 0) ≡ true) ⊎ ((k : ℕ) × (passes k ≡ true) × (cell k j ≡ v))

-- the rows of a word, by the last five bits of their cells
abbrev pub Gathered : List ℕ → ℕ → ℕ → ℕ → List ℕ → List ℕ → Type 0
Gathered b begin from word f g = GatheredOf (λ k j. cell_at b begin (from + k) j % 32) (λ k. bit k word) f g

-- the first n of them
abbrev pub GatheredRun : List ℕ → ℕ → ℕ → ℕ → List ℕ → List ℕ → Type 0
GatheredRun b begin from n f g = GatheredOf (λ k j. cell_at b begin (from + k) j % 32) (λ k. ltb k n) f g

-- four sets of 32 bits
pub record SmallSets (f : List ℕ) : Type 0 where
  pub size : length f ≡ 4
  pub fits : (j : ℕ) → get_or f j 0 < 2 ^ 32

-- the four bytes of a row are there
abbrev pub RowThere : List ℕ → ℕ → Type 0
RowThere b at = at + 3 < length b

-- the sets g are the sets f with the values of the row at byte `at`
pub record RowAdded (b : List ℕ) (at : ℕ) (f g : List ℕ) : Type 0 where
  pub each : (j : ℕ) → j < 4 → get_or g j 0 ≡ bit_or (get_or f j 0) (2 ^ (byte_at b (at + j) % 32))

-- the first n rows of the word are set
pub record RunOf (word n : ℕ) : Type 0 where
  pub at : (k : ℕ) → k < n → bit k word ≡ true

-- the sets y have every value of the sets x
pub record Covered (x y : List ℕ) : Type 0 where
  pub at : (j v : ℕ) → j < 4 → bit v (get_or x j 0) ≡ true → bit v (get_or y j 0) ≡ true
