-- The state before the opening's propagation: every value and every row.
use Rattle.std.specs.Prelude.{◌≡◌, List, ℕ, ◌+◌, ◌*◌, ◌/◌, ◌%◌, ◌^◌, ◌≤◌, ◌<◌, ltb, length, get_or}
use Rattle.model.specs.Masks.{bit, mask_of}
use Rattle.model.specs.States.{of_sheet}
use Rattle.heads.specs.Heads.{rows_of, values_of}

-- the mask of the places below n
unfoldable pub places_below : ℕ → ℕ
places_below n = mask_of 32 (λ v. ltb v n)

-- the columns below n have all their values, the others none
pub record FullDomains (b : List ℕ) (n : ℕ) (D : List ℕ) : Type 0 where
  pub size : length D ≡ 16
  pub full : (c : ℕ) → c < n → get_or D c 0 ≡ places_below (values_of b c)
  pub empty : (c : ℕ) → n ≤ c → get_or D c 0 ≡ 0

-- r is word w of a sheet with n rows: bit k is row 64 w + k
pub record FullWord (n w r : ℕ) : Type 0 where
  pub at : (k : ℕ) → k < 64 → bit k r ≡ ltb (64 * w + k) n
  pub fits : r < 2 ^ 64

-- 64 words of 64 bits
pub record SixtyFour (W : List ℕ) : Type 0 where
  pub size : length W ≡ 64
  pub fits : (i : ℕ) → get_or W i 0 < 2 ^ 64

-- the words of sheet s below m are those of n rows; what W has of other sheets is as it was
pub record FullWords (W : List ℕ) (s n m : ℕ) (W' : List ℕ) : Type 0 where
  pub words : SixtyFour W'
  pub full : (w : ℕ) → w < m → FullWord n w (of_sheet W' s w)
  pub other : (t w : ℕ) → w < 8 → (t ≡ s → ⊥) → of_sheet W' t w ≡ of_sheet W t w

-- the sheets below n have all their rows
pub record FullRows (b : List ℕ) (n : ℕ) (W N : List ℕ) : Type 0 where
  pub words : SixtyFour W
  pub size : length N ≡ 8
  pub full : (s w : ℕ) → s < n → w < 8 → FullWord (rows_of b s) w (of_sheet W s w)
  pub nonzero : (s : ℕ) → s < n → get_or N s 0 ≡ (rows_of b s + 63) / 64

-- the positions below n name the words in their order
pub record FullIndex (n : ℕ) (X : List ℕ) : Type 0 where
  pub size : length X ≡ 64
  pub own : (i : ℕ) → i < n → get_or X i 0 ≡ i % 8
