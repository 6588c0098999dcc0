-- The values of a forbidden sheet, by counting: how many rows have a value at a place, and how many choices there are for the other places.
--
-- Names: W, X, N are the arrays of words, index positions and counts of words that are not zero, C the counts of values, x the sets of the four places.
use Rattle.std.specs.Prelude.{◌≡◌, ◌&&◌, cond, not, List, ◌*◌, ◌+◌, ◌<◌, ◌≤◌, suc, zero, ℕ, eqb, ltb, get_or, length}
use Rattle.model.specs.Masks.{bit, size}
use Rattle.model.specs.States.{of_sheet}
use Rattle.tally.specs.Tallies.{count_at, places_of, rows_with}
use Rattle.words.specs.Sheets.{first_byte}

-- how many rows that are set have the value v at place j, in the words at the positions below n of the index of sheet s
unfoldable pub values_to : List ℕ → ℕ → List ℕ → List ℕ → ℕ → ℕ → ℕ → ℕ
values_to b s W X j v zero = 0
values_to b s W X j v (suc n) = values_to b s W X j v n + rows_with b (first_byte b s) (64 * of_sheet X s n) (of_sheet W s (of_sheet X s n)) j v

-- C has them, at as many places as are counted for a sheet of width k
pub record CountsTo (k : ℕ) (b : List ℕ) (s : ℕ) (W X : List ℕ) (n : ℕ) (C : List ℕ) : Type 0 where
  pub size : length C ≡ 128
  pub at : (j v : ℕ) → j < 4 → v < 32 → count_at C j v ≡ cond (ltb j (places_of k)) (values_to b s W X j v n) 0

-- how many choices the sets x have for the places other than j
unfoldable pub others_of : List ℕ → ℕ → ℕ
others_of x j =
    cond (eqb j 0) (size (get_or x 1 0) * size (get_or x 2 0) * size (get_or x 3 0))
    (cond (eqb j 1) (size (get_or x 0 0) * size (get_or x 2 0) * size (get_or x 3 0))
    (cond (eqb j 2) (size (get_or x 0 0) * size (get_or x 1 0) * size (get_or x 3 0))
    (size (get_or x 0 0) * size (get_or x 1 0) * size (get_or x 2 0))))

-- o has them
pub record Others (x o : List ℕ) : Type 0 where
  pub size : length o ≡ 4
  pub at : (j : ℕ) → j < 4 → get_or o j 0 ≡ others_of x j

-- n is below each of them
pub record Fewer (n : ℕ) (o : List ℕ) : Type 0 where
  pub at : (j : ℕ) → j < 4 → n < get_or o j 0

-- no count is above n
pub record NoneAbove (n : ℕ) (C : List ℕ) : Type 0 where
  pub size : length C ≡ 128
  pub at : (j v : ℕ) → j < 4 → v < 32 → count_at C j v ≤ n

-- r are the values of d at place j that have not as many rows as there are choices for the other places
pub record NotFull (C : List ℕ) (j choices d r : ℕ) : Type 0 where
  pub at : (v : ℕ) → bit v r ≡ (bit v d && not (eqb (count_at C j v) choices))

-- y has them of the sets x at the places below n, by the counts C and the choices o
pub record NotFullTo (C o x : List ℕ) (n : ℕ) (y : List ℕ) : Type 0 where
  pub size : length y ≡ 4
  pub at : (j v : ℕ) → j < n → bit v (get_or y j 0) ≡ (bit v (get_or x j 0) && not (eqb (count_at C j v) (get_or o j 0)))

-- y are, at the places below k, the values of x that not as many rows have as there are choices for the other places
pub record Unfilled (b : List ℕ) (s : ℕ) (W X : List ℕ) (n : ℕ) (x : List ℕ) (k : ℕ) (y : List ℕ) : Type 0 where
  pub at : (j v : ℕ) → j < k → bit v (get_or y j 0) ≡ (bit v (get_or x j 0) && not (eqb (values_to b s W X j v n) (others_of x j)))
