-- The worklist of propagation. M are the masks of the sheets' columns, G the columns that each sheet has not yet seen change.
use Rattle.std.specs.Prelude.{◌≡◌, Bool, not, cond, ◌&&◌, ◌||◌, List, ℕ, ◌^◌, ◌<◌, eqb, ltb, length, get_or}
use Rattle.std.specs.Int.Bits.{bit_and, bit_or}
use Rattle.model.specs.Masks.{bit}

-- one of these columns is in `lost`
unfoldable pub touches : ℕ → ℕ → Bool
touches columns lost = not (eqb (bit_and columns lost) 0)

-- sheet f as a bit, if so
unfoldable pub waits_bit : ℕ → ℕ → ℕ → ℕ
waits_bit columns lost f = cond (touches columns lost) (2 ^ f) 0

-- r has, of the sheets below n, those with a column in `lost`
pub record WaitingFor (M : List ℕ) (lost n r : ℕ) : Type 0 where
  pub at : (f : ℕ) → bit f r ≡ (ltb f n && touches (get_or M f 0) lost)
  pub small : r < 256

-- the columns in `lost` are added for the sheets below n
pub record Added (G : List ℕ) (lost n : ℕ) (G' : List ℕ) : Type 0 where
  pub size : length G' ≡ 8
  pub at : (f : ℕ) → f < 8 → get_or G' f 0 ≡ cond (ltb f n) (bit_or (get_or G f 0) lost) (get_or G f 0)

-- sheet s struck the columns in `lost`: every other sheet with such a column waits, and has not seen them
pub record Woken (M : List ℕ) (s lost : ℕ) (G : List ℕ) (waiting : ℕ) (G' : List ℕ) (waiting' : ℕ) : Type 0 where
  pub small : waiting' < 256
  pub size : length G' ≡ 8
  pub waits : (f : ℕ) → f < 8 → bit f waiting' ≡ (bit f waiting || (not (eqb f s) && touches (get_or M f 0) lost))
  pub changed : (f : ℕ) → f < 8 → get_or G' f 0 ≡ cond (eqb f s) 0 (bit_or (get_or G f 0) lost)
