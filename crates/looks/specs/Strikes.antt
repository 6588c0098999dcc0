-- Pass 2, second half: columns struck to sets of values. Names: D are the domains, y the sets, one for each place; a second store has a '.
use Rattle.std.specs.Prelude.{◌≡◌, false, true, ◌⊎◌, List, ◌<◌, ◌≤◌, ℕ, get_or}
use Rattle.model.specs.Masks.{bit}
use Rattle.model.specs.Stores.{IsStore, Within, has, values}
use Rattle.heads.specs.Heads.{column_of, width_of}

-- domains lose values; `lost` are the columns that lose one
pub record Loses (D D' : List ℕ) (lost : ℕ) : Type 0 where
  pub store : IsStore 16 D'
  pub within : Within D' D
  pub unchanged : (c : ℕ) → bit c lost ≡ false → get_or D' c 0 ≡ get_or D c 0
  pub fewer : values 16 D' ≤ values 16 D
  pub falls : 0 < lost → values 16 D' < values 16 D

-- the column of place j, if it is one of the width, keeps its values that are in y, and no other column changes
pub record StruckPlace (b : List ℕ) (s j y : ℕ) (D D' : List ℕ) (lost : ℕ) : Type 0 where
  pub loses : Loses D D' lost
  pub struck : (c v : ℕ) → has D c v ≡ true → (has D' c v ≡ true) ⊎ ((j < width_of b s) × (column_of b s j ≡ c) × (bit v y ≡ false))
  pub left : (v : ℕ) → j < width_of b s → has D' (column_of b s j) v ≡ true → bit v y ≡ true

-- the columns of the places below n keep their values that are in the sets y, and no other column changes
pub record StruckTo (b : List ℕ) (s n : ℕ) (y D D' : List ℕ) (lost : ℕ) : Type 0 where
  pub loses : Loses D D' lost
  pub struck : (c v : ℕ) → has D c v ≡ true
      → (has D' c v ≡ true) ⊎ ((j : ℕ) × (j < n) × (j < width_of b s) × (column_of b s j ≡ c) × (bit v (get_or y j 0) ≡ false))
  pub left : (j v : ℕ) → j < n → j < width_of b s → has D' (column_of b s j) v ≡ true → bit v (get_or y j 0) ≡ true
