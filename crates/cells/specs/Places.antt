-- The places of a mask, taken one by one, lowest first.
use Rattle.std.specs.Prelude.{◌≡◌, Option, MatchOption, ◌<◌, ℕ}
use Rattle.std.specs.Int.Count.{count_trailing_zeros}
use Rattle.model.specs.Masks.{Cleared}

-- t is the lowest place of x, and y is x without it
pub record Taken (x t y : ℕ) : Type 0 where
  pub lowest : t ≡ count_trailing_zeros 64 x
  pub few : t < 64
  pub cleared : Cleared x y t

-- of the places x the lowest was given, and y are left; or x has none
abbrev pub TakesLowest : ℕ → Option ℕ → ℕ → Type 0
TakesLowest x r y = MatchOption r ((x ≡ 0) × (y ≡ 0)) (λ t. Taken x t y)
