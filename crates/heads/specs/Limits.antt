-- What a field must not be: a byte that is not zero, a number out of its range.
use Rattle.std.specs.Prelude.{ℕ, Bool, not, ◌||◌, List, ◌==◌, nat_lt}
use Rattle.fields.specs.Bytes.{byte_at}

-- byte i is not zero
abbrev pub set_at : List ℕ → ℕ → Bool
set_at b i = not (byte_at b i == 0)

-- x is not one of the numbers from lo to hi
abbrev pub out_of_range : ℕ → ℕ → ℕ → Bool
out_of_range lo hi x = nat_lt x lo || nat_lt hi x
