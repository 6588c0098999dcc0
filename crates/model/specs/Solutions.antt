-- Solutions of a book (document 01: full sets), and the first of them.
use Rattle.std.specs.Prelude.{◌≡◌, true, ◌⊎◌, ℕ, ◌<◌, length, get_or}
use mathlib.Core.List.{List, Memᴰ}
use Rattle.model.specs.Stores.{has}
use Rattle.model.specs.Choices.{pick, Lower}
use Rattle.model.specs.Books.{Sheet, Book, column_count, allows}

-- a solution in B: "A full set takes one value of each current domain, and its values in each sheet's columns form a row", or match one with 255:
-- "Full sets match in the same way"
pub record Solution (b : Book) (B x : List ℕ) : Type 0 where
  pub size : length x ≡ column_count b
  pub takes : (c : ℕ) → c < column_count b → has B c (get_or x c 0) ≡ true
  pub forms : (s : Sheet) → Memᴰ s b.sheets → allows s (pick x s.columns) ≡ true

-- "The first is lowest by column 0, then column 1, and so on": no other is lower
pub record FirstSolution (b : Book) (B x : List ℕ) : Type 0 where
  pub solution : Solution b B x
  pub least : (y : List ℕ) → Solution b B y → (x ≡ y) ⊎ Lower x y

-- there is no solution in B
pub record NoSolution (b : Book) (B : List ℕ) : Type 0 where
  pub none : (x : List ℕ) → Solution b B x → ⊥
