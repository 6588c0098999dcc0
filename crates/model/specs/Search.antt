-- The search of a finish as document 01 describes it, with the tries that it makes (request W4). That it finds the first solution is a law.
use Rattle.std.specs.Prelude.{Bool, true, false, not, List, map, ℕ, zero, suc, ◌+◌, eqb, ltb, get_or}
use Rattle.std.proofs.Math.Option.{Option, none, some}
use Rattle.model.specs.Tests.{lowest}
use Rattle.model.specs.Masks.{bit, size}
use Rattle.model.specs.Stores.{has, assign, all_filled, values}
use Rattle.model.specs.Books.{Book, column_count, closure}

-- "the lowest column that isn't single", or C
unfoldable pub open_column : ℕ → List ℕ → ℕ
open_column C D = lowest C (λ c. not (eqb (size (get_or D c 0)) 1))

-- the value of a single column
unfoldable pub value_of : ℕ → ℕ
value_of m = lowest 32 (λ v. bit v m)

-- column c of D set to the value v, and settled
abbrev pub after : Book → List ℕ → ℕ → ℕ → List ℕ
after b D c v = closure b (assign D c v)

-- ---- what a search comes to, and the tries that it makes "up to the first full set or the search's end"
pub record Searched : Type 0 where
  -- the first solution, or none
  pub solution : Option (List ℕ)
  pub tries : ℕ

-- there is nothing to try
abbrev pub at_once : Option (List ℕ) → Searched
at_once o = record { solution = o; tries = 0 }

-- n tries, and then g
abbrev pub following : ℕ → Searched → Searched
following n g = record { solution = g.solution; tries = n + g.tries }

-- g, and where it finds nothing h
abbrev pub or_else : Searched → Searched → Searched
or_else g h = elim g.solution [ some x ↦ g | none ↦ following g.tries h ]

-- the values below n that pass, "in rising order", and for v the search g v: "One try is one value set on the lowest column that isn't single, and
-- settled"
unfoldable pub try_each : ℕ → (ℕ → Bool) → (ℕ → Searched) → Searched
try_each zero p g = at_once none
try_each (suc n) p g =
    elim (p 0) [
      | true ↦ or_else (following 1 (g 0)) (try_each n (λ v. p (suc v)) (λ v. g (suc v)))
      | false ↦ try_each n (λ v. p (suc v)) (λ v. g (suc v))
    ]

-- "The search sets the lowest column that isn't single to each of its values in rising order and settles; picking a column and trying
-- its values take turns until every column is single." At most k values are set one below the other
unfoldable pub search_from : Book → ℕ → List ℕ → Searched
search_from b zero D = at_once none
search_from b (suc k) D =
    elim (all_filled (column_count b) D) [
      | false ↦ at_once none
      | true ↦
          let c = open_column (column_count b) D in
          elim (ltb c (column_count b)) [
            | false ↦ at_once (some (map value_of D))
            | true ↦ try_each 32 (has D c) (λ v. search_from b k (after b D c v))
          ]
    ]

-- each value that is set leaves fewer values, so their number is depth enough: `SearchSteps` (Demands) says the same with no depth
unfoldable pub searched : Book → List ℕ → Searched
searched b D = search_from b (suc (values (column_count b) D)) D
