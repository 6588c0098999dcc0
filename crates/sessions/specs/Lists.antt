-- A list of orders as bytes: 8 for each.
use Rattle.std.specs.Prelude.{List, ℕ, ◌*◌, ◌/◌, length, take, drop}
use Rattle.model.specs.Tests.{tab}

-- order i
abbrev pub order_at : List ℕ → ℕ → List ℕ
order_at l i = take 8 (drop (8 * i) l)

-- the first n orders
abbrev pub orders_to : List ℕ → ℕ → List (List ℕ)
orders_to l n = tab n (order_at l)

-- all of them
abbrev pub orders_of : List ℕ → List (List ℕ)
orders_of l = orders_to l (length l / 8)
