-- What reading the bytes of an order gives: the order, or the number of its refusal.
use Rattle.std.specs.Prelude.{◌≡◌, List, ◌∷◌, ℕ, Result, Ok, Err}
use Rattle.model.specs.Orders.{Cause, argument, first_cause, kind, mask, refuse◌if◌, some_wrong, try_limit, zero_places}
use Rattle.sessions.specs.declared.orders.Order.{Order}
use Rattle.sessions.specs.declared.orders.Order.TheVariants.{Back, Finish, Mark, Narrow}
use Rattle.sessions.specs.declared.orders.Refused.{Refused}
use Rattle.sessions.specs.declared.orders.Refused.TheVariants as refused

-- the model's number for each cause (Orders)
abbrev pub refused_number : Refused → ℕ
refused_number refused.Kind = 20
refused_number refused.Column = 21
refused_number refused.Mask = 22
refused_number refused.Marks = 23
refused_number refused.Back = 24
refused_number refused.Bytes = 25
refused_number refused.Limit = 27

-- the number of a refusal, or 0 for an order that is accepted
abbrev pub refused_in : Result Order Refused → ℕ
refused_in (Ok x) = 0
refused_in (Err r) = refused_number r

-- x is what the bytes o say
abbrev pub order_is : List ℕ → Order → Type 0
order_is o (Narrow c m) = (kind o ≡ 1) × (c ≡ argument o) × (m ≡ mask o)
order_is o Mark = kind o ≡ 2
order_is o (Back m) = (kind o ≡ 3) × (m ≡ argument o)
order_is o (Finish n) = (kind o ≡ 4) × (n ≡ try_limit o)

-- the refusal of the order o, whose kind has these causes: that of its bytes comes before them
abbrev pub refusal_with : List ℕ → List Cause → ℕ
refusal_with o cs = first_cause ((refuse 25 if some_wrong (zero_places (kind o)) o) ∷ cs)
