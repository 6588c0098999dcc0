-- The state of the engine: what it is when a trail stands.
use Rattle.std.specs.Prelude.{◌≡◌, List, [], ◌++◌, ◌∷◌, ℕ, replicate}
use Rattle.model.specs.Orders.{Entry, domains, narrowed}
use Rattle.model.specs.States.{StateOf}
use Rattle.model.specs.Stores.{IsStore}
use Rattle.book.specs.Decoding.{book_of}
use Rattle.words.specs.Sheets.{Sized}
use Rattle.engine.specs.declared.state.State.{State}

-- ---- states
-- the state of the trail L: "its domains … and live rows are those of the standing list and its index keeps the invariant above", and the arrays have
-- their sizes
pub record StateIs (b : List ℕ) (L : List Entry) (st : State) : Type 0 where
  pub holds : StateOf (book_of b) (domains (book_of b) L) st.dom st.rows.valid st.rows.index st.rows.nonzero
  pub store : IsStore 16 st.dom
  pub sized : Sized st.rows.valid st.rows.index st.rows.nonzero

-- a state by its arrays
abbrev pub state_of : List ℕ → List ℕ → List ℕ → List ℕ → State
state_of D W X N = record { dom = D; rows = record { valid = W; index = X; nonzero = N } }

-- a state of some trail
pub record SomeState (b : List ℕ) (st : State) : Type 0 where
  pub trail : List Entry
  pub is : StateIs b trail st

-- no value and no row; the index stays
pub record Emptied (st t : State) : Type 0 where
  pub dom : t.dom ≡ replicate 16 0
  pub valid : t.rows.valid ≡ replicate 64 0
  pub index : t.rows.index ≡ st.rows.index
  pub nonzero : t.rows.nonzero ≡ replicate 8 0

-- whatever trail stood, the narrow of column c to the mask m stands after it
abbrev pub Narrows : List ℕ → ℕ → ℕ → State → State → Type 0
Narrows b c m st t = (L : List Entry) → StateIs b L st → StateIs b (L ++ (narrowed c m ∷ [])) t
