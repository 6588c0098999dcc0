-- The search of a finish: what it starts from, and what it gives.
use Rattle.std.specs.Prelude.{◌≡◌, true, List, ◌<◌, ℕ, get_or, replicate}
use Rattle.model.specs.Answers.{Outcome, limited, outcome_masks, outcome_number, outcome_tries}
use Rattle.model.specs.Books.{column_count}
use Rattle.model.specs.Orders.{Entry, domains}
use Rattle.model.specs.Search.{Searched, after, following, searched}
use Rattle.model.specs.Stores.{has}
use Rattle.book.specs.Decoding.{book_of}
use Rattle.heads.specs.Heads.{columns_of}
use Rattle.engine.specs.Propagation.{is_open, store_in}
use Rattle.engine.specs.States.{StateIs}
use Rattle.engine.specs.declared.state.State.{State}
use Rattle.search.specs.declared.Outcome.{Outcome as Held}
use Rattle.search.specs.declared.Outcome.TheVariants.{Found, NotFound, StateOnly, Stopped}

-- ---- what is given
-- what an answer shows of f: byte 3
abbrev pub number_in : Held → ℕ
number_in StateOnly = 0
number_in (Found x t) = 1
number_in (NotFound t) = 2
number_in (Stopped t) = 3

-- the tries made
abbrev pub tries_in : Held → ℕ
tries_in StateOnly = 0
tries_in (Found x t) = t
tries_in (NotFound t) = t
tries_in (Stopped t) = t

-- and the masks, where the state has the domains D
abbrev pub masks_in : List ℕ → Held → List ℕ
masks_in D StateOnly = D
masks_in D (Found x t) = x
masks_in D (NotFound t) = replicate 16 0
masks_in D (Stopped t) = replicate 16 0

-- f has what the outcome x shows: its number, its tries, and its masks over the domains D; "zero from C on"
pub record OutcomeIs (b D : List ℕ) (x : Outcome) (f : Held) : Type 0 where
  pub number : number_in f ≡ outcome_number x
  pub tries : tries_in f ≡ outcome_tries x
  pub masks : (c : ℕ) → c < 16 → get_or (masks_in D f) c 0 ≡ get_or (outcome_masks (column_count (book_of b)) D x) c 0

-- f is what the search g comes to with the limit n, after m tries. It shows no domain, so D is any
pub record Reaches (b : List ℕ) (n m : ℕ) (g : Searched) (f : Held) : Type 0 where
  pub shows : (D : List ℕ) → OutcomeIs b D (limited n (following m g)) f

-- document 01's search in the domains D, and once column c is set to v: "The search sets the lowest column that isn't single to each of its values in
-- rising order and settles"
abbrev pub search_in : List ℕ → List ℕ → Searched
search_in b D = searched (book_of b) (store_in b D)

abbrev pub search_after : List ℕ → List ℕ → ℕ → ℕ → Searched
search_after b D c v = searched (book_of b) (after (book_of b) (store_in b D) c v)

-- a finish of the state st with the limit n is the search in the current domains, whatever trail stands
abbrev pub Finishes : List ℕ → State → ℕ → Held → Type 0
Finishes b st n f =
    (L : List Entry) → StateIs b L st → (D : List ℕ) → OutcomeIs b D (limited n (searched (book_of b) (domains (book_of b) L))) f

-- ---- what the search stands at
-- st is the state of some trail, and it is not failed
pub record FilledState (b : List ℕ) (st : State) : Type 0 where
  pub trail : List Entry
  pub is : StateIs b trail st
  pub filled : (c : ℕ) → c < columns_of b → (v : ℕ) × (has st.dom c v ≡ true)

-- v is a value of column c, and there are more
pub record OpenValue (b D : List ℕ) (c v : ℕ) : Type 0 where
  pub column : c < columns_of b
  pub value : has D c v ≡ true
  pub more : is_open D c ≡ true
