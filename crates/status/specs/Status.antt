-- What a state says of itself, status and done byte: what must be known of it, and how both are computed.
use Rattle.std.specs.Prelude.{◌≡◌, Bool, cond, List, ℕ, ltb, get_or}
use Rattle.model.specs.Answers.{done_of, status_of, subsumed}
use Rattle.model.specs.Books.{ConsistentStore, sheet_at}
use Rattle.model.specs.Masks.{mask_of}
use Rattle.model.specs.Orders.{Entry, domains}
use Rattle.model.specs.States.{StateOf}
use Rattle.model.specs.Stores.{IsStore}
use Rattle.model.specs.Tests.{any_below, count}
use Rattle.book.specs.Decoding.{book_of}
use Rattle.heads.specs.Heads.{column_of}
use Rattle.words.specs.Sheets.{Sized}
use Rattle.engine.specs.Propagation.{store_in}
use Rattle.engine.specs.States.{StateIs}
use Rattle.engine.specs.declared.state.State.{State}
use Rattle.status.specs.declared.Status.{Status}
use Rattle.status.specs.declared.Status.TheVariants.{Dead, Decided, Open}
use Rattle.status.specs.declared.Summary.{Summary}

-- a state that is not failed: its domains are consistent, and its rows are those that are valid in them
pub record OpenState (b : List ℕ) (st : State) : Type 0 where
  pub store : IsStore 16 st.dom
  pub sized : Sized st.rows.valid st.rows.index st.rows.nonzero
  pub consistent : ConsistentStore (book_of b) (store_in b st.dom)
  pub state : StateOf (book_of b) (store_in b st.dom) st.dom st.rows.valid st.rows.index st.rows.nonzero

-- ---- from the sizes Z of the domains
-- column c "holds more than one value"
abbrev pub is_many : List ℕ → ℕ → Bool
is_many Z c = ltb 1 (get_or Z c 0)

-- "2 decided, each column holds one value; 1 open, otherwise"
unfoldable pub open_status : List ℕ → ℕ
open_status Z = cond (any_below 16 (is_many Z)) 1 2

-- how many of the first n columns of sheet s are open
abbrev pub open_places : List ℕ → ℕ → List ℕ → ℕ → ℕ
open_places b s Z n = count n (λ j. is_many Z (column_of b s j))

-- "The done byte has bit s for sheet s": of the sheets below n those of which "every choice … is allowed"
unfoldable pub done_sheets : List ℕ → List ℕ → ℕ → ℕ
done_sheets b D n = mask_of n (λ s. subsumed D (sheet_at (book_of b) s))

-- ---- the promise
-- "0 dead; 2 decided, each column holds one value; 1 open, otherwise"
abbrev pub status_number : Status → ℕ
status_number Dead = 0
status_number Open = 1
status_number Decided = 2

-- "byte 1 status", "byte 4 done": those of the domains that the trail L leaves
pub record SummaryIs (b : List ℕ) (L : List Entry) (r : Summary) : Type 0 where
  pub status : status_number r.status ≡ status_of (book_of b) (domains (book_of b) L)
  pub done : r.done ≡ done_of (book_of b) (domains (book_of b) L)

-- whatever trail the state is of
abbrev pub Summarises : List ℕ → State → Summary → Type 0
Summarises b st r = (L : List Entry) → StateIs b L st → SummaryIs b L r
