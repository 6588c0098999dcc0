-- What propagation starts from, and what it comes to: the state st gives way to the state t, and D are the domains of st.
use Rattle.std.specs.Prelude.{◌≡◌, Bool, true, false, List, ℕ, ◌<◌, ltb, get_or}
use Rattle.model.specs.Tests.{tab}
use Rattle.model.specs.Masks.{bit, size}
use Rattle.model.specs.Stores.{has, IsStore, empty_store}
use Rattle.model.specs.Books.{closure, column_count}
use Rattle.model.specs.States.{StateOf}
use Rattle.heads.specs.Heads.{column_of, columns_of, sheets_of, width_of}
use Rattle.book.specs.Decoding.{book_of}
use Rattle.looks.specs.Looks.{SheetKnown}
use Rattle.words.specs.Sheets.{Sized, IndexOf}
use Rattle.engine.specs.declared.state.State.{State}

-- the store in an array of sixteen domains: those of the book's columns
abbrev pub store_in : List ℕ → List ℕ → List ℕ
store_in b D = tab (columns_of b) (λ c. get_or D c 0)

-- column c of such an array "holds more than one value"
unfoldable pub is_open : List ℕ → ℕ → Bool
is_open D c = ltb 1 (size (get_or D c 0))

-- the closure of that store
abbrev pub closure_in : List ℕ → List ℕ → List ℕ
closure_in b D = closure (book_of b) (store_in b D)

-- no column of the book is empty, and the columns past its last are; each sheet is known but for the columns in `column`, and outside the opening
-- each saw support for every value. A sheet that does not wait has none of these columns
pub record Ready (b : List ℕ) (opening : Bool) (waiting column : ℕ) (st : State) : Type 0 where
  pub store : IsStore 16 st.dom
  pub sized : Sized st.rows.valid st.rows.index st.rows.nonzero
  pub filled : (c : ℕ) → c < columns_of b → (v : ℕ) × (has st.dom c v ≡ true)
  pub past : (c v : ℕ) → has st.dom c v ≡ true → c < columns_of b
  pub sheet : (s : ℕ) → s < sheets_of b → SheetKnown b s column opening st.dom st.rows.valid st.rows.index st.rows.nonzero
  pub quiet : (s : ℕ) → s < sheets_of b → bit s waiting ≡ false
      → (opening ≡ false) × ((j : ℕ) → j < width_of b s → bit (column_of b s j) column ≡ false)
  pub used : (s : ℕ) → bit s waiting ≡ true → s < sheets_of b
  pub small : waiting < 256

-- the state t is that of the closure of D, which has no empty column, or the closure is empty
pub record Fixpoint (b D : List ℕ) (t : State) (r : Bool) : Type 0 where
  pub store : IsStore 16 t.dom
  pub sized : Sized t.rows.valid t.rows.index t.rows.nonzero
  pub state : r ≡ true → StateOf (book_of b) (closure_in b D) t.dom t.rows.valid t.rows.index t.rows.nonzero
  pub filled : r ≡ true → (c : ℕ) → c < columns_of b → (v : ℕ) × (has t.dom c v ≡ true)
  pub failed : r ≡ false → closure_in b D ≡ empty_store (column_count (book_of b))
  pub indexed : (s : ℕ) → s < sheets_of b → IndexOf s t.rows.valid t.rows.index t.rows.nonzero

-- the state t is that of the closure of D
pub record Propagated (b D : List ℕ) (t : State) : Type 0 where
  pub store : IsStore 16 t.dom
  pub sized : Sized t.rows.valid t.rows.index t.rows.nonzero
  pub state : StateOf (book_of b) (closure_in b D) t.dom t.rows.valid t.rows.index t.rows.nonzero
