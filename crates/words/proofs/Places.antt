-- The sheets of an accepted book: where their rows stand, and which of them are valid. Assumes nothing.
use mathlib.Core.Path.{◌∙◌, ◌≡◌, ap, refl, sym}
use mathlib.Core.Bool.{Bool, ◌&&◌, false, false≢true, true}
use mathlib.Core.Logic.{◌⊎◌, inl, inr, ⊎_elim}
use mathlib.Core.List.{List, Memᴰ, []}
use Prim.Native.Nat.{◌*◌, ◌+◌, ◌/◌, ◌<◌, ◌≤◌, suc, zero, ℕ}
use native.Mathlib.Omega.{arith}
use lib.Dec.{ltb}
use lib.ListN.{get_or, length}
use borrow.Author.Tests.{le-ltb, lt-ltb, ltb-true}
use Rattle.model.specs.Books.{Sheet, WellFormed, in_domain, is_any, no_sheet, sheet_at}
use Rattle.model.specs.States.{valid, valid_row}
use Rattle.model.specs.Tests.{all_below, tab}
use Rattle.model.proofs.Rows.{in_list}
use Rattle.model.proofs.Tests.{all_below_e, all_below_i, all_below_same, and_i, and_l, and_r, below, get_or-tab, length-tab}
use Rattle.book.specs.Decoding.{book_of, row_of, sheet_of}
use Rattle.fields.specs.Bytes.{byte_at}
use Rattle.heads.specs.Heads.{column_of, forbids_of, rows_of, sheets_of, values_of, width_of}
use Rattle.rows.specs.Rows.{blocks_needed, blocks_of, row_place}
use Rattle.book.proofs.Decoding.{RightBook, accepted_right, filler_zero, right_formed, row_inside, value_cell}
use Rattle.rows.proofs.Rows.{first_block_later, right_length}
use Rattle.heads.proofs.Heads.{column_inside, columns_range, rows_most, sheets_most, values_range, width_range}
use Rattle.counters.specs.Counters.{cell_place}
use Rattle.cells.specs.Cells.{IsCell, cell_at}
use Rattle.words.specs.Sheets.{AtSheet, IsSheet, value_at}

module _ {b : List ℕ} {begin s : ℕ} (a : AtSheet b begin s) where
  pub is_sheet : IsSheet b s
  is_sheet = record { accepted = a.accepted; one = a.one; begins = refl }

  right : RightBook b
  right = accepted_right b a.accepted

  pub eight : s < 8
  eight = omega (arith, a.one, sheets_most b right.head)

  pub head_there : 512 ≤ length b
  head_there = omega (arith, right_length b right.length_right)

  pub width_most : (1 ≤ width_of b s) × (width_of b s ≤ 4)
  width_most = width_range b right.head s a.one

  pub rows_few : rows_of b s ≤ 508
  rows_few = rows_most b right.head s a.one

  pub values_few : (j : ℕ) → j < width_of b s → values_of b (column_of b s j) ≤ 32
  values_few j l = (values_range b right.head (column_of b s j) (column_inside b right.head s a.one j l)).1

  pub column_below : (j : ℕ) → j < width_of b s → column_of b s j < 16
  column_below j l = omega (arith, column_inside b right.head s a.one j l, (columns_range b right.head).1)

  -- ---- the rows
  same_place : (r j : ℕ) → row_place b s r + j ≡ cell_place begin r j
  unfolding row_place
  same_place r j = omega (arith, a.begins)

  pub cell_there : (r : ℕ) → r < rows_of b s → cell_place begin r 3 < length b
  cell_there r l = omega (arith, same_place r 3, row_inside b right s a.one r l)

  -- the whole block of a row is there
  pub block_there : (r : ℕ) → r < rows_of b s → begin + 512 * (r / 127) + 512 ≤ length b
  unfolding blocks_of blocks_needed
  block_there r l =
      omega (arith, a.begins, right_length b right.length_right, right.blocks, first_block_later b s (sheets_of b) a.one)

  pub cell_value : (r j : ℕ) → r < rows_of b s → j < width_of b s
      → ((forbids_of b s ≡ false) × (is_any (cell_at b begin r j) ≡ true)) ⊎ (cell_at b begin r j < values_of b (column_of b s j))
  cell_value r j l p = rw (← same_place r j) (value_cell b right s a.one r j l p)

  pub cell_is : (r j : ℕ) → r < rows_of b s → j < 4 → IsCell (cell_at b begin r j)
  cell_is r j l p = go (below j (width_of b s))
    where
      go : (j < width_of b s) ⊎ (width_of b s ≤ j) → IsCell (cell_at b begin r j)
      go (inl q) =
          ⊎_elim (λ q. inl q.1)
          (λ v. inr (omega (arith, (values_range b right.head (column_of b s j) (column_inside b right.head s a.one j q)).1)))
          (cell_value r j l q)
      go (inr q) = inr (omega (arith, ap (byte_at b) (same_place r j), filler_zero b right s a.one r j l q p))

  -- the same by the sheet alone
  pub value_is : (r j : ℕ) → r < rows_of b s → j < 4 → IsCell (value_at b s r j)
  value_is r j l p = rw a.begins at (cell_is r j l p)

  -- in a sheet that forbids its rows it is a value: no 255
  pub forbidden_value : forbids_of b s ≡ true → (r j : ℕ) → r < rows_of b s → j < width_of b s → value_at b s r j < 32
  forbidden_value f r j l p = ⊎_elim (λ q. absurd (false≢true (sym q.0 ∙ f))) (λ v. omega (arith, values_few j p)) (rw a.begins at (cell_value r j l p))

  -- at a place that is not used it is 0
  pub unused_value : (r j : ℕ) → r < rows_of b s → width_of b s ≤ j → j < 4 → value_at b s r j ≡ 0
  unused_value r j l p q = ap (λ (i : ℕ). cell_at b i r j) (sym a.begins) ∙ ap (byte_at b) (sym (same_place r j)) ∙ filler_zero b right s a.one r j l p q

  -- ---- valid rows
  valid-tab : (n : ℕ) (D : List ℕ) (f g : ℕ → ℕ) → valid D (tab n f) (tab n g) ≡ all_below n (λ j. in_domain (g j) (get_or D (f j) 0))
  unfolding tab valid all_below
  valid-tab zero D f g = refl
  valid-tab (suc n) D f g = ap (λ (t : Bool). in_domain (g 0) (get_or D (f 0) 0) && t) (valid-tab n D (λ i. f (suc i)) (λ i. g (suc i)))

  pub sheet_at_is : sheet_at (book_of b) s ≡ sheet_of b s
  unfolding book_of
  sheet_at_is = get_or-tab no_sheet (sheets_of b) (sheet_of b) s a.one

  pub sheet_forbids : (sheet_at (book_of b) s).forbids ≡ forbids_of b s
  unfolding sheet_of
  sheet_forbids = ap (λ (x : Sheet). x.forbids) sheet_at_is

  pub valid_iff : (D : List ℕ) (r : ℕ) → valid_row D (sheet_at (book_of b) s) r
      ≡ (ltb r (rows_of b s) && all_below (width_of b s) (λ j. in_domain (value_at b s r j) (get_or D (column_of b s j) 0)))
  unfolding valid_row sheet_of row_of
  valid_iff D r = ap (λ (x : Sheet). valid_row D x r) sheet_at_is ∙ go (below r (rows_of b s))
    where
      size : length (tab (rows_of b s) (row_of b s)) ≡ rows_of b s
      size = length-tab (rows_of b s) (row_of b s)

      go : (r < rows_of b s) ⊎ (rows_of b s ≤ r) → valid_row D (sheet_of b s) r
          ≡ (ltb r (rows_of b s) && all_below (width_of b s) (λ j. in_domain (value_at b s r j) (get_or D (column_of b s j) 0)))
      go (inl l) =
          rw (size, lt-ltb r (rows_of b s) l, get_or-tab [] (rows_of b s) (row_of b s) r l)
          (valid-tab (width_of b s) D (column_of b s) (λ j. byte_at b (row_place b s r + j))
          ∙ all_below_same (width_of b s) _ _
          (λ j p. ap (λ (i : ℕ). in_domain (byte_at b i) (get_or D (column_of b s j) 0)) (same_place r j ∙ ap (λ (f : ℕ). cell_place f r j) a.begins)))
      go (inr l) = rw (size, le-ltb r (rows_of b s) l)

  pub valid_e : (D : List ℕ) (r : ℕ) → valid_row D (sheet_at (book_of b) s) r ≡ true
      → (r < rows_of b s) × ((j : ℕ) → j < width_of b s → in_domain (value_at b s r j) (get_or D (column_of b s j) 0) ≡ true)
  valid_e D r e =
      let k = sym (valid_iff D r) ∙ e in (
        ltb-true r (rows_of b s) (and_l (ltb r (rows_of b s)) _ k),
        λ j l. all_below_e (width_of b s) (λ j. in_domain (value_at b s r j) (get_or D (column_of b s j) 0)) (and_r (ltb r (rows_of b s)) _ k) j l,
      )

  pub valid_i : (D : List ℕ) (r : ℕ) → r < rows_of b s → ((j : ℕ) → j < width_of b s → in_domain (value_at b s r j) (get_or D (column_of b s j) 0) ≡ true)
      → valid_row D (sheet_at (book_of b) s) r ≡ true
  valid_i D r l h =
      valid_iff D r ∙ and_i (lt-ltb r (rows_of b s) l) (all_below_i (width_of b s) (λ j. in_domain (value_at b s r j) (get_or D (column_of b s j) 0)) h)

  -- the value of a row at a place, in the decoded book
  pub row_value : (r j : ℕ) → r < rows_of b s → j < width_of b s → get_or (get_or (sheet_at (book_of b) s).rows r []) j 0 ≡ value_at b s r j
  unfolding sheet_of row_of
  row_value r j l p =
      ap (λ (x : Sheet). get_or (get_or x.rows r []) j 0) sheet_at_is
      ∙ ap (λ (x : List ℕ). get_or x j 0) (get_or-tab [] (rows_of b s) (row_of b s) r l)
      ∙ get_or-tab 0 (width_of b s) (λ j. byte_at b (row_place b s r + j)) j p
      ∙ ap (byte_at b) (same_place r j ∙ ap (λ (f : ℕ). cell_place f r j) a.begins)

  pub rows_size : length (sheet_at (book_of b) s).rows ≡ rows_of b s
  unfolding sheet_of
  rows_size = ap (λ (x : Sheet). length x.rows) sheet_at_is ∙ length-tab (rows_of b s) (row_of b s)

  pub sheet_columns : (sheet_at (book_of b) s).columns ≡ tab (width_of b s) (column_of b s)
  unfolding sheet_of
  sheet_columns = ap (λ (x : Sheet). x.columns) sheet_at_is

  pub columns_size : length (sheet_at (book_of b) s).columns ≡ width_of b s
  columns_size = ap (λ (l : List ℕ). length l) sheet_columns ∙ length-tab (width_of b s) (column_of b s)

  pub column_value : (j : ℕ) → j < width_of b s → get_or (sheet_at (book_of b) s).columns j 0 ≡ column_of b s j
  column_value j l = ap (λ (x : List ℕ). get_or x j 0) sheet_columns ∙ get_or-tab 0 (width_of b s) (column_of b s) j l

  pub sheet_in : Memᴰ (sheet_at (book_of b) s) (book_of b).sheets
  unfolding book_of
  sheet_in = in_list no_sheet (tab (sheets_of b) (sheet_of b)) s (omega (arith, a.one, length-tab (sheets_of b) (sheet_of b)))

  pub formed : WellFormed (book_of b)
  formed = right_formed b right
