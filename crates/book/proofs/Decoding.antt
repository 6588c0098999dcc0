-- An accepted book has nothing wrong in it, and stands for a well-formed book. Assumes nothing.
use mathlib.Core.Path.{◌∙◌, ◌≡◌, ap, ap₂, refl, sym}
use mathlib.Core.Bool.{true, false}
use mathlib.Core.Logic.{◌⊎◌, inl, inr}
use mathlib.Core.List.Memᴰ
use mathlib.Core.List.{List, Memᴰ, []}
use Prim.Native.Nat.{◌%◌, ◌*◌, ◌+◌, ◌/◌, ◌<◌, ◌≤◌, suc, zero, ℕ}
use native.Mathlib.Omega.{arith}
use lib.Dec.{leb, ltb}
use lib.ListN.{get_or, length}
use borrow.Author.Tests.{eqb-true, le-ltb, leb-false, lt-ltb}
use Rattle.fields.specs.Bytes.{byte_at}
use Rattle.model.specs.Books.{WellFormed, WellFormedSheet, is_any}
use Rattle.model.specs.Choices.{Lower}
use Rattle.model.specs.Masks.{bit}
use Rattle.model.specs.Tests.{NoneIn, tab}
use Rattle.model.proofs.Firsts.{any_none, lowest_none}
use Rattle.model.proofs.Tests.{and_true, below, either, get_or-tab, length-tab}
use Rattle.heads.specs.Blocks.{RightChecks, RightLength, block_at, block_count, word}
use Rattle.book.specs.Decoding.{AcceptedWellFormed, book_of, row_of, sheet_of}
use Rattle.heads.specs.Heads.{RightHead, column_of, columns_of, forbids_of, rows_of, sheets_of, values_of, width_of}
use Rattle.rows.specs.Rows.{RowFault, any_places, blocks_needed, blocks_of, clean, fall_place, falls_in, fault, first_block, first_fall, first_fault, not_zero, row_place, too_large, wrong_block, wrong_byte, wrong_sheet, over_at}
use Rattle.book.specs.Verdicts.{Accepted, check_result, number_of, order_verdict, refused, row_verdict}
use Rattle.rows.specs.Bounds.{joined, place_bound}
use Rattle.book.specs.Places.{wrong_cell}
use Rattle.rows.proofs.Bounds.{any_joined, wrong_used}
use Rattle.faults.proofs.Rises.{rises_at, string_lower}
use Rattle.rows.proofs.Rows.{clean_none, first_block_later, right_length}
use Rattle.book.proofs.Refusals.{fall_none}
use Rattle.book.proofs.Places.{row_byte}
use Rattle.book.proofs.Verdicts.{later_blocks, later_checks, later_head, later_length, later_rows, numbered, verdict_order}
use Rattle.heads.proofs.Heads.{column_inside, column_rises, columns_range, rows_most, sheets_most, values_range, width_range}

-- ---- nothing is wrong
pub record RightBook (b : List ℕ) : Type 0 where
  pub length_right : RightLength b
  pub checks : RightChecks b
  pub head : RightHead b
  pub blocks : blocks_needed b ≡ block_count b
  pub rows : first_fault b ≡ clean
  pub order : NoneIn (falls_in b) 0 (sheets_of b)

module _ (b : List ℕ) (a : Accepted b) where
  no_fault : first_fault b ≡ clean
  no_fault = go (first_fault b) (later_rows b (inl a))
    where
      go : (f : RowFault) → check_result b ≡ number_of (row_verdict b f) → f ≡ clean
      go clean e = refl
      go (fault offset too_large) e = absurd (omega arith)
      go (fault offset not_zero) e = absurd (omega arith)

  no_fall : NoneIn (falls_in b) 0 (sheets_of b)
  unfolding order_verdict first_fall
  no_fall = lowest_none (sheets_of b) (λ l. at (lt-ltb (first_fall b) (sheets_of b) l) (later_rows b (inl a) ∙ ap (λ f. number_of (row_verdict b f)) no_fault))
    where
      at : ltb (first_fall b) (sheets_of b) ≡ true → check_result b ≡ number_of (order_verdict b) → ⊥
      at q e = let z : check_result b ≡ refused 7 (fall_place b (first_fall b) / 4) = e ∙ rw q in omega arith

  pub accepted_right : RightBook b
  accepted_right = record {
    length_right = later_length b (inl a);
    checks = later_checks b (inl a);
    head = later_head b (inl a);
    blocks = later_blocks b (inl a);
    rows = no_fault;
    order = no_fall;
  }

-- ---- so every row value is below its column's V, or 255
module _ (b : List ℕ) (h : RightBook b) where
  no_wrong_sheet : NoneIn (wrong_sheet b) 0 (sheets_of b)
  no_wrong_sheet = clean_none b h.rows

  module _ (s : ℕ) (used : s < sheets_of b) where
    no_wrong_byte : (q i : ℕ) → q < blocks_of b s → i < 508 → wrong_byte b s q i ≡ false
    unfolding wrong_sheet wrong_block
    no_wrong_byte q i p l =
        (any_none ((any_none (no_wrong_sheet.at s (omega arith) used)).at q (omega arith) p)).at i (omega arith) l

    -- byte j of row r, which is used, is not over its bound
    not_over : (r j : ℕ) → r < rows_of b s → j < 4 → over_at (ltb j (any_places b s)) (place_bound b s j) (byte_at b (row_place b s r + j)) ≡ false
    unfolding wrong_cell blocks_of
    not_over r j p l =
        sym (wrong_used b s r j _ p) ∙ sym (row_byte b s r j l) ∙ no_wrong_byte (r / 127) (4 * (r % 127) + j) (omega arith) (omega arith)

    -- one of the width's is 255, where the sheet allows its rows, or below its column's V
    pub value_cell : (r j : ℕ) → r < rows_of b s → j < width_of b s
        → ((forbids_of b s ≡ false) × (is_any (byte_at b (row_place b s r + j)) ≡ true)) ⊎ (byte_at b (row_place b s r + j) < values_of b (column_of b s j))
    unfolding place_bound any_places
    value_cell r j p l = go (either (forbids_of b s)) (either (is_any (byte_at b (row_place b s r + j))))
      where
        over : over_at (ltb j (any_places b s)) (place_bound b s j) (byte_at b (row_place b s r + j)) ≡ false
        over = not_over r j p (omega (arith, (width_range b h.head s used).1))

        go : (forbids_of b s ≡ true) ⊎ (forbids_of b s ≡ false) → (is_any (byte_at b (row_place b s r + j)) ≡ true) ⊎ (is_any (byte_at b (row_place b s r + j)) ≡ false)
            → ((forbids_of b s ≡ false) × (is_any (byte_at b (row_place b s r + j)) ≡ true)) ⊎ (byte_at b (row_place b s r + j) < values_of b (column_of b s j))
        go (inl f) x = inr (leb-false _ _ (rw (f, lt-ltb j (width_of b s) l, le-ltb j 0 (omega arith), and_true) at over))
        go (inr f) (inl e) = inl (f, e)
        go (inr f) (inr e) = inr (leb-false _ _ (rw (f, lt-ltb j (width_of b s) l, e, and_true) at over))

    -- the others are zero
    pub filler_zero : (r j : ℕ) → r < rows_of b s → width_of b s ≤ j → j < 4 → byte_at b (row_place b s r + j) ≡ 0
    unfolding place_bound any_places
    filler_zero r j p l q = go (either (forbids_of b s))
      where
        zero_there : leb 1 (byte_at b (row_place b s r + j)) ≡ false → byte_at b (row_place b s r + j) ≡ 0
        zero_there t = let e = leb-false 1 (byte_at b (row_place b s r + j)) t in omega arith

        go : (forbids_of b s ≡ true) ⊎ (forbids_of b s ≡ false) → byte_at b (row_place b s r + j) ≡ 0
        go (inl f) = zero_there (rw (f, le-ltb j (width_of b s) l, le-ltb j 0 (omega arith), and_true) at (not_over r j p q))
        go (inr f) = zero_there (rw (f, le-ltb j (width_of b s) l, and_true) at (not_over r j p q))

    -- a row that is used is there
    pub row_inside : (r : ℕ) → r < rows_of b s → row_place b s r + 3 < length b
    unfolding row_place blocks_of blocks_needed
    row_inside r p = omega (arith, right_length b h.length_right, h.blocks, first_block_later b s (sheets_of b) used)

    row_bytes : (r j : ℕ) → r < rows_of b s → j < 4 → byte_at b (row_place b s r + j) < 256
    row_bytes r j p l = go (below j (width_of b s))
      where
        value : j < width_of b s
            → ((forbids_of b s ≡ false) × (is_any (byte_at b (row_place b s r + j)) ≡ true)) ⊎ (byte_at b (row_place b s r + j) < values_of b (column_of b s j))
            → byte_at b (row_place b s r + j) < 256
        value q (inl e) = let k = eqb-true (byte_at b (row_place b s r + j)) 255 e.1 in omega arith
        value q (inr e) = omega (arith, (values_range b h.head (column_of b s j) (column_inside b h.head s used j q)).1)

        go : (j < width_of b s) ⊎ (width_of b s ≤ j) → byte_at b (row_place b s r + j) < 256
        go (inl q) = value q (value_cell r j p q)
        go (inr q) = omega (arith, filler_zero r j p q l)

    -- a 255 in row i of block q, a used row, shows in the joined rows of the block
    pub any_shows : (q i j : ℕ) → i < 127 → 127 * q + i < rows_of b s → j < 4 → is_any (byte_at b (row_place b s (127 * q + i) + j)) ≡ true
        → bit (8 * j + 7) (joined (word (block_at b (first_block b s + q))) 127) ≡ true
    unfolding blocks_of blocks_needed
    any_shows q i j p l k e =
        any_joined b s q i j (omega (arith, right_length b h.length_right, h.blocks, first_block_later b s (sheets_of b) used)) p k
        (λ m n. row_bytes (127 * q + i) m l n) e

-- ---- the decoded book
-- an element of a table is one of its function's values
pub tab_mem : {A : Type 0} (n : ℕ) (f : ℕ → A) (x : A) → Memᴰ x (tab n f) → (i : ℕ) × (i < n) × (x ≡ f i)
unfolding tab
tab_mem zero f x m = absurd (Memᴰ.not-nil m)
tab_mem (suc n) f x (Memᴰ.head e) = (0, omega arith, e)
tab_mem (suc n) f x (Memᴰ.tail m) = let r = tab_mem n (λ i. f (suc i)) x m in (suc r.0, omega (arith, r.1), r.2)

module _ (b : List ℕ) (h : RightBook b) (s : ℕ) (used : s < sheets_of b) where
  pub rises : (i j : ℕ) → i < j → j < width_of b s → column_of b s i < column_of b s j
  rises i zero l p = absurd (omega arith)
  rises i (suc j) l p = go (below i j) (rises i j)
    where
      step : column_of b s j < column_of b s (suc j)
      step = column_rises b h.head s used j p

      go : (i < j) ⊎ (j ≤ i) → (i < j → j < width_of b s → column_of b s i < column_of b s j) → column_of b s i < column_of b s (suc j)
      go (inl k) r = omega (arith, r k (omega arith), step)
      go (inr k) r = let e : i ≡ j = omega arith in omega (arith, ap (column_of b s) e, step)

  -- each row of a forbidden sheet is above the one before, at the first of its values that differs
  row_rises : forbids_of b s ≡ true → (r : ℕ) → suc r < rows_of b s → Lower (row_of b s r) (row_of b s (suc r))
  unfolding row_of falls_in
  row_rises f r l =
      let none : falls_in b s ≡ false = h.order.at s (omega arith) used in
      let up = rises_at b s r ((any_none (rw f at none)).at (suc r) (omega arith) l) in
      let d = string_lower (λ j. byte_at b (row_place b s r + j)) (λ j. byte_at b (row_place b s (suc r) + j))
      (λ j q. row_bytes b h s used r j (omega arith) q) (λ j q. row_bytes b h s used (suc r) j l q)
      (rw (zero_add (row_place b s r), zero_add (row_place b s (suc r))) up) in
      lower d (below d.0 (width_of b s))
    where
      zero_add : (n : ℕ) → n + 0 ≡ n
      zero_add n = omega arith

      at : (q j : ℕ) → j < width_of b s → get_or (tab (width_of b s) (λ j. byte_at b (row_place b s q + j))) j 0 ≡ byte_at b (row_place b s q + j)
      at q j k = get_or-tab 0 (width_of b s) (λ j. byte_at b (row_place b s q + j)) j k

      lower : (d : (j : ℕ) × (j < 4) × (byte_at b (row_place b s r + j) < byte_at b (row_place b s (suc r) + j))
          × ((i : ℕ) → i < j → byte_at b (row_place b s r + i) ≡ byte_at b (row_place b s (suc r) + i)))
          → (d.0 < width_of b s) ⊎ (width_of b s ≤ d.0) → Lower (row_of b s r) (row_of b s (suc r))
      lower d (inl k) =
          record {
            column = d.0;
            same = λ i m. at r i (omega arith) ∙ d.3 i m ∙ sym (at (suc r) i (omega arith));
            less = rw (at r d.0 k, at (suc r) d.0 k) d.2;
          }
      lower d (inr k) = absurd (omega (arith, d.2, filler_zero b h s used (suc r) d.0 l k d.1))

  sheet_formed : WellFormedSheet (book_of b).counts (sheet_of b s)
  unfolding book_of sheet_of row_of
  sheet_formed = record {
    some_column = omega (arith, length-tab (width_of b s) (column_of b s), (width_range b h.head s used).0);
    few_columns = omega (arith, length-tab (width_of b s) (column_of b s), (width_range b h.head s used).1);
    rising = λ i j l p.
        let q : j < width_of b s = omega (arith, length-tab (width_of b s) (column_of b s)) in
        rw (get_or-tab 0 (width_of b s) (column_of b s) i (omega arith), get_or-tab 0 (width_of b s) (column_of b s) j q) (rises i j l q);
    inside = λ i p.
        let q : i < width_of b s = omega (arith, length-tab (width_of b s) (column_of b s)) in
        rw (get_or-tab 0 (width_of b s) (column_of b s) i q, length-tab (columns_of b) (values_of b)) (column_inside b h.head s used i q);
    few_rows = omega (arith, length-tab (rows_of b s) (row_of b s), rows_most b h.head s used);
    row_size = λ r p.
        let q : r < rows_of b s = omega (arith, length-tab (rows_of b s) (row_of b s)) in
        rw (get_or-tab [] (rows_of b s) (row_of b s) r q) (length-tab (width_of b s) _ ∙ sym (length-tab (width_of b s) (column_of b s)));
    row_value = λ r i p l.
        let q : r < rows_of b s = omega (arith, length-tab (rows_of b s) (row_of b s)) in
        let k : i < width_of b s = omega (arith, length-tab (width_of b s) (column_of b s)) in
        rw (
          get_or-tab [] (rows_of b s) (row_of b s) r q,
          get_or-tab 0 (width_of b s) (λ j. byte_at b (row_place b s r + j)) i k,
          get_or-tab 0 (width_of b s) (column_of b s) i k,
          get_or-tab 0 (columns_of b) (values_of b) (column_of b s i) (column_inside b h.head s used i k),
        )
        (value_cell b h s used r i q k);
    row_rises = λ f r p.
        let q : suc r < rows_of b s = omega (arith, length-tab (rows_of b s) (row_of b s)) in
        rw (get_or-tab [] (rows_of b s) (row_of b s) r (omega arith), get_or-tab [] (rows_of b s) (row_of b s) (suc r) q) (row_rises f r q);
  }

pub right_formed : (b : List ℕ) → RightBook b → WellFormed (book_of b)
unfolding book_of
right_formed b h = record {
  some_column = omega (arith, length-tab (columns_of b) (values_of b), (columns_range b h.head).0);
  few_columns = omega (arith, length-tab (columns_of b) (values_of b), (columns_range b h.head).1);
  few_sheets = omega (arith, length-tab (sheets_of b) (sheet_of b), sheets_most b h.head);
  some_value = λ c p.
      let q : c < columns_of b = omega (arith, length-tab (columns_of b) (values_of b)) in
      rw (get_or-tab 0 (columns_of b) (values_of b) c q) (values_range b h.head c q).0;
  few_values = λ c p.
      let q : c < columns_of b = omega (arith, length-tab (columns_of b) (values_of b)) in
      rw (get_or-tab 0 (columns_of b) (values_of b) c q) (values_range b h.head c q).1;
  sheet = λ s m.
      let r = tab_mem (sheets_of b) (sheet_of b) s m in rw r.2 (sheet_formed b h r.0 r.1);
}

-- its number by its head
pub accepted_figure : (b : List ℕ) → Accepted b → check_result b ≡ columns_of b * 16 + sheets_of b
accepted_figure b a = let h = accepted_right b a in numbered b (verdict_order b h.length_right h.checks h.head h.blocks h.rows (fall_none b h.order))

-- the statement of specs/Decoding.antt
pub accepted_well_formed : AcceptedWellFormed
unfolding book_of
accepted_well_formed b a =
    let h = accepted_right b a in
    record {
      well_formed = right_formed b h;
      figure =
          accepted_figure b a
          ∙ sym (ap₂ (λ (c s : ℕ). c * 16 + s) (length-tab (columns_of b) (values_of b)) (length-tab (sheets_of b) (sheet_of b)));
    }
