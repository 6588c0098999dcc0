-- What the place of refusal 5, 6 or 7 tells: proved of specs/Places.antt. Assumes nothing.
use mathlib.Core.Path.{◌≡◌, sym, ap, ◌∙◌}
use mathlib.Core.Bool.{true, false}
use mathlib.Core.Logic.{◌⊎◌, inl, inr}
use mathlib.Core.List.{List}
use Prim.Native.Nat.{ℕ, ◌+◌, ◌*◌, ◌/◌, ◌%◌, ◌≤◌, ◌<◌}
use native.Mathlib.Omega.{arith}
use lib.Dec.{leb, ltb}
use borrow.Author.Tests.{leb-true, lt-ltb, le-ltb, ltb-false, ltb-true, not-true}
use Rattle.model.specs.Books.{is_any}
use Rattle.model.specs.Tests.{NoneIn, lowest}
use Rattle.model.proofs.Firsts.{any_none, first_in_found, first_in_lowest, first_in_most, lowest_first_in}
use Rattle.model.proofs.Tests.{and_l, and_r, any_below_e, below, either}
use Rattle.fields.specs.Bytes.{byte_at}
use Rattle.heads.specs.Heads.{columns_of, forbids_of, rows_of, sheets_of, width_of}
use Rattle.rows.specs.Rows.{any_places, blocks_needed, blocks_of, bound_of, fall_place, falls, falls_in, fault_at, first_block, first_fall, is_value, is_wrong, row_place, wrong_block, wrong_byte, wrong_sheet}
use Rattle.book.specs.Verdicts.{check_result, number_of, order_verdict, refused, row_verdict}
use Rattle.book.specs.Places.{FirstFall, FirstFault, LargeValue, PlacesTell, WrongFiller, place_byte, place_column, place_row, place_sheet, wrong_cell}
use Rattle.rows.proofs.Rows.{Faulty, FirstAt, blocks_most, fault_none, fault_or_none, first_block_later}
use Rattle.book.proofs.Refusals.{filler_at, place_of, value_at}
use Rattle.book.proofs.Verdicts.{later_head, later_rows}
use Rattle.heads.proofs.Heads.{columns_range, sheets_most}

-- ---- the bytes of a row
-- byte j of row r is a byte of its block
pub row_byte : (b : List ℕ) (s r j : ℕ) → j < 4 → wrong_byte b s (r / 127) (4 * (r % 127) + j) ≡ wrong_cell b s r j
unfolding wrong_byte wrong_cell row_place
row_byte b s r j l =
    let er : 127 * (r / 127) + (4 * (r % 127) + j) / 4 ≡ r = omega arith in
    let ej : (4 * (r % 127) + j) % 4 ≡ j = omega arith in
    let ep : 512 * (first_block b s + r / 127) + (4 * (r % 127) + j) ≡ 512 * (first_block b s + r / 127) + 4 * (r % 127) + j = omega arith in
    rw (er, ej, ep)

-- ---- from a byte of a block to its place, and back to the sheet and the row
module _ (b : List ℕ) (s q i : ℕ) (one : s < sheets_of b) (in-sheet : q < blocks_of b s) (byte : i < 508) where
  block : place_of b s q i / 128 ≡ first_block b s + q
  block = omega arith

  sheet_at_is : place_sheet b (place_of b s q i) ≡ s
  unfolding place_sheet
  sheet_at_is =
      rw block
      (first_in_lowest (first_in_found (omega arith) one
      (record { at = λ t l p. le-ltb (first_block b s + q) (first_block b t + blocks_of b t) (omega (arith, first_block_later b t s p)) })
      (lt-ltb (first_block b s + q) (first_block b s + blocks_of b s) (omega arith))))

  row_at : place_row b (place_of b s q i) ≡ 127 * q + i / 4
  unfolding place_row
  row_at = rw sheet_at_is (omega arith)

  stands_at : row_place b s (127 * q + i / 4) ≡ 4 * place_of b s q i
  unfolding row_place
  stands_at = omega arith

module _ (b : List ℕ) (s q i : ℕ) (f : FirstAt b s q i) where
  -- ---- where it is
  -- its place, and its row
  abbrev place : ℕ
  place = place_of b s q i

  abbrev row : ℕ
  row = 127 * q + i / 4

  byte : i < 508
  byte = f.byte

  sheet_there : place_sheet b place ≡ s
  sheet_there = sheet_at_is b s q i f.sheet f.block byte

  row_there : place_row b place ≡ row
  row_there = row_at b s q i f.sheet f.block byte

  stands_there : row_place b s row ≡ 4 * place
  stands_there = stands_at b s q i f.sheet f.block byte

  -- byte j of its row, and byte 4 (i / 4) + j of its block
  cell : (j : ℕ) → j < 4 → wrong_cell b s row j ≡ wrong_byte b s q (4 * (i / 4) + j)
  cell j l =
      let eq : row / 127 ≡ q = omega (arith, byte) in
      let er : row % 127 ≡ i / 4 = omega (arith, byte) in
      sym (rw (eq, er) at (row_byte b s row j l))

  wrong_there : wrong_cell b s row (i % 4) ≡ true
  wrong_there = let e : 4 * (i / 4) + i % 4 ≡ i = omega arith in cell (i % 4) (omega arith) ∙ ap (wrong_byte b s q) e ∙ f.wrong

  byte_there : place_byte b place ≡ i % 4
  unfolding place_byte
  byte_there =
      rw (sheet_there, row_there)
      (first_in_lowest (first_in_found (omega arith) (omega arith)
      (record { at = λ j l p. cell j (omega arith) ∙ f.bytes_before.at _ (omega arith) (omega arith) })
      wrong_there))

  -- ---- nothing before it
  -- in another sheet
  sheet_right : (t r j : ℕ) → t < s → r < 127 * blocks_of b t → j < 4 → wrong_cell b t r j ≡ false
  unfolding wrong_sheet wrong_block
  sheet_right t r j l p m =
      sym (row_byte b t r j m) ∙ (any_none ((any_none (f.sheets_before.at t (omega arith) l)).at (r / 127) (omega arith) (omega arith))).at _ (omega arith) (omega arith)

  -- in its own
  row_right : (r j : ℕ) → r < 127 * blocks_of b s → j < 4 → row_place b s r + j < 4 * place + i % 4 → wrong_cell b s r j ≡ false
  unfolding wrong_block row_place
  row_right r j p m l = sym (row_byte b s r j m) ∙ go (below (r / 127) q)
    where
      go : (r / 127 < q) ⊎ (q ≤ r / 127) → wrong_byte b s (r / 127) (4 * (r % 127) + j) ≡ false
      go (inl k) = (any_none (f.blocks_before.at (r / 127) (omega arith) k)).at _ (omega arith) (omega arith)
      go (inr k) =
          let e : r / 127 ≡ q = omega (arith, byte) in
          ap (λ (n : ℕ). wrong_byte b s n (4 * (r % 127) + j)) e ∙ f.bytes_before.at _ (omega arith) (omega (arith, byte))

  cell_right : (t r j : ℕ) → t < sheets_of b → r < 127 * blocks_of b t → j < 4 → row_place b t r + j < 4 * place + i % 4 → wrong_cell b t r j ≡ false
  unfolding row_place
  cell_right t r j n p m l = go (below t s) (below s t)
    where
      go : (t < s) ⊎ (s ≤ t) → (s < t) ⊎ (t ≤ s) → wrong_cell b t r j ≡ false
      go (inl k) x = sheet_right t r j k p m
      go (inr k) (inl h) = absurd (omega (arith, first_block_later b s t h, f.block, byte))
      go (inr k) (inr h) = let e : t ≡ s = omega arith in
          rw e (row_right r j (rw e at p) m (rw e at l))

  -- ---- so the place tells
  pub at_first_fault : FirstFault b place
  at_first_fault = record {
    sheet = rw sheet_there f.sheet;
    row = rw (row_there, sheet_there) (omega (arith, f.block, byte));
    stands = rw (sheet_there, row_there) stands_there;
    byte = rw byte_there (omega arith);
    wrong = rw (sheet_there, row_there, byte_there) wrong_there;
    first = rw byte_there cell_right;
  }

  -- what stands there is no lower than its bound, and no 255 in place of a value
  byte_wrong : is_wrong b s row (i % 4) (byte_at b (4 * place + i % 4)) ≡ true
  unfolding wrong_cell
  byte_wrong = rw stands_there at wrong_there

  found : bound_of b s row (i % 4) ≤ byte_at b (4 * place + i % 4)
  unfolding is_wrong
  found = leb-true _ _ (and_l _ _ byte_wrong)

  found_plain : is_value b s row (i % 4) ≡ true → forbids_of b s ≡ false → is_any (byte_at b (4 * place + i % 4)) ≡ false
  unfolding is_wrong is_value any_places
  found_plain e g = not-true _ (rw (g, e) at (and_r (leb (bound_of b s row (i % 4)) (byte_at b (4 * place + i % 4))) _ byte_wrong))

  pub large_value : is_value b s row (i % 4) ≡ true → LargeValue b place
  unfolding is_value bound_of place_column
  large_value e = record {
    fault = at_first_fault;
    used = rw (row_there, sheet_there) (ltb-true _ _ (and_l (ltb row (rows_of b s)) _ e));
    value = rw (byte_there, sheet_there) (ltb-true _ _ (and_r (ltb row (rows_of b s)) _ e));
    large = rw (sheet_there, byte_there) (rw e at found);
    not_any = rw (byte_there, sheet_there) (found_plain e);
  }

  pub wrong_filler : is_value b s row (i % 4) ≡ false → WrongFiller b place
  unfolding is_value bound_of
  wrong_filler e = record { fault = at_first_fault; filler = rw (row_there, sheet_there, byte_there) (go (below row (rows_of b s))); not_zero = rw byte_there (rw e at found) }
    where
      go : (row < rows_of b s) ⊎ (rows_of b s ≤ row) → (rows_of b s ≤ row) ⊎ (width_of b s ≤ i % 4)
      go (inl p) = inr (ltb-false _ _ (rw (lt-ltb row (rows_of b s) p) at e))
      go (inr p) = inl p

-- a sheet with such a row is a forbidden one
forbids_in : (b : List ℕ) (s : ℕ) → falls_in b s ≡ true → forbids_of b s ≡ true
unfolding falls_in
forbids_in b s e = and_l (forbids_of b s) _ e

-- ---- read off the number
module _ (b : List ℕ) (from : 5 ≤ check_result b / 65536) where
  later : (check_result b < 65536) ⊎ (5 * 65536 ≤ check_result b)
  later = inr (omega arith)

  -- a place is a small number
  module _ (s q i : ℕ) (f : FirstAt b s q i) where
    small : place_of b s q i < 65536
    unfolding blocks_needed
    small = omega (arith, blocks_most b (later_head b later), first_block_later b s (sheets_of b) f.sheet, f.block, f.byte)

    split : (n : ℕ) → check_result b ≡ refused n (place_of b s q i) → (check_result b / 65536 ≡ n) × (check_result b % 65536 ≡ place_of b s q i)
    split n e = (omega (arith, small), omega (arith, small))

  -- what the number tells
  abbrev Told : Type 0
  Told =
      ((check_result b / 65536 ≡ 5) × LargeValue b (check_result b % 65536))
      ⊎ (((check_result b / 65536 ≡ 6) × WrongFiller b (check_result b % 65536)) ⊎ ((check_result b / 65536 ≡ 7) × FirstFall b (check_result b % 65536)))

  -- ---- no fault: a row that does not rise
  module _ (clear : NoneIn (wrong_sheet b) 0 (sheets_of b)) where
    -- its sheet and its row
    abbrev s₇ : ℕ
    s₇ = first_fall b

    abbrev r₇ : ℕ
    r₇ = lowest (rows_of b s₇) (falls b s₇)

    right_cell : (s r j : ℕ) → s < sheets_of b → r < 127 * blocks_of b s → j < 4 → wrong_cell b s r j ≡ false
    unfolding wrong_sheet wrong_block
    right_cell s r j p l m =
        sym (row_byte b s r j m) ∙ (any_none ((any_none (clear.at s (omega arith) p)).at (r / 127) (omega arith) (omega arith))).at _ (omega arith) (omega arith)

    numbered : check_result b ≡ number_of (order_verdict b)
    numbered = later_rows b later ∙ ap (λ f. number_of (row_verdict b f)) (fault_none b clear)

    falling : s₇ < sheets_of b → falls_in b s₇ ≡ true
    unfolding first_fall
    falling l = (lowest_first_in {f = falls_in b} (sheets_of b)).passes l

    row_falls : s₇ < sheets_of b → (r₇ < rows_of b s₇) × (falls b s₇ r₇ ≡ true)
    unfolding falls_in
    row_falls l =
        let x = any_below_e (rows_of b s₇) (falls b s₇) (and_r (forbids_of b s₇) _ (falling l)) in
        let f = lowest_first_in {f = falls b s₇} (rows_of b s₇) in
        let m : r₇ < rows_of b s₇ = omega (arith, first_in_most x.0 f (omega arith) x.2, x.1) in
        (m, f.passes m)

    row_before : (s r : ℕ) → s < sheets_of b → forbids_of b s ≡ true → r < rows_of b s → row_place b s r < row_place b s₇ r₇ → s₇ < sheets_of b → falls b s r ≡ false
    unfolding row_place blocks_of first_fall falls_in
    row_before s r p g l m n = go (below s s₇) (below s₇ s)
      where
        go : (s < s₇) ⊎ (s₇ ≤ s) → (s₇ < s) ⊎ (s ≤ s₇) → falls b s r ≡ false
        go (inl k) x = (any_none (rw g at ((lowest_first_in {f = falls_in b} (sheets_of b)).none.at s (omega arith) k))).at r (omega arith) l
        go (inr k) (inl h) = absurd (omega (arith, first_block_later b s₇ s h, (row_falls n).0))
        go (inr k) (inr h) =
            let e : s ≡ s₇ = omega arith in
            rw e ((lowest_first_in {f = falls b s₇} (rows_of b s₇)).none.at r (omega arith) (before (rw e at m)))
          where
            before : row_place b s₇ r < row_place b s₇ r₇ → r < r₇
            before z = omega arith

    order_told : s₇ < sheets_of b → Told
    unfolding order_verdict fall_place blocks_of blocks_needed
    order_told l =
        let u = row_falls l in
        let q = r₇ / 127 in
        let i = 4 * (r₇ % 127) in
        let in-sheet : q < blocks_of b s₇ = omega (arith, u.0) in
        let byte : i < 508 = omega arith in
        let er : 127 * q + i / 4 ≡ r₇ = omega arith in
        let same : row_place b s₇ r₇ ≡ 4 * place_of b s₇ q i = rw er at (stands_at b s₇ q i l in-sheet byte) in
        let n : check_result b ≡ refused 7 (row_place b s₇ r₇ / 4) = numbered ∙ rw (lt-ltb (first_fall b) (sheets_of b) l) in
        let m : place_of b s₇ q i < 65536 = omega (arith, blocks_most b (later_head b later), first_block_later b s₇ (sheets_of b) l, in-sheet) in
        let k : check_result b % 65536 ≡ place_of b s₇ q i = omega arith in
        let es = sheet_at_is b s₇ q i l in-sheet byte in
        let ew : place_row b (place_of b s₇ q i) ≡ r₇ = row_at b s₇ q i l in-sheet byte ∙ er in
        inr
        (inr (
          omega arith,
          rw k (record {
            sheet = rw es l;
            forbidden = rw es (forbids_there l);
            row = rw (es, ew) u.0;
            stands = rw (es, ew) same;
            falling = rw (es, ew) u.1;
            first = λ s r p g h z. row_before s r p g h (omega (arith, same)) l;
            right = right_cell;
          }),
        ))
      where
        forbids_there : s₇ < sheets_of b → forbids_of b s₇ ≡ true
        forbids_there l = forbids_in b s₇ (falling l)

    order_or_none : Told
    unfolding order_verdict
    order_or_none = go (below s₇ (sheets_of b))
      where
        go : (s₇ < sheets_of b) ⊎ (sheets_of b ≤ s₇) → Told
        go (inl l) = order_told l
        go (inr l) =
            let e : check_result b ≡ columns_of b * 16 + sheets_of b = numbered ∙ rw (le-ltb (first_fall b) (sheets_of b) l) in
            absurd (omega (arith, (columns_range b (later_head b later)).1, sheets_most b (later_head b later)))

  told : Told
  unfolding fault_at
  told = go (fault_or_none b)
    where
      at : (s q i : ℕ) → FirstAt b s q i → check_result b ≡ number_of (row_verdict b (fault_at b s q i))
          → (is_value b s (127 * q + i / 4) (i % 4) ≡ true) ⊎ (is_value b s (127 * q + i / 4) (i % 4) ≡ false) → Told
      at s q i f e (inl h) = let k = split s q i f 5 (e ∙ ap number_of (value_at b s q i h)) in inl (k.0, rw k.1 (large_value b s q i f h))
      at s q i f e (inr h) = let k = split s q i f 6 (e ∙ ap number_of (filler_at b s q i h)) in inr (inl (k.0, rw k.1 (wrong_filler b s q i f h)))

      go : NoneIn (wrong_sheet b) 0 (sheets_of b) ⊎ Faulty b → Told
      go (inl h) = order_or_none h
      go (inr f) = at _ _ _ f.first (later_rows b later ∙ ap (λ f. number_of (row_verdict b f)) f.same) (either _)

-- the statement of specs/Places.antt
pub places_tell : (b : List ℕ) → PlacesTell b
places_tell b =
    record {
      number_5 = λ e. five e (told b (omega arith));
      number_6 = λ e. six e (told b (omega arith));
      number_7 = λ e. seven e (told b (omega arith));
    }
  where
    five : {n : ℕ} {A B C : Type 0} → n ≡ 5 → ((n ≡ 5) × A) ⊎ (((n ≡ 6) × B) ⊎ ((n ≡ 7) × C)) → A
    five e (inl x) = x.1
    five e (inr (inl x)) = absurd (omega (arith, x.0))
    five e (inr (inr x)) = absurd (omega (arith, x.0))

    six : {n : ℕ} {A B C : Type 0} → n ≡ 6 → ((n ≡ 5) × A) ⊎ (((n ≡ 6) × B) ⊎ ((n ≡ 7) × C)) → B
    six e (inl x) = absurd (omega (arith, x.0))
    six e (inr (inl x)) = x.1
    six e (inr (inr x)) = absurd (omega (arith, x.0))

    seven : {n : ℕ} {A B C : Type 0} → n ≡ 7 → ((n ≡ 5) × A) ⊎ (((n ≡ 6) × B) ⊎ ((n ≡ 7) × C)) → C
    seven e (inl x) = absurd (omega (arith, x.0))
    seven e (inr (inl x)) = absurd (omega (arith, x.0))
    seven e (inr (inr x)) = x.1
