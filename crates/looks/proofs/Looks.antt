-- Laws of a whole look at a sheet: from what the engine knows of it to its rows, the look, and back. Strikes settle a sheet of either kind in the same way.
-- Assumes nothing.
use mathlib.Core.Path.{◌∙◌, ◌≡◌, ap, refl, sym}
use mathlib.Core.Bool.{Bool, ◌&&◌, ◌||◌, false, false≢true, not, true}
use mathlib.Core.Logic.{◌⊎◌, inl, inr}
use mathlib.Core.List.{List}
use Prim.Native.Nat.{◌%◌, ◌*◌, ◌+◌, ◌/◌, ◌<◌, ◌≤◌, ℕ}
use native.Mathlib.Omega.{arith}
use lib.Dec.{eqb}
use lib.ListN.{get_or, length}
use borrow.Author.Tests.{eq-eqb, ne_eqb}
use Rattle.model.specs.Books.{Sheet, in_domain, matches, supported_in, sheet_at}
use Rattle.model.specs.Masks.{bit}
use Rattle.model.specs.States.{of_sheet, valid_row, valid_word}
use Rattle.model.specs.Stores.{IsStore, Within, has}
use Rattle.model.specs.Tests.{all_below}
use Rattle.model.proofs.Books.{in_domain_e, in_domain_i, support_e}
use Rattle.model.proofs.Masks.{bit_of_zero, some_bit}
use Rattle.model.proofs.Rows.{supports_by_rows, word_row, word_same}
use Rattle.model.proofs.Settling.{settles_failed, settles_filled, settles_seen}
use Rattle.model.proofs.Tests.{all_below_e, all_below_i, and_i, and_l, and_r, below, either, or_r, positive, same_test}
use Rattle.book.specs.Decoding.{book_of}
use Rattle.heads.specs.Heads.{column_of, forbids_of, rows_of, width_of}
use Rattle.cells.specs.Cells.{row_inside}
use Rattle.words.specs.Sheets.{AtSheet, CutBy, IndexOf, OnlySheet, RowsAre, RowsKnown, Sized, Wanted, is_set, passes_at, passes_below, value_at}
use Rattle.words.proofs.Cuts.{cut_words, row_word}
use Rattle.words.proofs.Gathers.{row_given, row_gives}
use Rattle.words.proofs.Indexes.{past_limit}
use Rattle.words.proofs.Places.{column_value, columns_size, forbidden_value, formed, row_value, rows_few, sheet_forbids, sheet_in, unused_value, valid_e, valid_i, width_most}
use Rattle.looks.specs.Looks.{Revised, Seen, SheetKnown, Struck}
use Rattle.looks.proofs.Strikes.{each_column, loses_none}

-- ---- an empty column, and one that is not
pub none_in : (D : List ℕ) {c k : ℕ} → c ≡ k → get_or D c 0 ≡ 0 → (v : ℕ) → has D k v ≡ true → ⊥
unfolding has
none_in D e z v t = false≢true (sym (bit_of_zero v) ∙ ap (bit v) (sym z ∙ ap (λ (i : ℕ). get_or D i 0) e) ∙ t)

pub some_in : (D : List ℕ) {c k : ℕ} → c ≡ k → IsStore 16 D → (get_or D c 0 ≡ 0 → ⊥) → (v : ℕ) × (has D k v ≡ true)
unfolding has
some_in D {c} e d n = let r = some_bit 32 (get_or D c 0) (d.bits c) (positive _ n) in (r.0, ap (λ (i : ℕ). bit r.0 (get_or D i 0)) (sym e) ∙ r.2)

module _ {b : List ℕ} {begin s : ℕ} (a : AtSheet b begin s) where
  abbrev sheet : Sheet
  sheet = sheet_at (book_of b) s

  -- ---- from what the engine knows to the rows
  -- the rows that are set are those that are valid where the sheet looked
  set_valid : (E W : List ℕ) → ((w : ℕ) → w < 8 → of_sheet W s w ≡ valid_word E (sheet_at (book_of b) s) w) → (r : ℕ) → r < 512
      → is_set W s r ≡ valid_row E (sheet_at (book_of b) s) r
  unfolding is_set
  set_valid E W h r l =
      let e : 64 * (r / 64) + r % 64 ≡ r = omega arith in
      ap (bit (r % 64)) (h (r / 64) (omega arith)) ∙ word_row E sheet (r / 64) (r % 64) (omega arith) ∙ ap (valid_row E sheet) e

  valid_within : {B D : List ℕ} → Within B D → (r : ℕ) → valid_row B (sheet_at (book_of b) s) r ≡ true → valid_row D (sheet_at (book_of b) s) r ≡ true
  unfolding has
  valid_within {B} {D} w r e =
      let q = valid_e a B r e in
      valid_i a D r q.0 (λ j l. let u = in_domain_e _ _ (q.1 j l) in in_domain_i _ _ u.0 u.2 (w.at (column_of b s j) u.0 u.1))

  pub rows_known : {changed : ℕ} {opening : Bool} {D W X N : List ℕ} → SheetKnown b s changed opening D W X N → Sized W X N → RowsKnown b s changed D W X N
  rows_known {changed} {opening} {D} {W} h z = record {
    words = record { inside = record { at = λ r l e. (valid_e a h.saw r (sym (at r l) ∙ e)).0 }; indexed = h.seen.indexed; sized = z };
    all = λ r l e. at r l ∙ valid_within h.within r e;
    seen = λ r j l e m z. rw (h.same (column_of b s j) z) ((valid_e a h.saw r (sym (at r l) ∙ e)).1 j m);
  }
    where
      at : (r : ℕ) → r < 512 → is_set W s r ≡ valid_row h.saw (sheet_at (book_of b) s) r
      at r l = set_valid h.saw W h.seen.rows r l

  -- ---- and back
  pub rows_are : {D W X N : List ℕ} → RowsKnown b s 0 D W X N → RowsAre b s D W
  rows_are {D} {W} h = record {
    at = λ r l.
        same_test _ _
        (λ e. valid_i a D r (h.words.inside.at r l e) (λ j m. h.seen r j l e m (bit_of_zero (column_of b s j))))
        (λ e. h.all r l e);
  }

  seen_rows : {D W X N : List ℕ} → RowsKnown b s 0 D W X N → ((c v : ℕ) → has D c v ≡ true → supported_in D c v (sheet_at (book_of b) s) ≡ true)
      → Seen b s false D W X N
  unfolding is_set
  seen_rows {D} {W} h f = record {
    rows = λ w l.
        word_same D sheet w (of_sheet W s w) (h.words.sized.bits (8 * s + w))
        (λ k m.
        let p : (64 * w + k) % 64 ≡ k = omega arith in
        let q : (64 * w + k) / 64 ≡ w = omega arith in
        rw (p, q) at ((rows_are h).at (64 * w + k) (omega arith)));
    indexed = h.words.indexed;
    supported = λ o. f;
  }

  -- ---- after pass 1 the rows that are set are the valid ones
  cut_known : (changed : ℕ) (D : List ℕ) {W X N W' X' N' : List ℕ} → RowsKnown b s changed D W X N
      → CutBy (passes_below b s changed D (width_of b s)) s W X N W' X' N' → RowsKnown b s 0 D W' X' N'
  unfolding passes_below passes_at
  cut_known changed D {W} {X} {N} {W'} h c = record {
    words = cut_words c h.words;
    all = λ r l e.
        c.at r l
        ∙ and_i (h.all r l e)
        (all_below_i (width_of b s) (λ j. passes_at b s changed D j r)
        (λ j m. or_r (not (bit (column_of b s j) changed)) _ ((valid_e a D r e).1 j m)));
    seen = λ r j l e m z. go r j l m (sym (c.at r l) ∙ e) (either (bit (column_of b s j) changed));
  }
    where
      go : (r j : ℕ) → r < 512 → j < width_of b s → (is_set W s r && all_below (width_of b s) (λ j. passes_at b s changed D j r)) ≡ true
          → (bit (column_of b s j) changed ≡ true) ⊎ (bit (column_of b s j) changed ≡ false) → in_domain (value_at b s r j) (get_or D (column_of b s j) 0) ≡ true
      go r j l m e (inr f) = h.seen r j l (and_l (is_set W s r) _ e) m f
      go r j l m e (inl f) =
          let p : (not (bit (column_of b s j) changed) || in_domain (value_at b s r j) (get_or D (column_of b s j) 0)) ≡ true
          = all_below_e (width_of b s) (λ j. passes_at b s changed D j r) (and_r (is_set W s r) _ e) j m in
          rw f at p

  -- the same from what the engine knows
  pub cut_rows : {changed : ℕ} {opening : Bool} {D W X N W' X' N' : List ℕ} → SheetKnown b s changed opening D W X N → Sized W X N
      → CutBy (passes_below b s changed D (width_of b s)) s W X N W' X' N' → RowsKnown b s 0 D W' X' N'
  cut_rows k z = cut_known _ _ (rows_known k z)

  -- ---- columns are struck, whatever the kind of the sheet
  module _ {D E : List ℕ} {lost : ℕ} (d : IsStore 16 D) (p : Struck b s D E lost) where
    first_column : get_or (sheet_at (book_of b) s).columns 0 0 ≡ column_of b s 0
    first_column = column_value a 0 (width_most a).0

    module _ {W X N W' X' N' : List ℕ} (o : OnlySheet s W X N W' X' N') where
      pub revised_struck : RowsKnown b s 0 E W' X' N' → (w : ℕ) → has E (column_of b s 0) w ≡ true → Revised b s D W X N E W' X' N' true lost
      revised_struck h w e = record {
        loses = p.loses;
        struck = p.settles.struck;
        seen = λ t. seen_rows h (settles_seen _ D E sheet ((formed a).sheet sheet (sheet_in a)) d.bits p.settles p.loses.store.bits);
        filled = λ t. settles_filled _ D E sheet ((formed a).sheet sheet (sheet_in a)) d.bits p.settles w (rw first_column e);
        failed = λ t. absurd (false≢true (sym t));
        indexed = h.words.indexed;
        only = o;
        sized = h.words.sized;
      }

      -- the first column became empty
      pub revised_failed : IndexOf s W' X' N' → Sized W' X' N' → ((w : ℕ) → has E (column_of b s 0) w ≡ true → ⊥) → Revised b s D W X N E W' X' N' false lost
      revised_failed x z n = record {
        loses = p.loses;
        struck = p.settles.struck;
        seen = λ t. absurd (false≢true t);
        filled = λ t. absurd (false≢true t);
        failed = λ t j v l.
            rw (← column_value a j l)
            (settles_failed _ D E sheet ((formed a).sheet sheet (sheet_in a)) d.bits p.settles (λ w e. n w (rw first_column at e)) j v (omega (arith, columns_size a)));
        indexed = x;
        only = o;
        sized = z;
      }

    -- the rows that are set are the valid ones but for what was struck
    pub struck_known : {W X N : List ℕ} → RowsKnown b s 0 D W X N → RowsKnown b s lost E W X N
    struck_known h = record {
      words = h.words;
      all = λ r l e. h.all r l (valid_within p.loses.within r e);
      seen = λ r j l e m q. rw (p.loses.unchanged (column_of b s j) q) (h.seen r j l e m (bit_of_zero (column_of b s j)));
    }

  -- ---- a sheet that forbids its rows
  module _ (f : forbids_of b s ≡ true) {D x : List ℕ} (w : Wanted b s D (width_of b s) x) where
    -- a cell is looked up in its column's domain
    cell_in_lem : (r j : ℕ) → r < rows_of b s → j < width_of b s → bit (value_at b s r j % 32) (get_or x j 0) ≡ in_domain (value_at b s r j) (get_or D (column_of b s j) 0)
    unfolding in_domain
    cell_in_lem r j l m =
        let v = forbidden_value a f r j l m in
        let z : value_at b s r j % 32 ≡ value_at b s r j = omega arith in
        rw (z, w.at j m, ne_eqb (value_at b s r j) 255 (λ e. omega arith)) refl

    -- at a place that is not used it is the 0 that is wanted there
    unused_in : (r j : ℕ) → r < rows_of b s → width_of b s ≤ j → j < 4 → bit (value_at b s r j % 32) (get_or x j 0) ≡ true
    unfolding bit
    unused_in r j l m n = rw (unused_value a r j l m n, w.rest j m n) refl

    -- the rows cut to those with every cell in its domain are the valid ones
    pub inside_known : {lost : ℕ} {W X N W' X' N' : List ℕ} → RowsKnown b s lost D W X N → CutBy (row_inside b begin x) s W X N W' X' N' → RowsKnown b s 0 D W' X' N'
    unfolding row_inside
    inside_known {W = W} {W' = W'} h c = record {
      words = cut_words c h.words;
      all = λ r l e.
          let v = valid_e a D r e in
          cut_at r l ∙ and_i (h.all r l e) (all_below_i 4 (λ j. bit (value_at b s r j % 32) (get_or x j 0)) (λ j m. each r j v.0 m (v.1 j) (below j (width_of b s))));
      seen = λ r j l e m z.
          let i = sym (cut_at r l) ∙ e in
          sym (cell_in_lem r j (h.words.inside.at r l (and_l (is_set W s r) _ i)) m)
          ∙ all_below_e 4 (λ j. bit (value_at b s r j % 32) (get_or x j 0)) (and_r (is_set W s r) _ i) j (omega (arith, m, (width_most a).1));
    }
      where
        cut_at : (r : ℕ) → r < 512 → is_set W' s r ≡ (is_set W s r && all_below 4 (λ j. bit (value_at b s r j % 32) (get_or x j 0)))
        cut_at r l = rw a.begins at (c.at r l)

        each : (r j : ℕ) → r < rows_of b s → j < 4 → (j < width_of b s → in_domain (value_at b s r j) (get_or D (column_of b s j) 0) ≡ true) → (j < width_of b s) ⊎ (width_of b s ≤ j)
            → bit (value_at b s r j % 32) (get_or x j 0) ≡ true
        each r j l m g (inl k) = cell_in_lem r j l k ∙ g k
        each r j l m g (inr k) = unused_in r j l k m

  -- ---- a sheet that allows its rows
  module _ (plain : forbids_of b s ≡ false) {D W X N W' X' N' : List ℕ} (d : IsStore 16 D) (h : RowsKnown b s 0 D W' X' N') (o : OnlySheet s W X N W' X' N') where
    -- a row that is set is valid
    set_row : (r : ℕ) → r < 512 → is_set W' s r ≡ true → valid_row D (sheet_at (book_of b) s) r ≡ true
    set_row r l e = sym ((rows_are h).at r l) ∙ e

    -- no row is left
    pub revised_none : get_or N' s 0 ≡ 0 → Revised b s D W X N D W' X' N' false 0
    unfolding is_set
    revised_none e = record {
      loses = loses_none d;
      struck = λ c v f. inl f;
      seen = λ t. absurd (false≢true t);
      filled = λ t. absurd (false≢true t);
      failed = λ t j v l. unsupported j v l (either (supported_in D (column_of b s j) v sheet));
      indexed = h.words.indexed;
      only = o;
      sized = h.words.sized;
    }
      where
        none : (r : ℕ) → r < 512 → is_set W' s r ≡ true → ⊥
        none r l f =
            let p = h.words.indexed.every (r / 64) (omega arith) in
            let g = past_limit h.words.indexed p.0 p.1 (omega arith) in
            false≢true (sym (bit_of_zero (r % 64)) ∙ ap (bit (r % 64)) (sym g ∙ ap (of_sheet W' s) p.2) ∙ f)

        unsupported : (j v : ℕ) → j < width_of b s
            → (supported_in D (column_of b s j) v (sheet_at (book_of b) s) ≡ true) ⊎ (supported_in D (column_of b s j) v (sheet_at (book_of b) s) ≡ false)
            → supported_in D (column_of b s j) v (sheet_at (book_of b) s) ≡ false
        unsupported j v l (inl t) = let u = row_given a plain d j v l t in absurd (none u.0 u.1 ((rows_are h).at u.0 u.1 ∙ u.2))
        unsupported j v l (inr t) = t

    -- no row was cut, so every value has the support that it had
    pub revised_same : {changed : ℕ} {opening : Bool} → SheetKnown b s changed opening D W X N → opening ≡ false → W' ≡ W → Revised b s D W X N D W' X' N' true 0
    revised_same {changed} {opening} k f same = record {
      loses = loses_none d;
      struck = λ c v e. inl e;
      seen = λ t. seen_rows h (each_column a d D own);
      filled = λ t c v e. (v, e);
      failed = λ t. absurd (false≢true (sym t));
      indexed = h.words.indexed;
      only = o;
      sized = h.words.sized;
    }
      where
        own : (j v : ℕ) → j < width_of b s → has D (column_of b s j) v ≡ true → supported_in D (column_of b s j) v (sheet_at (book_of b) s) ≡ true
        own j v l e =
            let i : j < length sheet.columns = omega (arith, columns_size a) in
            let t : supported_in k.saw (get_or sheet.columns j 0) v sheet ≡ true = rw (column_value a j l) (k.seen.supported f (column_of b s j) v (k.within.at _ v e)) in
            let u = (supports_by_rows k.saw sheet (sheet_forbids a ∙ plain) j v i).0 (support_e k.saw (book_of b).counts sheet ((formed a).sheet sheet (sheet_in a)) j i v t) in
            let n = (valid_e a k.saw u.row u.is_valid).0 in
            let m : u.row < 512 = omega (arith, n, rows_few a) in
            let y : is_set W' s u.row ≡ true = rw same (set_valid k.saw W k.seen.rows u.row m ∙ u.is_valid) in
            row_gives a plain d u.row j v l (set_row u.row m y) (ap (λ (x : ℕ). matches x v) (sym (row_value a u.row j n l)) ∙ u.value) e

    -- ---- columns are struck
    module _ {E : List ℕ} {lost : ℕ} (p : Struck b s D E lost) where
      -- a row that is set carries a value of its column that is not struck
      still : (r j : ℕ) → r < 512 → is_set W' s r ≡ true → j < width_of b s
          → (v : ℕ) × (has E (column_of b s j) v ≡ true) × (matches (value_at b s r j) v ≡ true)
      unfolding has
      still r j l e m =
          let u = in_domain_e _ _ (h.seen r j l e m (bit_of_zero (column_of b s j))) in
          (u.0, go u.0 (row_gives a plain d r j u.0 m (set_row r l e) u.2 u.1) (p.settles.struck (column_of b s j) u.0 u.1), u.2)
        where
          go : (v : ℕ) → supported_in D (column_of b s j) v (sheet_at (book_of b) s) ≡ true
              → (has E (column_of b s j) v ≡ true) ⊎ (supported_in D (column_of b s j) v (sheet_at (book_of b) s) ≡ false) → has E (column_of b s j) v ≡ true
          go v t (inl f) = f
          go v t (inr f) = absurd (false≢true (sym f ∙ t))

      -- a count that is not 0 has a row
      some_row : 0 < get_or N' s 0 → (r : ℕ) × (r < 512) × (is_set W' s r ≡ true)
      some_row l =
          let w = of_sheet X' s 0 in
          let i : w < 8 = h.words.indexed.each 0 (omega arith) in
          let f = some_bit 64 (of_sheet W' s w) (h.words.sized.bits (8 * s + w)) ((h.words.indexed.limit 0 (omega arith)).0 l) in
          (64 * w + f.0, omega (arith, i, f.1), row_word W' s w f.0 f.1 ∙ f.2)

      after : RowsKnown b s 0 E W' X' N'
      unfolding has
      after = record {
        words = h.words;
        all = λ r l e. h.all r l (valid_within p.loses.within r e);
        seen = λ r j l e m q. let u = still r j l e m in in_domain_i _ _ u.0 u.2 u.1;
      }

      pub revised_carried : (get_or N' s 0 ≡ 0 → ⊥) → Revised b s D W X N E W' X' N' true lost
      revised_carried some =
          let r = some_row (positive _ some) in
          let u = still r.0 0 r.1 r.2 (width_most a).0 in
          revised_struck d p o after u.0 u.1

-- as the code tests it: the sheet allows its rows, and goes on, so some word is left
pub some_there : (forbids : Bool) {n : ℕ} → forbids ≡ false → not (forbids || not (eqb n 0)) ≡ false → n ≡ 0 → ⊥
some_there forbids {n} f e z = false≢true (sym (rw (f, eq-eqb n 0 z) at e))
