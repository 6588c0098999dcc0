-- The statements speak of something: the paper's books are well-formed, its opening state holds, a book with one sheet has stores with no
-- empty column, and a book with 255 has a written-out twin. Assumes nothing.
use mathlib.Core.Path.{◌∙◌, ◌≡◌, ap, refl, subst, sym}
use mathlib.Core.Bool.{Bool, ◌&&◌, ◌||◌, false, false≢true, not, true}
use mathlib.Core.Logic.{◌⊎◌, inl, inr, ⊎_elim}
use mathlib.Core.List.{List, [], ◌∷◌}
use Prim.Native.Nat.{◌-◌, ◌<◌, suc, zero, ℕ}
use native.Mathlib.Nat.{le_of_suc-le-suc, not-suc-le-zero}
use native.Mathlib.Omega.{arith}
use lib.Dec.{eqb, leb, ltb}
use lib.ListN.{get_or, length}
use borrow.Author.Tests.{eqb-true, leb-true, ltb-true, not-true}
use Rattle.model.specs.Acceptance.{AnyBoard, BooksWellFormed, H, H1, H2, H7, H8, H9, HA, HD, RowFacts, opening_index, opening_rows, sheet_of, unequal}
use Rattle.model.specs.Books.{Book, Sheet, WellFormed, WellFormedSheet, column_count, is_any, sheet_at}
use Rattle.model.specs.Choices.{Lower}
use Rattle.model.specs.Orders.{Entry, allowed, domains, narrowed}
use Rattle.model.specs.States.{Indexed, OneSheet, of_sheet, valid, valid_row, valid_word}
use Rattle.model.specs.Stores.{all_filled}
use Rattle.model.specs.Tests.{all_below, all_in}
use Rattle.model.specs.Twins.{SameAnswers}
use Rattle.model.proofs.Acceptance.{computing, written_out_facts}
use Rattle.model.proofs.OneSheet.{one_sheets}
use Rattle.model.proofs.Stores.{filled_e}
use Rattle.model.proofs.Tests.{all_below_e, all_in_e, and_l, and_r, or_e}
use Rattle.model.proofs.Trails.{allowed_store}
use Rattle.model.proofs.WrittenOut.{written_out_answers}

-- ---- well-formed books, by a test
cell_test : List ℕ → Sheet → ℕ → ℕ → Bool
cell_test counts s r i = (not s.forbids && is_any (get_or (get_or s.rows r []) i 0)) || ltb (get_or (get_or s.rows r []) i 0) (get_or counts (get_or s.columns i 0) 0)

lower_test : List ℕ → List ℕ → Bool
lower_test [] ys = false
lower_test (x ∷ xs) [] = false
lower_test (x ∷ xs) (y ∷ ys) = ltb x y || (eqb x y && lower_test xs ys)

lower_e : (x y : List ℕ) → lower_test x y ≡ true → Lower x y
unfolding lower_test
lower_e [] ys e = absurd (false≢true e)
lower_e (x ∷ xs) [] e = absurd (false≢true e)
lower_e (x ∷ xs) (y ∷ ys) e = go (or_e (ltb x y) _ e) (lower_e xs ys)
  where
    go : (ltb x y ≡ true) ⊎ ((eqb x y && lower_test xs ys) ≡ true) → (lower_test xs ys ≡ true → Lower xs ys) → Lower (x ∷ xs) (y ∷ ys)
    go (inl q) f = record { column = 0; same = λ d l. absurd (not-suc-le-zero l); less = ltb-true x y q }
    go (inr q) f = let r = f (and_r (eqb x y) _ q) in record { column = suc r.column; same = same r; less = r.less }
      where
        same : (r : Lower xs ys) (d : ℕ) → d < suc r.column → get_or (x ∷ xs) d 0 ≡ get_or (y ∷ ys) d 0
        same r zero l = eqb-true x y (and_l (eqb x y) _ q)
        same r (suc d) l = r.same d (le_of_suc-le-suc l)

sheet_test : List ℕ → Sheet → Bool
sheet_test counts s =
    ltb 0 (length s.columns)
    && (leb (length s.columns) 4
    && (all_below (length s.columns) (λ j. all_below j (λ i. ltb (get_or s.columns i 0) (get_or s.columns j 0)))
    && (all_below (length s.columns) (λ i. ltb (get_or s.columns i 0) (length counts))
    && (leb (length s.rows) 508
    && (all_below (length s.rows) (λ r. eqb (length (get_or s.rows r [])) (length s.columns))
    && (all_below (length s.rows) (λ r. all_below (length s.columns) (cell_test counts s r))
    && (not s.forbids || all_below (length s.rows - 1) (λ r. lower_test (get_or s.rows r []) (get_or s.rows (suc r) [])))))))))

sheet_well_formed : (counts : List ℕ) (s : Sheet) → sheet_test counts s ≡ true → WellFormedSheet counts s
unfolding sheet_test cell_test
sheet_well_formed counts s e1 =
    let e2 = and_r (ltb 0 (length s.columns)) _ e1 in
    let e3 = and_r (leb (length s.columns) 4) _ e2 in
    let rises : all_below (length s.columns) (λ j. all_below j (λ i. ltb (get_or s.columns i 0) (get_or s.columns j 0))) ≡ true = and_l _ _ e3 in
    let e4 = and_r (all_below (length s.columns) (λ j. all_below j (λ i. ltb (get_or s.columns i 0) (get_or s.columns j 0)))) _ e3 in
    let e5 = and_r (all_below (length s.columns) (λ i. ltb (get_or s.columns i 0) (length counts))) _ e4 in
    let e6 = and_r (leb (length s.rows) 508) _ e5 in
    let e7 = and_r (all_below (length s.rows) (λ r. eqb (length (get_or s.rows r [])) (length s.columns))) _ e6 in
    record {
      some_column = ltb-true _ _ (and_l _ _ e1);
      few_columns = leb-true _ _ (and_l _ _ e2);
      rising = λ i j l m. ltb-true _ _ (all_below_e j (λ i. ltb (get_or s.columns i 0) (get_or s.columns j 0)) (all_below_e _ (λ j. all_below j (λ i. ltb (get_or s.columns i 0) (get_or s.columns j 0))) rises j m) i l);
      inside = λ i l. ltb-true _ _ (all_below_e _ (λ i. ltb (get_or s.columns i 0) (length counts)) (and_l _ _ e4) i l);
      few_rows = leb-true _ _ (and_l _ _ e5);
      row_size = λ r l. eqb-true _ _ (all_below_e _ (λ r. eqb (length (get_or s.rows r [])) (length s.columns)) (and_l _ _ e6) r l);
      row_value = λ r i l m.
          row_cell r i (all_below_e _ (cell_test counts s r) (all_below_e _ (λ r. all_below (length s.columns) (cell_test counts s r)) (and_l _ _ e7) r l) i m);
      row_rises = λ f r l.
          lower_e _ _
          (all_below_e (length s.rows - 1) (λ r. lower_test (get_or s.rows r []) (get_or s.rows (suc r) []))
          (rises_then f (and_r (all_below (length s.rows) (λ r. all_below (length s.columns) (cell_test counts s r))) _ e7)) r (omega arith));
    }
  where
    row_cell : (r i : ℕ) → cell_test counts s r i ≡ true
        → ((s.forbids ≡ false) × (is_any (get_or (get_or s.rows r []) i 0) ≡ true)) ⊎ (get_or (get_or s.rows r []) i 0 < get_or counts (get_or s.columns i 0) 0)
    row_cell r i e =
        ⊎_elim (λ q. inl (not-true s.forbids (and_l _ _ q), and_r (not s.forbids) _ q)) (λ l. inr (ltb-true _ _ l))
        (or_e (not s.forbids && is_any (get_or (get_or s.rows r []) i 0)) _ e)

    rises_then : {t : Bool} → s.forbids ≡ true → (not s.forbids || t) ≡ true → t ≡ true
    rises_then f e = rw f at e

book_test : Book → Bool
book_test b =
    ltb 0 (column_count b)
    && (leb (column_count b) 16
    && (leb (length b.sheets) 8
    && (all_below (column_count b) (λ c. ltb 0 (get_or b.counts c 0))
    && (all_below (column_count b) (λ c. leb (get_or b.counts c 0) 32) && all_in b.sheets (sheet_test b.counts)))))

book_well_formed : (b : Book) → book_test b ≡ true → WellFormed b
unfolding book_test
book_well_formed b e1 =
    let e2 = and_r (ltb 0 (column_count b)) _ e1 in
    let e3 = and_r (leb (column_count b) 16) _ e2 in
    let e4 = and_r (leb (length b.sheets) 8) _ e3 in
    let e5 = and_r (all_below (column_count b) (λ c. ltb 0 (get_or b.counts c 0))) _ e4 in
    let e6 = and_r (all_below (column_count b) (λ c. leb (get_or b.counts c 0) 32)) _ e5 in
    record {
      some_column = ltb-true _ _ (and_l _ _ e1);
      few_columns = leb-true _ _ (and_l _ _ e2);
      few_sheets = leb-true _ _ (and_l _ _ e3);
      some_value = λ c l. ltb-true _ _ (all_below_e _ (λ c. ltb 0 (get_or b.counts c 0)) (and_l _ _ e4) c l);
      few_values = λ c l. leb-true _ _ (all_below_e _ (λ c. leb (get_or b.counts c 0) 32) (and_l _ _ e5) c l);
      sheet = λ s m. sheet_well_formed b.counts s (all_in_e b.sheets (sheet_test b.counts) e6 s m);
    }

pub books_well_formed : BooksWellFormed
unfolding book_test sheet_test cell_test lower_test all_below all_in
books_well_formed =
    record {
      h = book_well_formed H refl;
      h1 = book_well_formed H1 refl;
      h2 = book_well_formed H2 refl;
      h7 = book_well_formed H7 refl;
      h8 = book_well_formed H8 refl;
      h9 = book_well_formed H9 refl;
      hd = book_well_formed HD refl;
      ha = book_well_formed HA refl;
      four = book_well_formed _ refl;
      three = book_well_formed _ refl;
      five = book_well_formed _ refl;
      with_any = book_well_formed _ refl;
      few_any = book_well_formed _ refl;
      hf = book_well_formed _ refl;
      none_forbidden = book_well_formed _ refl;
      all_forbidden = book_well_formed _ refl;
    }

-- HA and its written-out twin
pub any_board : AnyBoard
any_board =
    record {
      same = subst (SameAnswers HA) written_out_facts.harbour (written_out_answers HA books_well_formed.ha);
    }

-- ---- H2 has one sheet: whatever is allowed, so long as no column is empty
h2_sheet : (L : List Entry) → all_filled 2 (allowed H2 L) ≡ true → OneSheet H2 (sheet_of (0 ∷ 1 ∷ []) unequal) (allowed H2 L)
h2_sheet L e = one_sheets H2 _ (allowed H2 L) books_well_formed.h2 refl refl (allowed_store H2 L) (filled_e 2 (allowed H2 L) e)

-- its opening, where every row is valid, and column 0 narrowed to 1, where one is
pub h2_opening : OneSheet H2 (sheet_of (0 ∷ 1 ∷ []) unequal) (allowed H2 [])
unfolding computing
h2_opening = h2_sheet [] refl

pub h2_narrowed : OneSheet H2 (sheet_of (0 ∷ 1 ∷ []) unequal) (allowed H2 (narrowed 0 2 ∷ []))
unfolding computing
h2_narrowed = h2_sheet (narrowed 0 2 ∷ []) refl

-- ---- the opening state of H
-- an index that lists the words in order, of which the first alone is not zero
first_indexed : (index word : ℕ → ℕ) → all_below 8 (λ i. eqb (index i) i) ≡ true → 0 < word 0 → all_below 7 (λ i. eqb (word (suc i)) 0) ≡ true
    → Indexed index 1 word
first_indexed index word e p z =
    record {
      few = omega arith;
      each = λ i l. omega (arith, own i l);
      once = λ i j l m q. sym (own i l) ∙ q ∙ own j m;
      every = λ w l. (w, l, own w l);
      limit = λ i l. (
        λ h. ⊎_elim (λ w. omega arith) (λ w. omega arith) (word_at i l),
        λ h. ⊎_elim (λ w. omega arith) (λ w. omega arith) (word_at i l),
      );
    }
  where
    own : (i : ℕ) → i < 8 → index i ≡ i
    own i l = eqb-true _ _ (all_below_e 8 (λ i. eqb (index i) i) e i l)

    word_at : (i : ℕ) → i < 8 → ((i ≡ 0) × (0 < word (index i))) ⊎ ((0 < i) × (word (index i) ≡ 0))
    word_at zero l = inl (refl, rw (own zero l) p)
    word_at (suc i) l =
        inr (omega arith, ap word (own (suc i) l) ∙ eqb-true _ _ (all_below_e 7 (λ i. eqb (word (suc i)) 0) z i (omega arith)))

pub row_facts : RowFacts
unfolding computing valid valid_row valid_word
row_facts =
    record {
      opening =
          record {
            domain = λ c. refl;
            rows = λ s w l m.
                eqb-true _ _
                (all_below_e 8 (λ w. eqb (of_sheet opening_rows s w) (valid_word (domains H []) (sheet_at H s) w))
                (all_below_e 2 (λ s. all_below 8 (λ w. eqb (of_sheet opening_rows s w) (valid_word (domains H []) (sheet_at H s) w))) refl s l) w m);
            indexed = indexed;
          };
      narrowed_0 = refl;
      narrowed_1 = refl;
    }
  where
    indexed : (s : ℕ) → s < 2 → Indexed (of_sheet opening_index s) (get_or (1 ∷ 1 ∷ []) s 0) (of_sheet opening_rows s)
    indexed zero l = first_indexed (of_sheet opening_index 0) (of_sheet opening_rows 0) refl (omega arith) refl
    indexed (suc zero) l = first_indexed (of_sheet opening_index 1) (of_sheet opening_rows 1) refl (omega arith) refl
    indexed (suc (suc s)) l = absurd (omega arith)
