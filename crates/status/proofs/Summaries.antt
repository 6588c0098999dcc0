-- Laws of status and done byte: of a state that is not failed, and of one that is. Assumes nothing.
use mathlib.Core.Path.{◌∙◌, ◌≡◌, ap, refl, sym}
use mathlib.Core.Bool.{Bool, cond, false, false≢true, not, true, true≢false}
use mathlib.Core.Logic.{◌⊎◌, inl, inr}
use mathlib.Core.List.{List}
use Prim.Native.Nat.{◌%◌, ◌*◌, ◌+◌, ◌/◌, ◌<◌, ◌^◌, ◌≤◌, suc, zero, ℕ}
use native.Mathlib.Omega.{arith}
use lib.Dec.{eqb, ltb}
use lib.ListN.{get_or, length}
use borrow.Author.Tests.{eq-eqb, eqb-true, ltb-false, ltb-true}
use Rattle.model.specs.Answers.{assigned, done_of, status_of, subsumed}
use Rattle.model.specs.Books.{ConsistentStore, Sheet, column_count, sheet_at}
use Rattle.model.specs.Choices.{pick}
use Rattle.model.specs.Masks.{bit, mask_of, size}
use Rattle.model.specs.Orders.{Entry, allowed, domains}
use Rattle.model.specs.States.{of_sheet, valid_word}
use Rattle.model.specs.Stores.{all_filled, empty_store, has}
use Rattle.model.specs.Tests.{all_below, any_below}
use Rattle.model.proofs.Books.{closed_or_empty}
use Rattle.model.proofs.Choices.{pick_same}
use Rattle.model.proofs.Masks.{bit_of_zero, mask_of_same, size_zero, some_bit}
use Rattle.model.proofs.Rows.{word_row, words_same}
use Rattle.model.proofs.Stores.{filled_e, filled_i}
use Rattle.model.proofs.Subsumptions.{one_open, subsumed_iff, subsumed_same}
use Rattle.model.proofs.Tests.{all_below_e, all_below_i, any_below_e, any_below_i, below, either, get_or-tab_out, length-tab, some_count, two_count}
use Rattle.model.proofs.Trails.{allowed_store, domains_store}
use Rattle.book.specs.Decoding.{book_of, sheet_of}
use Rattle.book.specs.Verdicts.{Accepted}
use Rattle.book.proofs.Decoding.{accepted_right, right_formed}
use Rattle.heads.specs.Heads.{column_of, columns_of, rows_of, sheets_of, width_of}
use Rattle.heads.proofs.Heads.{column_inside, columns_range, sheets_most}
use Rattle.words.specs.Sheets.{AtSheet, SheetWords, is_set}
use Rattle.words.proofs.Places.{column_below, column_value, columns_size, sheet_in, valid_e, width_most}
use Rattle.cover.specs.Covers.{SettledSheet, SizesTo}
use Rattle.engine.specs.Propagation.{store_in}
use Rattle.engine.specs.States.{StateIs}
use Rattle.engine.specs.declared.state.State.{State}
use Rattle.engine.proofs.Propagation.{columns_count, no_value, is_store_in, store_is}
use Rattle.status.specs.Status.{OpenState, SummaryIs, done_sheets, is_many, open_places, open_status, status_number}
use Rattle.status.specs.declared.Summary.{Summary}

-- a mask with a place is not 0, and one that is not 0 has a place
some_value : (x v : ℕ) → bit v x ≡ true → 0 < x
some_value zero v e = absurd (false≢true (sym (bit_of_zero v) ∙ e))
some_value (suc x) v e = omega arith

filled_size : (x : ℕ) → 0 < x → x < 2 ^ 32 → 0 < size x
filled_size x p h = let r = some_bit 32 x h p in some_count 32 (λ v. bit v x) r.0 r.1 r.2

-- ---- a state that is not failed
module _ {b : List ℕ} (acc : Accepted b) {st : State} (o : OpenState b st) where
  abbrev C : ℕ
  C = column_count (book_of b)

  abbrev E : List ℕ
  E = store_in b st.dom

  few_columns : columns_of b ≤ 16
  few_columns = (columns_range b (accepted_right b acc).head).1

  filled : (c : ℕ) → c < columns_of b → (v : ℕ) × (bit v (get_or st.dom c 0) ≡ true)
  unfolding has
  filled c l = let r = o.consistent.filled c (omega (arith, columns_count b)) in (r.0, ap (bit r.0) (o.state.domain c) ∙ r.1)

  all_filled_lem : all_filled (column_count (book_of b)) (store_in b st.dom) ≡ true
  all_filled_lem = filled_i C E (is_store_in b o.store) o.consistent.filled

  module _ {Z : List ℕ} (z : SizesTo st.dom 16 Z) where
    -- each column holds one value exactly when none has more
    assigned_closed : assigned (book_of b) (store_in b st.dom) ≡ not (any_below 16 (is_many Z))
    unfolding assigned
    assigned_closed = go (either (any_below 16 (is_many Z)))
      where
        sized : (c : ℕ) → c < columns_of b → get_or Z c 0 ≡ size (get_or E c 0)
        sized c l = z.at c (omega (arith, few_columns)) ∙ ap size (o.state.domain c)

        go : (any_below 16 (is_many Z) ≡ true) ⊎ (any_below 16 (is_many Z) ≡ false)
            → all_below C (λ c. eqb (size (get_or E c 0)) 1) ≡ not (any_below 16 (is_many Z))
        go (inl e) = rw e (several (either (all_below C (λ c. eqb (size (get_or E c 0)) 1))))
          where
            several : (all_below C (λ c. eqb (size (get_or E c 0)) 1) ≡ true) ⊎ (all_below C (λ c. eqb (size (get_or E c 0)) 1) ≡ false)
                → all_below C (λ c. eqb (size (get_or E c 0)) 1) ≡ false
            several (inr f) = f
            several (inl f) =
                let r = any_below_e 16 (is_many Z) e in
                let many : 1 < get_or Z r.0 0 = ltb-true 1 _ r.2 in
                absurd (clash r.0 r.1 many (below r.0 (columns_of b)))
              where
                clash : (c : ℕ) → c < 16 → 1 < get_or Z c 0 → (c < columns_of b) ⊎ (columns_of b ≤ c) → ⊥
                clash c k many (inl l) =
                    let one = eqb-true (size (get_or E c 0)) 1 (all_below_e C (λ c. eqb (size (get_or E c 0)) 1) f c (omega (arith, columns_count b))) in
                    omega (arith, many, sized c l, one)
                clash c k many (inr l) =
                    let none = z.at c k ∙ ap size (o.state.domain c ∙ get_or-tab_out (columns_of b) (λ c. get_or st.dom c 0) c l) ∙ size_zero in
                    omega (arith, many, none)
        go (inr e) =
            rw e
            (all_below_i C (λ c. eqb (size (get_or E c 0)) 1)
            (λ c l.
            let k : c < columns_of b = omega (arith, columns_count b) in
            let few : get_or Z c 0 ≤ 1 = ltb-false 1 _ (none_many c (omega (arith, few_columns)) (either (is_many Z c))) in
            let v = filled c k in
            let some = filled_size (get_or st.dom c 0) (some_value _ v.0 v.1) (o.store.bits c) in
            eq-eqb (size (get_or E c 0)) 1 (one (size (get_or E c 0)) (omega (arith, few, sized c k)) (omega (arith, some, ap size (o.state.domain c))))))
          where
            none_many : (c : ℕ) → c < 16 → (is_many Z c ≡ true) ⊎ (is_many Z c ≡ false) → is_many Z c ≡ false
            none_many c l (inl t) = absurd (true≢false (sym (any_below_i 16 (is_many Z) c l t) ∙ e))
            none_many c l (inr t) = t

            one : (x : ℕ) → x ≤ 1 → 0 < x → x ≡ 1
            one x p q = omega arith

    pub status_open : open_status Z ≡ status_of (book_of b) (store_in b st.dom)
    unfolding open_status status_of
    status_open = sym (rw (all_filled_lem, assigned_closed) (flip (any_below 16 (is_many Z))))
      where
        flip : (t : Bool) → ◌≡◌ {A = ℕ} (cond (not t) 2 1) (cond t 1 2)
        flip true = refl
        flip false = refl

  -- ---- a sheet
  module _ {begin s : ℕ} (a : AtSheet b begin s) where
    abbrev sheet : Sheet
    sheet = sheet_at (book_of b) s

    inside : s < length (book_of b).sheets
    unfolding book_of
    inside = omega (arith, a.one, length-tab (sheets_of b) (sheet_of b))

    -- the array and the store have the same domains
    same_picks : pick st.dom sheet.columns ≡ pick (store_in b st.dom) sheet.columns
    same_picks = pick_same st.dom E sheet.columns (λ i l. o.state.domain (get_or sheet.columns i 0))

    rows_valid : (w : ℕ) → w < 8 → of_sheet st.rows.valid s w ≡ valid_word st.dom sheet w
    rows_valid w l = o.state.rows s w inside l ∙ words_same E st.dom sheet (sym same_picks) w

    pub sheet_words : SheetWords b s st.rows.valid st.rows.index st.rows.nonzero
    unfolding is_set
    sheet_words = record { inside = record { at = at }; indexed = o.state.indexed s inside; sized = o.sized }
      where
        at : (r : ℕ) → r < 512 → is_set st.rows.valid s r ≡ true → r < rows_of b s
        at r l e =
            let z : 64 * (r / 64) + r % 64 ≡ r = omega arith in
            (valid_e a st.dom r (rw (rows_valid (r / 64) (omega arith), word_row st.dom sheet (r / 64) (r % 64) (omega arith), z) at e)).0

    pub settled_sheet : SettledSheet b s st.dom st.rows.valid
    settled_sheet = record {
      rows = rows_valid;
      filled = λ j l. filled (column_of b s j) (column_inside b (accepted_right b acc).head s a.one j l);
    }

    -- with at most one open column every choice is allowed
    pub few_open : {Z : List ℕ} → SizesTo st.dom 16 Z → open_places b s Z (width_of b s) ≤ 1 → subsumed st.dom sheet ≡ true
    few_open {Z} z n =
        subsumed_same st.dom E sheet same_picks
        ∙ (subsumed_iff E (is_store_in b o.store).bits sheet).1
        (one_open (book_of b) E (is_store_in b o.store).bits o.consistent sheet (sheet_in a) (omega (arith, columns_size a, (width_most a).0)) two)
      where
        open_place : (j : ℕ) → j < width_of b s → ltb 1 (size (get_or E (get_or sheet.columns j 0) 0)) ≡ true → is_many Z (column_of b s j) ≡ true
        open_place j l q =
            ap (ltb 1) (z.at (column_of b s j) (column_below a j l) ∙ ap size (o.state.domain (column_of b s j))) ∙ (rw (column_value a j l) at q)

        two : (i j : ℕ) → i < j → j < length sheet.columns → ltb 1 (size (get_or E (get_or sheet.columns i 0) 0)) ≡ true
            → ltb 1 (size (get_or E (get_or sheet.columns j 0) 0)) ≡ true → ⊥
        two i j p q u v =
            let lj : j < width_of b s = omega (arith, columns_size a) in
            let li : i < width_of b s = omega arith in
            let most = two_count (width_of b s) (λ j. is_many Z (column_of b s j)) i j li lj (open_place i li u) (open_place j lj v) (λ e. omega arith) in
            omega (arith, n, most)

  pub done_open : done_sheets b st.dom (sheets_of b) ≡ done_of (book_of b) (store_in b st.dom)
  unfolding done_sheets done_of book_of
  done_open =
      sym
      (rw (all_filled_lem)
      (ap (λ (n : ℕ). mask_of n (λ s. subsumed E (sheet_at (book_of b) s))) (length-tab (sheets_of b) (sheet_of b))
      ∙ mask_of_same (sheets_of b) (λ s. subsumed E (sheet_at (book_of b) s)) (λ s. subsumed st.dom (sheet_at (book_of b) s))
      (λ s l. sym (subsumed_same st.dom E (sheet_at (book_of b) s) (same_picks (record { accepted = acc; one = l; begins = refl }))))))

-- ---- the state of a trail
module _ {b : List ℕ} (acc : Accepted b) {L : List Entry} {st : State} (h : StateIs b L st) where
  -- its array has the current domains
  state_store : store_in b st.dom ≡ domains (book_of b) L
  state_store = store_is b st.dom (domains (book_of b) L) (domains_store (book_of b) L) h.holds.domain

  closed : ConsistentStore (book_of b) (domains (book_of b) L) ⊎ (domains (book_of b) L ≡ empty_store (column_count (book_of b)))
  unfolding domains
  closed = closed_or_empty (book_of b) (right_formed b (accepted_right b acc)) (allowed (book_of b) L) (allowed_store (book_of b) L)

  some_column : 0 < column_count (book_of b)
  some_column = omega (arith, columns_count b, (columns_range b (accepted_right b acc).head).0)

  pub is_open : (get_or st.dom 0 0 ≡ 0 → ⊥) → OpenState b st
  is_open n = go closed
    where
      go : ConsistentStore (book_of b) (domains (book_of b) L) ⊎ (domains (book_of b) L ≡ empty_store (column_count (book_of b)))
          → OpenState b st
      go (inl k) = record { store = h.store; sized = h.sized; consistent = rw state_store k; state = rw state_store h.holds }
      go (inr e) = absurd (n (h.holds.domain 0 ∙ ap (λ (D : List ℕ). get_or D 0 0) e ∙ no_value b acc 0))

  -- no column of a failed state has a value
  not_filled : get_or st.dom 0 0 ≡ 0 → all_filled (column_count (book_of b)) (domains (book_of b) L) ≡ false
  unfolding has
  not_filled e = go (either (all_filled (column_count (book_of b)) (domains (book_of b) L)))
    where
      go : (all_filled (column_count (book_of b)) (domains (book_of b) L) ≡ true) ⊎ (all_filled (column_count (book_of b)) (domains (book_of b) L) ≡ false)
          → all_filled (column_count (book_of b)) (domains (book_of b) L) ≡ false
      go (inr f) = f
      go (inl f) =
          let r = filled_e (column_count (book_of b)) (domains (book_of b) L) f 0 some_column in
          absurd (false≢true (sym (bit_of_zero r.0) ∙ ap (bit r.0) (sym e ∙ h.holds.domain 0) ∙ r.1))

  pub failed_summary : get_or st.dom 0 0 ≡ 0 → (r : Summary) → status_number r.status ≡ 0 → r.done ≡ 0 → SummaryIs b L r
  unfolding status_of done_of
  failed_summary e r p q = record { status = p ∙ sym (rw (not_filled e) refl); done = q ∙ sym (rw (not_filled e) refl) }

  pub open_summary : (get_or st.dom 0 0 ≡ 0 → ⊥) → {Z : List ℕ} → SizesTo st.dom 16 Z → (r : Summary) → status_number r.status ≡ open_status Z
      → r.done ≡ done_sheets b st.dom (sheets_of b) → SummaryIs b L r
  open_summary n z r p q = record {
    status = p ∙ status_open acc (is_open n) z ∙ ap (status_of (book_of b)) state_store;
    done = q ∙ done_open acc (is_open n) ∙ ap (done_of (book_of b)) state_store;
  }
