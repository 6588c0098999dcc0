-- Laws of a state: a narrow, what propagation starts from, and what it comes to. Assumes nothing.
use mathlib.Core.Path.{◌∙◌, ◌≡◌, ap, refl, subst, sym}
use mathlib.Core.Bool.{Bool, ◌&&◌, ◌||◌, false, false≢true, not, true}
use mathlib.Core.Logic.{◌⊎◌, inl, inr}
use mathlib.Core.List.{List, [], ◌++◌, ◌∷◌}
use Prim.Native.Nat.{◌%◌, ◌*◌, ◌<◌, ◌^◌, ℕ}
use native.Mathlib.Nat.{lt_of_le_of_lt}
use native.Mathlib.Omega.{arith}
use lib.Bits.{and_le_l, and_zero_l, bit_and}
use lib.Dec.{eqb, ltb}
use lib.ListN.{get_or, length, length-set}
use lib.Seq.{ext_get_or, get_or-set_other, get_or-set_same}
use borrow.Author.Tests.{eqb-false, eqb-true, lt-ltb}
use Rattle.model.specs.Books.{Book, ConsistentStore, closure, column_count, supported, supported_in, sheet_at}
use Rattle.model.specs.Choices.{pick}
use Rattle.model.specs.Closure.{Consistent}
use Rattle.model.specs.Masks.{bit}
use Rattle.model.specs.Orders.{Entry, allowed, domains, narrowed}
use Rattle.model.specs.States.{StateOf}
use Rattle.model.specs.Stores.{IsStore, Within, empty_store, has, meet}
use Rattle.model.proofs.Books.{closed_or_empty, consistent_from, stays_iff, supported_in_same}
use Rattle.model.proofs.Choices.{pick_same}
use Rattle.model.proofs.Masks.{bit_of_zero, some_bit}
use Rattle.model.proofs.Rows.{words_same}
use Rattle.model.proofs.Stores.{in_store, meet-has, meet_store, meet_within, store_ext}
use Rattle.model.proofs.Tests.{all_in_e, and_i, and_r, either, get_or-tab, or_l, positive}
use Rattle.model.proofs.Trails.{allowed_store, domains_closed, domains_store, narrow-domains}
use Rattle.book.specs.Decoding.{book_of}
use Rattle.heads.specs.Heads.{columns_of, sheets_of}
use Rattle.book.specs.Verdicts.{Accepted}
use Rattle.book.proofs.Decoding.{accepted_right, right_formed}
use Rattle.heads.proofs.Heads.{columns_range}
use Rattle.words.specs.Sheets.{IndexOf, Sized}
use Rattle.words.proofs.Places.{sheet_in}
use Rattle.cells.proofs.Walks.{shifted_bit}
use Rattle.engine.specs.Layouts.{LayoutOf}
use Rattle.engine.specs.Propagation.{Ready, Propagated, closure_in, store_in}
use Rattle.engine.specs.States.{Emptied, Narrows, state_of}
use Rattle.engine.specs.Worklists.{WaitingFor}
use Rattle.engine.specs.declared.state.State.{State}
use Rattle.engine.proofs.Propagation.{at_sheet, columns_count, empty_domains, empty_sized, empty_state, no_value, sheets_count, is_store_in}
use Rattle.engine.proofs.Worklists.{eight_sheets, touched_sheet, untouched_column}

module _ (b : List ℕ) (acc : Accepted b) (L : List Entry) {D W X N : List ℕ} (h : StateOf (book_of b) (domains (book_of b) L) D W X N)
    (d : IsStore 16 D) (z : Sized W X N) where
  abbrev bk : Book
  bk = book_of b

  abbrev E : List ℕ
  E = domains bk L

  -- ---- the state's own facts
  same_has : (c v : ℕ) → has D c v ≡ has E c v
  unfolding has
  same_has c v = ap (bit v) (h.domain c)

  inside : (c v : ℕ) → has D c v ≡ true → c < columns_of b
  inside c v e = omega (arith, (in_store (column_count bk) E (domains_store bk L) c v (sym (same_has c v) ∙ e)).0, columns_count b)

  pub sheet_index : (s : ℕ) → s < sheets_of b → IndexOf s W X N
  sheet_index s l = h.indexed s (omega (arith, sheets_count b))

  module _ (c m : ℕ) (l : c < columns_of b) where
    low : c < column_count bk
    low = omega (arith, columns_count b)

    -- ---- nothing is cut
    pub narrow_same : bit_and (get_or D c 0) m ≡ get_or D c 0 → StateOf bk (domains bk (L ++ (narrowed c m ∷ []))) D W X N
    narrow_same e = rw same h
      where
        whole : meet E c m ≡ E
        whole =
            ext_get_or 0 (meet E c m) E (length-set E c (bit_and (get_or E c 0) m))
            (λ k q. go k (either (eqb k c)))
          where
            inside_E : c < length E
            inside_E = omega (arith, low, (domains_store bk L).columns)

            go : (k : ℕ) → (eqb k c ≡ true) ⊎ (eqb k c ≡ false) → get_or (meet E c m) k 0 ≡ get_or E k 0
            go k (inl f) =
                let y = eqb-true k c f in
                rw (y, get_or-set_same E c (bit_and (get_or E c 0) m) 0 inside_E, ← h.domain c) e
            go k (inr f) = get_or-set_other E c k (bit_and (get_or E c 0) m) 0 (eqb-false k c f)

        same : domains bk (L ++ (narrowed c m ∷ [])) ≡ domains bk L
        same = sym (narrow-domains bk L c m low) ∙ ap (closure bk) whole ∙ domains_closed bk L

    -- ---- the store that propagation starts from
    met_has : (k v : ℕ) → has (meet D c m) k v ≡ (has D k v && (not (eqb c k) || bit v m))
    met_has k v = meet-has D c m k v (omega (arith, d.columns, (columns_range b (accepted_right b acc).head).1))

    pub met_store : store_in b (meet D c m) ≡ meet E c m
    unfolding has
    met_store =
        store_ext (column_count bk) (store_in b (meet D c m)) (meet E c m) (is_store_in b (meet_store 16 D c m d small)) (meet_store (column_count bk) E c m (domains_store bk L) low)
        (λ k v p q.
        let i : k < columns_of b = omega (arith, columns_count b) in
        ap (bit v) (get_or-tab 0 (columns_of b) (λ k. get_or (meet D c m) k 0) k i)
        ∙ met_has k v
        ∙ ap (λ (t : Bool). t && (not (eqb c k) || bit v m)) (same_has k v)
        ∙ sym (meet-has E c m k v (omega (arith, low, (domains_store bk L).columns))))
      where
        small : c < 16
        small = omega (arith, (columns_range b (accepted_right b acc).head).1)

    pub met_closure : closure_in b (meet D c m) ≡ domains bk (L ++ (narrowed c m ∷ []))
    met_closure = ap (closure bk) met_store ∙ narrow-domains bk L c m low

    -- ---- the column is emptied
    pub narrow_failed : bit_and (get_or D c 0) m ≡ 0 → domains bk (L ++ (narrowed c m ∷ [])) ≡ empty_store (column_count bk)
    unfolding has
    narrow_failed e =
        sym (narrow-domains bk L c m low)
        ∙ go (closed_or_empty bk (right_formed b (accepted_right b acc)) (meet E c m) (meet_store (column_count bk) E c m (domains_store bk L) low))
      where
        none : (v : ℕ) → has (meet E c m) c v ≡ true → ⊥
        none v f =
            false≢true
            (sym (bit_of_zero v)
            ∙ ap (bit v) (sym (get_or-set_same E c (bit_and (get_or E c 0) m) 0 (omega (arith, low, (domains_store bk L).columns)) ∙ ap (λ (x : ℕ). bit_and x m) (sym (h.domain c)) ∙ e))
            ∙ f)

        go : ConsistentStore bk (closure bk (meet E c m)) ⊎ (closure bk (meet E c m) ≡ empty_store (column_count bk))
            → closure bk (meet E c m) ≡ empty_store (column_count bk)
        go (inr f) = f
        go (inl f) =
            let v = f.filled c low in
            absurd
            (none v.0
            (((stays_iff bk (right_formed b (accepted_right b acc)) (meet E c m) (meet_store (column_count bk) E c m (domains_store bk L) low) c v.0).0 v.1).within.at c v.0
            ((stays_iff bk (right_formed b (accepted_right b acc)) (meet E c m) (meet_store (column_count bk) E c m (domains_store bk L) low) c v.0).0 v.1).holds))

    -- ---- some values are left
    module _ (left : bit_and (get_or D c 0) m ≡ 0 → ⊥) where
      -- the closure that stood was consistent
      stood : ConsistentStore bk E
      unfolding domains
      stood = go (closed_or_empty bk (right_formed b (accepted_right b acc)) (allowed bk L) (allowed_store bk L))
        where
          go : ConsistentStore bk (closure bk (allowed bk L)) ⊎ (closure bk (allowed bk L) ≡ empty_store (column_count bk)) → ConsistentStore bk E
          go (inl f) = f
          go (inr f) =
              absurd
              (left
              (ap (λ (x : ℕ). bit_and x m) (h.domain c ∙ ap (λ (x : List ℕ). get_or x c 0) f ∙ empty_entry c) ∙ and_zero_l m))
            where
              empty_entry : (k : ℕ) → get_or (empty_store (column_count bk)) k 0 ≡ 0
              empty_entry k = no_value b acc k

      pub narrow_ready : {begins M S : List ℕ} → LayoutOf b begins M S → {waiting : ℕ} → WaitingFor M ((1 * 2 ^ c) % 2 ^ 32) 8 waiting
          → Ready b false waiting ((1 * 2 ^ c) % 2 ^ 32) (state_of (meet D c m) W X N)
      unfolding has supported
      narrow_ready {begins} {M} lay {waiting} w = record {
        store = meet_store 16 D c m d small;
        sized = z;
        filled = λ k q. filled k q (either (eqb c k));
        past = λ k v e. inside k v (met_within.at k v e);
        sheet = λ s q.
            let a = at_sheet b acc s q in
            let own = sheet_at bk s in
            let agree : pick D own.columns ≡ pick E own.columns = pick_same D E own.columns (λ i k. h.domain (get_or own.columns i 0)) in
            record {
              saw = D;
              seen = record {
                rows = λ w k. h.rows s w (omega (arith, sheets_count b)) k ∙ words_same E D own (sym agree) w;
                indexed = sheet_index s q;
                supported = λ o k v e.
                    supported_in_same D E own agree k v
                    ∙ all_in_e bk.sheets (supported_in E k v) (rested.supported k v (sym (same_has k v) ∙ e)) own (sheet_in a);
              };
              within = met_within;
              same = λ k f. get_or-set_other D c k (bit_and (get_or D c 0) m) 0 (λ x. false≢true (sym f ∙ ap (λ (i : ℕ). bit i ((1 * 2 ^ c) % 2 ^ 32)) x ∙ shifted_bit 32 c (omega (arith, small))));
            };
        quiet = λ s q e. (
          refl,
          λ j k.
              untouched_column lay s ((1 * 2 ^ c) % 2 ^ 32) j q k
              (rw (lt-ltb s 8 (eight_sheets b acc s q)) at (sym (w.at s) ∙ e)),
        );
        used = λ s e. touched_sheet lay s ((1 * 2 ^ c) % 2 ^ 32) (and_r (ltb s 8) _ (sym (w.at s) ∙ e));
        small = w.small;
      }
        where
          small : c < 16
          small = omega (arith, (columns_range b (accepted_right b acc).head).1)

          met_within : Within (meet D c m) D
          met_within = meet_within D c m (omega (arith, small, d.columns))

          rested : Consistent (column_count bk) (supported bk) E
          rested = consistent_from bk E (domains_store bk L) stood

          filled : (k : ℕ) → k < columns_of b → (eqb c k ≡ true) ⊎ (eqb c k ≡ false) → (v : ℕ) × (has (meet D c m) k v ≡ true)
          filled k q (inl e) =
              let y = eqb-true c k e in
              let p = some_bit 32 (bit_and (get_or D c 0) m) (lt_of_le_of_lt (and_le_l (get_or D c 0) m) (d.bits c)) (positive (bit_and (get_or D c 0) m) left) in
              (p.0, rw (← y) (ap (bit p.0) (get_or-set_same D c (bit_and (get_or D c 0) m) 0 (omega (arith, small, d.columns))) ∙ p.2))
          filled k q (inr e) =
              let p = stood.filled k (omega (arith, columns_count b)) in
              (p.0, met_has k p.0 ∙ and_i (same_has k p.0 ∙ p.1) (or_l (not (eqb c k)) _ (ap not e)))

-- ---- the same of the engine's states
module _ (b : List ℕ) (acc : Accepted b) (c m : ℕ) (l : c < columns_of b) (st : State) where
  pub state_same : bit_and (get_or st.dom c 0) m ≡ get_or st.dom c 0 → Narrows b c m st st
  state_same e L h = record { holds = narrow_same b acc L h.holds h.store h.sized c m l e; store = h.store; sized = h.sized }

  pub state_emptied : (t : State) → Emptied st t → bit_and (get_or st.dom c 0) m ≡ 0 → Narrows b c m st t
  state_emptied t e z L h = record {
    holds =
        rw (narrow_failed b acc L h.holds h.store h.sized c m l z, e.dom, e.valid, e.index, e.nonzero)
        (empty_state b acc st.rows.valid st.rows.index st.rows.nonzero (sheet_index b acc L h.holds h.store h.sized));
    store = rw e.dom (empty_domains b acc);
    sized = rw (e.valid, e.index, e.nonzero) (empty_sized b acc h.sized);
  }

  pub state_propagated : (t : State) → Propagated b (meet st.dom c m) t → Narrows b c m st t
  state_propagated t s L h = record {
    holds =
        subst (λ (E : List ℕ). StateOf (book_of b) E t.dom t.rows.valid t.rows.index t.rows.nonzero) (met_closure b acc L h.holds h.store h.sized c m l) s.state;
    store = s.store;
    sized = s.sized;
  }
