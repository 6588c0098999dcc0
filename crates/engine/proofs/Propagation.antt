-- Laws of propagation: what it keeps, turn by turn, what it comes to, and a failed store emptied. Assumes nothing.
use mathlib.Core.Path.{◌∙◌, ◌≡◌, ap, refl, subst⁻¹, sym}
use mathlib.Core.Bool.{Bool, ◌&&◌, ◌||◌, false, false≢true, not, true, true≢false}
use mathlib.Core.Logic.{◌⊎◌, inl, inr, ⊎_elim}
use mathlib.Core.List.{List}
use Prim.Native.Nat.{◌*◌, ◌+◌, ◌<◌, ◌^◌, ◌≤◌, ℕ}
use native.Mathlib.Omega.{arith}
use lib.Bits.{bit_or}
use lib.Dec.{eqb}
use lib.ListN.{get_or, get_or-replicate, length, length-replicate, replicate, set}
use lib.Seq.{ext_get_or, get_or-set_other}
use borrow.Author.Tests.{eq-eqb, eqb-false, eqb-true, ne_eqb}
use Rattle.model.specs.Books.{ConsistentStore, Sheet, closure, column_count, supported, supported_in, sheet_at}
use Rattle.model.specs.Choices.{pick}
use Rattle.model.specs.Closure.{Between, Consistent}
use Rattle.model.specs.Masks.{Cleared, bit}
use Rattle.model.specs.States.{Indexed, StateOf, of_sheet, valid_row, valid_word}
use Rattle.model.specs.Stores.{IsStore, Within, empty_store, has, values}
use Rattle.model.proofs.Books.{closed_or_empty, consistent_from, in_domain_e, supported_mono, supported_in_mono, supported_in_same}
use Rattle.model.proofs.Choices.{pick_same}
use Rattle.model.proofs.Closure.{between_rest, between_strike, closure_store, closure_within}
use Rattle.model.proofs.Masks.{bit_below, bit_of_zero, bit-or, mask_ext}
use Rattle.model.proofs.Rows.{words_same, word_same}
use Rattle.model.proofs.Stores.{in_store, within_trans, empty_has, empty_store_lem}
use Rattle.model.proofs.Tests.{all_in_e, all_in_i, and_i, and_r, below, either, get_or-tab, get_or-tab_out, length-tab, or_e, or_false_l, or_false_r, zeros_at}
use Rattle.book.specs.Decoding.{book_of, sheet_of}
use Rattle.heads.specs.Heads.{column_of, columns_of, sheets_of, values_of, width_of}
use Rattle.book.specs.Verdicts.{Accepted}
use Rattle.book.proofs.Decoding.{RightBook, accepted_right, tab_mem}
use Rattle.looks.specs.Looks.{Revised, Seen, SheetKnown}
use Rattle.looks.specs.Strikes.{Loses}
use Rattle.words.specs.Sheets.{AtSheet, IndexOf, OnlySheet, Sized, first_byte}
use Rattle.words.proofs.Places.{column_value, columns_size, formed, sheet_at_is, sheet_in, width_most, valid_e}
use Rattle.engine.specs.Layouts.{LayoutOf}
use Rattle.engine.specs.Propagation.{Fixpoint, Ready, closure_in, store_in, Propagated}
use Rattle.engine.specs.States.{Emptied, state_of}
use Rattle.engine.specs.Worklists.{Woken, touches}
use Rattle.engine.specs.declared.state.State.{State}
use Rattle.engine.proofs.Worklists.{eight_sheets, touched_sheet, untouched_column, woken_same}

-- ---- stores in an array of sixteen domains
module _ (b : List ℕ) where
  pub columns_count : column_count (book_of b) ≡ columns_of b
  unfolding book_of
  columns_count = length-tab (columns_of b) (values_of b)

  pub sheets_count : length (book_of b).sheets ≡ sheets_of b
  unfolding book_of
  sheets_count = length-tab (sheets_of b) (sheet_of b)

  pub count_at : (c : ℕ) → c < columns_of b → get_or (book_of b).counts c 0 ≡ values_of b c
  unfolding book_of
  count_at c l = get_or-tab 0 (columns_of b) (values_of b) c l

  pub is_store_in : {D : List ℕ} → IsStore 16 D → IsStore (column_count (book_of b)) (store_in b D)
  is_store_in {D} d = record { columns = length-tab (columns_of b) _ ∙ sym columns_count; bits = λ c. go c (below c (columns_of b)) }
    where
      go : (c : ℕ) → (c < columns_of b) ⊎ (columns_of b ≤ c) → get_or (store_in b D) c 0 < 2 ^ 32
      go c (inl l) = rw (get_or-tab 0 (columns_of b) (λ c. get_or D c 0) c l) (d.bits c)
      go c (inr l) = rw (get_or-tab_out (columns_of b) (λ c. get_or D c 0) c l) (omega arith)

  pub store_within : (D : List ℕ) → Within (store_in b D) D
  unfolding has
  store_within D = record { at = λ c v e. go c v e (below c (columns_of b)) }
    where
      go : (c v : ℕ) → bit v (get_or (store_in b D) c 0) ≡ true → (c < columns_of b) ⊎ (columns_of b ≤ c) → bit v (get_or D c 0) ≡ true
      go c v e (inl l) = rw (get_or-tab 0 (columns_of b) (λ c. get_or D c 0) c l) at e
      go c v e (inr l) =
          absurd (false≢true (sym (bit_of_zero v) ∙ (rw (get_or-tab_out (columns_of b) (λ c. get_or D c 0) c l) at e)))

  pub within_store : (D : List ℕ) → ((c v : ℕ) → has D c v ≡ true → c < columns_of b) → Within D (store_in b D)
  unfolding has
  within_store D h = record { at = λ c v e. rw (get_or-tab 0 (columns_of b) (λ c. get_or D c 0) c (h c v e)) e }

  -- a column past the last is empty
  pub store_same : (D : List ℕ) → IsStore 16 D → ((c v : ℕ) → has D c v ≡ true → c < columns_of b) → (c : ℕ) → get_or D c 0 ≡ get_or (store_in b D) c 0
  unfolding has
  store_same D d h c = go (below c (columns_of b))
    where
      empty : columns_of b ≤ c → (v : ℕ) → (bit v (get_or D c 0) ≡ true) ⊎ (bit v (get_or D c 0) ≡ false) → bit v (get_or D c 0) ≡ bit v 0
      empty l v (inl e) = let z = h c v e in absurd (omega arith)
      empty l v (inr e) = e ∙ sym (bit_of_zero v)

      go : (c < columns_of b) ⊎ (columns_of b ≤ c) → get_or D c 0 ≡ get_or (store_in b D) c 0
      go (inl l) = sym (get_or-tab 0 (columns_of b) (λ c. get_or D c 0) c l)
      go (inr l) =
          mask_ext 32 (get_or D c 0) 0 (d.bits c) (omega arith) (λ v q. empty l v (either (bit v (get_or D c 0))))
          ∙ sym (get_or-tab_out (columns_of b) (λ c. get_or D c 0) c l)

-- the store in an array whose entries are those of the store E
pub store_is : (b D E : List ℕ) → IsStore (column_count (book_of b)) E → ((c : ℕ) → get_or D c 0 ≡ get_or E c 0) → store_in b D ≡ E
store_is b D E e h =
    ext_get_or 0 (store_in b D) E (long ∙ sym (columns_count b) ∙ sym e.columns)
    (λ c l. get_or-tab 0 (columns_of b) (λ c. get_or D c 0) c (omega (arith, long)) ∙ h c)
  where
    long : length (store_in b D) ≡ columns_of b
    long = length-tab (columns_of b) (λ c. get_or D c 0)

-- ---- facts that go over to other arrays
pub indexed_same : {X W X' W' : ℕ → ℕ} {n n' : ℕ} → Indexed X n W → ((i : ℕ) → i < 8 → X' i ≡ X i) → n' ≡ n → ((w : ℕ) → w < 8 → W' w ≡ W w)
    → Indexed X' n' W'
indexed_same {X} {W} {X'} {W'} h ex en ew =
    record {
      few = omega (arith, h.few);
      each = λ i l. rw (ex i l) (h.each i l);
      once = λ i j l m e. h.once i j l m (sym (ex i l) ∙ e ∙ ex j m);
      every = λ w l. let r = h.every w l in (r.0, r.1, ex r.0 r.1 ∙ r.2);
      limit = λ i l.
          let z : W' (X' i) ≡ W (X i) = ap W' (ex i l) ∙ ew (X i) (h.each i l) in
          rw (en, z) (h.limit i l);
    }

-- a sheet that another sheet's turn does not touch
pub other_known : (b : List ℕ) {s t : ℕ} {W X N W' X' N' : List ℕ} → OnlySheet s W X N W' X' N' → (t ≡ s → ⊥) → {changed lost : ℕ} {opening : Bool} {D D' : List ℕ}
    → Loses D D' lost → SheetKnown b t changed opening D W X N → SheetKnown b t (bit_or changed lost) opening D' W' X' N'
other_known b {s} {t} o n {changed} {lost} p h = record {
  saw = h.saw;
  seen = record {
    rows = λ w l. o.words t w l n ∙ h.seen.rows w l;
    indexed = indexed_same h.seen.indexed (λ i l. o.index t i l n) (o.nonzero t n) (λ w l. o.words t w l n);
    supported = h.seen.supported;
  };
  within = within_trans p.within h.within;
  same = λ c q.
      let z : (bit c changed || bit c lost) ≡ false = sym (bit-or c changed lost) ∙ q in
      p.unchanged c (or_false_r (bit c changed) _ z) ∙ h.same c (or_false_l (bit c changed) _ z);
}

-- what is known outside the opening is known
pub known_as : {b : List ℕ} {s changed : ℕ} {o p : Bool} {D W X N : List ℕ} → (p ≡ false → o ≡ false) → SheetKnown b s changed o D W X N → SheetKnown b s changed p D W X N
known_as f h = record {
  saw = h.saw;
  seen = record { rows = h.seen.rows; indexed = h.seen.indexed; supported = λ q. h.seen.supported (f q) };
  within = h.within;
  same = h.same;
}

-- a sheet that has just looked
pub known_seen : {b : List ℕ} {s : ℕ} {o : Bool} {D W X N : List ℕ} → Seen b s false D W X N → SheetKnown b s 0 o D W X N
known_seen {b} {s} {o} {D} h = record {
  saw = D;
  seen = record { rows = h.rows; indexed = h.indexed; supported = λ q. h.supported refl };
  within = record { at = λ c v e. e };
  same = λ c q. refl;
}

-- ---- the invariant
-- the domains lie between the closure of those at the start and these; each sheet is known but for the columns in G, and one that does not wait any more
-- has looked
pub record Going (b : List ℕ) (opening : Bool) (D₀ D W X N G : List ℕ) (left : ℕ) : Type 0 where
  pub start : IsStore 16 D₀
  pub store : IsStore 16 D
  pub sized : Sized W X N
  pub size : length G ≡ 8
  pub small : left < 256
  pub between : Between (column_count (book_of b)) (supported (book_of b)) (store_in b D₀) D
  pub filled : (c : ℕ) → c < columns_of b → (v : ℕ) × (has D c v ≡ true)
  pub sheet : (s : ℕ) → s < sheets_of b → SheetKnown b s (get_or G s 0) (opening && bit s left) D W X N
  pub quiet : (s : ℕ) → s < sheets_of b → bit s left ≡ false → (j : ℕ) → j < width_of b s → bit (column_of b s j) (get_or G s 0) ≡ false
  pub used : (s : ℕ) → bit s left ≡ true → s < sheets_of b

module _ (b : List ℕ) (acc : Accepted b) where
  right : RightBook b
  right = accepted_right b acc

  pub at_sheet : (s : ℕ) → s < sheets_of b → AtSheet b (first_byte b s) s
  at_sheet s l = record { accepted = acc; one = l; begins = refl }

  pub going_start : {opening : Bool} {waiting column : ℕ} {st : State} → Ready b opening waiting column st
      → Going b opening st.dom st.dom st.rows.valid st.rows.index st.rows.nonzero (replicate 8 column) waiting
  going_start {opening} {waiting} {column} {st} h = record {
    start = h.store;
    store = h.store;
    sized = h.sized;
    size = length-replicate {A = ℕ} 8 column;
    small = h.small;
    between =
        record {
          lower =
              within_trans
              (closure_within (column_count (book_of b)) (supported (book_of b)) (supported_mono (book_of b)) (store_in b st.dom) (is_store_in b h.store))
              (store_within b st.dom);
          upper = within_store b st.dom h.past;
        };
    filled = h.filled;
    sheet = λ s l. rw (all s l) (known_as (λ e. go s l e (either opening) (either (bit s waiting))) (h.sheet s l));
    quiet = λ s l e j m. rw (all s l) ((h.quiet s l e).1 j m);
    used = h.used;
  }
    where
      all : (s : ℕ) → s < sheets_of b → get_or (replicate 8 column) s 0 ≡ column
      all s l = get_or-replicate 8 s column 0 (eight_sheets b acc s l)

      go : (s : ℕ) → s < sheets_of b → (opening && bit s waiting) ≡ false → (opening ≡ true) ⊎ (opening ≡ false) → (bit s waiting ≡ true) ⊎ (bit s waiting ≡ false)
          → opening ≡ false
      go s l e (inr p) q = p
      go s l e (inl p) (inr q) = (h.quiet s l q).0
      go s l e (inl p) (inl q) = absurd (true≢false (sym (and_i p q) ∙ e))

  module _ {opening : Bool} {D₀ D W X N G M begins shorts : List ℕ} {left : ℕ} (lay : LayoutOf b begins M shorts) (h : Going b opening D₀ D W X N G left) where
    -- ---- one turn: sheet s has been looked at
    module _ {s lost : ℕ} {satisfied : Bool} {D' W' X' N' : List ℕ} (waits : bit s left ≡ true) (r : Revised b s D W X N D' W' X' N' satisfied lost) where
      one : s < sheets_of b
      one = h.used s waits

      abbrev sheet : Sheet
      sheet = sheet_at (book_of b) s

      a : AtSheet b (first_byte b s) s
      a = at_sheet s one

      -- what one sheet does not support, the book doesn't
      unsupported : (c v : ℕ) → supported_in D c v (sheet_at (book_of b) s) ≡ false → supported (book_of b) D c v ≡ false
      unfolding supported
      unsupported c v e = go (either (supported (book_of b) D c v))
        where
          go : (supported (book_of b) D c v ≡ true) ⊎ (supported (book_of b) D c v ≡ false) → supported (book_of b) D c v ≡ false
          go (inl f) = absurd (true≢false (sym (all_in_e (book_of b).sheets (supported_in D c v) f (sheet_at (book_of b) s) (sheet_in a)) ∙ e))
          go (inr f) = f

      still_between : Between (column_count (book_of b)) (supported (book_of b)) (store_in b D₀) D'
      still_between =
          between_strike (column_count (book_of b)) (supported (book_of b)) (supported_mono (book_of b)) (store_in b D₀) (is_store_in b h.start) D D'
          h.between r.loses.within (λ c v e. ⊎_elim (λ f. inl f) (λ f. inr (unsupported c v f)) (r.struck c v e))

      -- the sheet cannot be satisfied: there is no consistent store
      no_store : satisfied ≡ false → closure_in b D₀ ≡ empty_store (column_count (book_of b))
      unfolding closure supported
      no_store z = go (closed_or_empty (book_of b) (formed a) (store_in b D₀) (is_store_in b h.start))
        where
          go : ConsistentStore (book_of b) (closure_in b D₀) ⊎ (closure_in b D₀ ≡ empty_store (column_count (book_of b)))
              → closure_in b D₀ ≡ empty_store (column_count (book_of b))
          go (inr e) = e
          go (inl k) =
              let l : 0 < length sheet.columns = omega (arith, columns_size a, (width_most a).0) in
              let column = get_or sheet.columns 0 0 in
              let v = k.filled column (((formed a).sheet sheet (sheet_in a)).inside 0 l) in
              let closed = closure_store (column_count (book_of b)) (supported (book_of b)) (supported_mono (book_of b)) (store_in b D₀) (is_store_in b h.start) in
              let t = (consistent_from (book_of b) (closure_in b D₀) closed k).supported column v.0 v.1 in
              let u = supported_in_mono (closure_in b D₀) D h.between.lower column v.0 sheet (all_in_e (book_of b).sheets (supported_in (closure_in b D₀) column v.0) t sheet (sheet_in a)) in
              absurd (false≢true (sym (r.failed z 0 v.0 (width_most a).0) ∙ ap (λ (k : ℕ). supported_in D k v.0 sheet) (sym (column_value a 0 (width_most a).0)) ∙ u))

      pub going_failed : satisfied ≡ false → Fixpoint b D₀ (state_of D' W' X' N') false
      going_failed z = record {
        store = r.loses.store;
        sized = r.sized;
        state = λ e. absurd (false≢true e);
        filled = λ e. absurd (false≢true e);
        failed = λ e. no_store z;
        indexed = λ t l. indexed t l (either (eqb t s));
      }
        where
          indexed : (t : ℕ) → t < sheets_of b → (eqb t s ≡ true) ⊎ (eqb t s ≡ false) → IndexOf t W' X' N'
          indexed t l (inl e) = rw (eqb-true t s e) r.indexed
          indexed t l (inr e) =
              let n = eqb-false t s e in
              indexed_same (h.sheet t l).seen.indexed (λ i m. r.only.index t i m n) (r.only.nonzero t n) (λ w m. r.only.words t w m n)

      module _ {rest : ℕ} {G' : List ℕ} {left' : ℕ} (c : Cleared left rest s) (open-sheet : satisfied ≡ true) (small : rest < 256) (w : Woken M s lost (set G s 0) rest G' left') where
        rest_bit : (t : ℕ) → (t ≡ s → ⊥) → bit t rest ≡ bit t left
        rest_bit t n = c.rest t n

        own_changed : get_or G' s 0 ≡ 0
        own_changed = rw (eq-eqb s s refl) at (w.changed s (eight_sheets b acc s one))

        other_changed : (t : ℕ) → t < sheets_of b → (t ≡ s → ⊥) → get_or G' t 0 ≡ bit_or (get_or G t 0) lost
        other_changed t l n =
            (rw (ne_eqb t s n) at (w.changed t (eight_sheets b acc t l))) ∙ ap (λ (x : ℕ). bit_or x lost) (get_or-set_other G s t 0 0 n)

        -- a sheet that does not wait did not wait, and has no column in `lost`
        not_waiting : (t : ℕ) → t < sheets_of b → (t ≡ s → ⊥) → bit t left' ≡ false → (bit t left ≡ false) × (touches (get_or M t 0) lost ≡ false)
        not_waiting t l n e =
            let z : (bit t rest || (not (eqb t s) && touches (get_or M t 0) lost)) ≡ false = sym (w.waits t (eight_sheets b acc t l)) ∙ e in (
              sym (rest_bit t n) ∙ or_false_l (bit t rest) _ z,
              rw (ne_eqb t s n) at (or_false_r (bit t rest) _ z),
            )

        by : (P : ℕ → Type 0) → P s → (t : ℕ) → ((t ≡ s → ⊥) → P t) → P t
        by P p t f = go (either (eqb t s))
          where
            go : (eqb t s ≡ true) ⊎ (eqb t s ≡ false) → P t
            go (inl e) = subst⁻¹ P (eqb-true t s e) p
            go (inr e) = f (eqb-false t s e)

        pub going_on : Going b opening D₀ D' W' X' N' G' left'
        going_on = record {
          start = h.start;
          store = r.loses.store;
          sized = r.sized;
          size = w.size;
          small = w.small;
          between = still_between;
          filled = λ k l. let v = h.filled k l in r.filled open-sheet k v.0 v.1;
          sheet = λ t.
              by (λ (t : ℕ). t < sheets_of b → SheetKnown b t (get_or G' t 0) (opening && bit t left') D' W' X' N')
              (λ l. rw own_changed (known_seen (r.seen open-sheet))) t
              (λ n l.
              rw (other_changed t l n)
              (known_as (λ e. waited t l n e (either opening)) (other_known b r.only n r.loses (h.sheet t l))));
          quiet = λ t.
              by (λ (t : ℕ). t < sheets_of b → bit t left' ≡ false → (j : ℕ) → j < width_of b t → bit (column_of b t j) (get_or G' t 0) ≡ false)
              (λ l e j m. rw own_changed (bit_of_zero (column_of b s j))) t
              (λ n l e j m.
              let f = not_waiting t l n e in
              rw (other_changed t l n)
              (bit-or (column_of b t j) (get_or G t 0) lost
              ∙ or_none (h.quiet t l f.0 j m) (untouched_column lay t lost j l m f.1)));
          used = λ t e. used t e;
        }
          where
            or_none : {x y : Bool} → x ≡ false → y ≡ false → (x || y) ≡ false
            or_none p q = rw (p, q) refl

            -- a sheet that has looked and does not wait did not wait
            waited : (t : ℕ) → t < sheets_of b → (t ≡ s → ⊥) → (opening && bit t left') ≡ false → (opening ≡ true) ⊎ (opening ≡ false) → (opening && bit t left) ≡ false
            waited t l n e (inr p) = rw p refl
            waited t l n e (inl p) = let q : bit t left' ≡ false = rw p at e in rw (p, (not_waiting t l n q).0) refl

            used : (t : ℕ) → bit t left' ≡ true → t < sheets_of b
            used t e =
                go (or_e (bit t rest) _ (sym (w.waits t (bit_below 8 left' t w.small e)) ∙ e)) (either (eqb t s))
              where
                go : (bit t rest ≡ true) ⊎ ((not (eqb t s) && touches (get_or M t 0) lost) ≡ true) → (eqb t s ≡ true) ⊎ (eqb t s ≡ false) → t < sheets_of b
                go (inl f) (inl q) = rw (eqb-true t s q) one
                go (inl f) (inr q) = h.used t (sym (rest_bit t (eqb-false t s q)) ∙ f)
                go (inr f) q = touched_sheet lay t lost (and_r (not (eqb t s)) _ f)

        -- a turn strikes a value, or takes a sheet off the worklist
        pub going_less : rest < left → 256 * values 16 D' + left' < 256 * values 16 D + left
        going_less l = go (below 0 lost)
          where
            go : (0 < lost) ⊎ (lost ≤ 0) → 256 * values 16 D' + left' < 256 * values 16 D + left
            go (inl p) = omega (arith, r.loses.falls p, w.small)
            go (inr p) = omega (arith, r.loses.fewer, woken_same w small (omega arith))

    -- ---- no sheet waits: the closure
    module _ (done : left ≡ 0) where
      not_left : (s : ℕ) → bit s left ≡ false
      not_left s = rw done (bit_of_zero s)

      past : (c v : ℕ) → has D c v ≡ true → c < columns_of b
      past c v e = omega (arith, (in_store (column_count (book_of b)) (store_in b D₀) (is_store_in b h.start) c v (h.between.upper.at c v e)).0, columns_count b)

      -- a sheet's own columns are those that it saw
      agrees : (s : ℕ) (l : s < sheets_of b) → pick (store_in b D) (sheet_at (book_of b) s).columns ≡ pick (h.sheet s l).saw (sheet_at (book_of b) s).columns
      agrees s l =
          pick_same (store_in b D) (h.sheet s l).saw (sheet_at (book_of b) s).columns
          (λ i m.
          let j : i < width_of b s = omega (arith, columns_size (at_sheet s l)) in
          sym (store_same b D h.store past (get_or (sheet_at (book_of b) s).columns i 0))
          ∙ (h.sheet s l).same (get_or (sheet_at (book_of b) s).columns i 0) (rw (column_value (at_sheet s l) i j) (h.quiet s l (not_left s) i j)))

      looked : (s : ℕ) → (opening && bit s left) ≡ false
      looked s = go (either opening)
        where
          go : (opening ≡ true) ⊎ (opening ≡ false) → (opening && bit s left) ≡ false
          go (inl p) = rw (p, not_left s) refl
          go (inr p) = rw p refl

      consistent : Consistent (column_count (book_of b)) (supported (book_of b)) (store_in b D)
      unfolding book_of supported
      consistent = record {
        filled = λ c l. let v = h.filled c (omega (arith, columns_count b)) in (v.0, (within_store b D past).at c v.0 v.1);
        supported = λ c v e.
            all_in_i (book_of b).sheets (supported_in (store_in b D) c v)
            (λ x m. let t = tab_mem (sheets_of b) (sheet_of b) x m in subst⁻¹ (λ (x : Sheet). supported_in (store_in b D) c v x ≡ true) (t.2 ∙ sym (sheet_at_is (at_sheet t.0 t.1))) (found t.0 t.1 c v e));
      }
        where
          found : (s : ℕ) (l : s < sheets_of b) (c v : ℕ) → has (store_in b D) c v ≡ true → supported_in (store_in b D) c v (sheet_at (book_of b) s) ≡ true
          found s l c v e =
              supported_in_same (store_in b D) (h.sheet s l).saw (sheet_at (book_of b) s) (agrees s l) c v
              ∙ (h.sheet s l).seen.supported (looked s) c v ((h.sheet s l).within.at c v ((store_within b D).at c v e))

      closed : closure_in b D₀ ≡ store_in b D
      unfolding closure
      closed =
          between_rest (column_count (book_of b)) (supported (book_of b)) (supported_mono (book_of b)) (store_in b D₀) (is_store_in b h.start)
          (store_in b D) (is_store_in b h.store)
          (record {
            lower = within_trans h.between.lower (within_store b D past);
            upper = within_trans (store_within b D) h.between.upper;
          })
          consistent

      state : StateOf (book_of b) (closure_in b D₀) D W X N
      state = rw closed (
          record {
            domain = store_same b D h.store past;
            rows = λ s w l m.
                let k : s < sheets_of b = omega (arith, sheets_count b) in
                (h.sheet s k).seen.rows w m ∙ words_same (h.sheet s k).saw (store_in b D) (sheet_at (book_of b) s) (sym (agrees s k)) w;
            indexed = λ s l. (h.sheet s (omega (arith, sheets_count b))).seen.indexed;
          })

      pub going_done : Fixpoint b D₀ (state_of D W X N) true
      going_done = record {
        store = h.store;
        sized = h.sized;
        state = λ e. state;
        filled = λ e. h.filled;
        failed = λ e. absurd (false≢true (sym e));
        indexed = λ s l. (h.sheet s l).seen.indexed;
      }

module _ (b : List ℕ) (acc : Accepted b) where
  abbrev C : ℕ
  C = column_count (book_of b)

  pub no_value : (c : ℕ) → get_or (empty_store (column_count (book_of b))) c 0 ≡ 0
  unfolding has
  no_value c =
      mask_ext 32 (get_or (empty_store C) c 0) 0 ((empty_store_lem C).bits c) (omega arith)
      (λ v l. none v (either (bit v (get_or (empty_store C) c 0))))
    where
      none : (v : ℕ) → (bit v (get_or (empty_store C) c 0) ≡ true) ⊎ (bit v (get_or (empty_store C) c 0) ≡ false)
          → bit v (get_or (empty_store C) c 0) ≡ bit v 0
      none v (inl e) = absurd (empty_has C c v e)
      none v (inr e) = e ∙ sym (bit_of_zero v)

  no_row : (s w : ℕ) → s < sheets_of b → 0 ≡ valid_word (empty_store C) (sheet_at (book_of b) s) w
  unfolding has
  no_row s w l =
      word_same (empty_store C) (sheet_at (book_of b) s) w 0 (omega arith)
      (λ k m. bit_of_zero k ∙ sym (none (64 * w + k) (either (valid_row (empty_store C) (sheet_at (book_of b) s) (64 * w + k)))))
    where
      none : (r : ℕ) → (valid_row (empty_store C) (sheet_at (book_of b) s) r ≡ true) ⊎ (valid_row (empty_store C) (sheet_at (book_of b) s) r ≡ false)
          → valid_row (empty_store C) (sheet_at (book_of b) s) r ≡ false
      none r (inl e) =
          let a = at_sheet b acc s l in
          let v = in_domain_e _ _ ((valid_e a (empty_store C) r e).1 0 (width_most a).0) in
          absurd (empty_has C (column_of b s 0) v.0 v.1)
      none r (inr e) = e

  -- the index of any state serves
  pub empty_state : (W X N : List ℕ) → ((s : ℕ) → s < sheets_of b → IndexOf s W X N)
      → StateOf (book_of b) (empty_store (column_count (book_of b))) (replicate 16 0) (replicate 64 0) X (replicate 8 0)
  empty_state W X N h = record {
    domain = λ c. zeros_at 16 c ∙ sym (no_value c);
    rows = λ s w l m. zeros_at 64 (8 * s + w) ∙ no_row s w (omega (arith, sheets_count b));
    indexed = λ s l.
        let k = h s (omega (arith, sheets_count b)) in
        record {
          few = rw (zeros_at 8 s) (omega arith);
          each = k.each;
          once = k.once;
          every = k.every;
          limit = λ i m. (
            λ q. absurd (omega (arith, zeros_at 8 s)),
            λ q. absurd (omega (arith, zeros_at 64 (8 * s + of_sheet X s i))),
          );
        };
  }

  pub empty_domains : IsStore 16 (replicate 16 0)
  empty_domains = record { columns = length-replicate {A = ℕ} 16 0; bits = λ c. rw (zeros_at 16 c) (omega arith) }

  pub empty_sized : {W X N : List ℕ} → Sized W X N → Sized (replicate 64 0) X (replicate 8 0)
  empty_sized z = record {
    words = length-replicate {A = ℕ} 64 0;
    bits = λ i. rw (zeros_at 64 i) (omega arith);
    index = z.index;
    nonzero = length-replicate {A = ℕ} 8 0;
  }

  pub propagated_failed : {D : List ℕ} {st t : State} → Fixpoint b D st false → Emptied st t → Propagated b D t
  propagated_failed {D} {st} {t} h e = record {
    store = rw e.dom empty_domains;
    sized = rw (e.valid, e.index, e.nonzero) (empty_sized h.sized);
    state =
        rw (h.failed refl, e.dom, e.valid, e.index, e.nonzero)
        (empty_state st.rows.valid st.rows.index st.rows.nonzero h.indexed);
  }
