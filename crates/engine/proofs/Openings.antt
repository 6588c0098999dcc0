-- Laws of the opening: every value and every row, before propagation. Assumes nothing.
use mathlib.Core.Path.{◌∙◌, ◌≡◌, ap, refl, subst, sym}
use mathlib.Core.Bool.{◌&&◌, false, false≢true, true}
use mathlib.Core.Logic.{◌↔◌, ◌⊎◌, inl, inr, ⊎_elim}
use mathlib.Core.List.{List, []}
use Prim.Native.Nat.{◌%◌, ◌*◌, ◌+◌, ◌-◌, ◌/◌, ◌<◌, ◌^◌, ◌≤◌, suc, zero, ℕ}
use native.Mathlib.Nat.{div-le_self, lt_of_le_of_lt, lt_of_lt_of_le}
use native.Mathlib.Omega.{arith}
use lib.Dec.{ltb}
use lib.ListN.{get_or, length, length-replicate, length-set, replicate, set}
use lib.Pow.{pow_mono}
use lib.Seq.{ext_get_or, get_or-set_other, get_or-set_same}
use borrow.Author.Tests.{le-ltb, lt-ltb, ltb-true}
use Rattle.model.specs.Books.{closure, column_count, in_domain, is_any, sheet_at}
use Rattle.model.specs.Masks.{bit, mask_of}
use Rattle.model.specs.Orders.{allowed, domains, permits}
use Rattle.model.specs.States.{StateOf, of_sheet, valid_row}
use Rattle.model.specs.Stores.{has, store_of}
use Rattle.model.proofs.Books.{in_domain_i, matches_any, matches_self}
use Rattle.model.proofs.Masks.{bit-mask_of, bit-mask_of_out, bit_of_zero, mask_ext, mask_of_lt, mask_of_same, ones32, ones64}
use Rattle.model.proofs.Rows.{word_same}
use Rattle.model.proofs.Tests.{and_true, below, get_or-tab, length-tab, same_test, zeros_at}
use Rattle.book.specs.Decoding.{book_of}
use Rattle.heads.specs.Heads.{column_of, columns_of, rows_of, sheets_of, values_of, width_of}
use Rattle.book.specs.Verdicts.{Accepted}
use Rattle.book.proofs.Decoding.{RightBook, accepted_right}
use Rattle.heads.proofs.Heads.{column_inside, rows_most, sheets_most, values_range}
use Rattle.words.specs.Sheets.{AtSheet, IndexOf, first_byte, value_at}
use Rattle.words.proofs.Indexes.{of_set_other, of_set_same, set_below}
use Rattle.counters.proofs.Ones.{ones_bit, ones_shifted}
use Rattle.words.proofs.Places.{cell_value, valid_e, valid_i}
use Rattle.engine.specs.Openings.{FullDomains, FullIndex, FullRows, FullWord, FullWords, SixtyFour, places_below}
use Rattle.engine.specs.Propagation.{Ready, Propagated, store_in}
use Rattle.engine.specs.States.{StateIs, state_of}
use Rattle.engine.specs.declared.state.State.{State}
use Rattle.engine.proofs.Propagation.{at_sheet, columns_count, count_at}
use Rattle.engine.proofs.Worklists.{eight_sheets}

-- ---- masks of places below a number
pub places_none : places_below 0 ≡ 0
unfolding places_below
places_none =
    mask_ext 32 (mask_of 32 (λ v. ltb v 0)) 0 (mask_of_lt 32 (λ v. ltb v 0)) (omega arith)
    (λ v l. bit-mask_of 32 (λ v. ltb v 0) v l ∙ le-ltb v 0 (omega arith) ∙ sym (bit_of_zero v))

pub places_shifted : (n : ℕ) → n ≤ 32 → ones32 / 2 ^ (32 - n) ≡ places_below n
unfolding places_below
places_shifted n l =
    mask_ext 32 (ones32 / 2 ^ (32 - n)) (mask_of 32 (λ v. ltb v n)) (lt_of_le_of_lt (div-le_self ones32 (2 ^ (32 - n))) (omega arith)) (mask_of_lt 32 (λ v. ltb v n))
    (λ v q. ones_shifted 32 n v l ∙ sym (bit-mask_of 32 (λ v. ltb v n) v q))

pub places_bit : (n v : ℕ) → n ≤ 32 → bit v (places_below n) ≡ ltb v n
unfolding places_below
places_bit n v l = go (below v 32)
  where
    go : (v < 32) ⊎ (32 ≤ v) → bit v (mask_of 32 (λ v. ltb v n)) ≡ ltb v n
    go (inl p) = bit-mask_of 32 (λ v. ltb v n) v p
    go (inr p) = bit-mask_of_out 32 (λ v. ltb v n) v p ∙ sym (le-ltb v n (omega arith))

pub places_lt : (n k : ℕ) → n ≤ k → k ≤ 32 → places_below n < 2 ^ k
unfolding places_below
places_lt n k l m = mask_lt 32 k (places_below n) (mask_of_lt 32 (λ v. ltb v n)) m (λ v q. places_bit n v (omega arith) ∙ le-ltb v n (omega arith))
  where
    mask_lt : (j k x : ℕ) → x < 2 ^ j → k ≤ j → ((v : ℕ) → k ≤ v → bit v x ≡ false) → x < 2 ^ k
    mask_lt j k x h q f =
        let e : x ≡ mask_of k (λ v. bit v x) =
        mask_ext j x (mask_of k (λ v. bit v x)) h (lt_of_lt_of_le (mask_of_lt k (λ v. bit v x)) (pow_mono q)) (λ v r. same v (below v k)) in
        rw e (mask_of_lt k (λ v. bit v x))
      where
        same : (v : ℕ) → (v < k) ⊎ (k ≤ v) → bit v x ≡ bit v (mask_of k (λ v. bit v x))
        same v (inl p) = sym (bit-mask_of k (λ v. bit v x) v p)
        same v (inr p) = f v p ∙ sym (bit-mask_of_out k (λ v. bit v x) v p)

-- ---- domains
pub domains_none : (b : List ℕ) {D : List ℕ} → D ≡ replicate 16 0 → FullDomains b 0 D
domains_none b {D} e =
    record {
      size = ap (λ (l : List ℕ). length l) e ∙ length-replicate {A = ℕ} 16 0;
      full = λ c l. absurd (omega arith);
      empty = λ c l. ap (λ (x : List ℕ). get_or x c 0) e ∙ zeros_at 16 c;
    }

pub domains_more : {b : List ℕ} {n d : ℕ} {D : List ℕ} → FullDomains b n D → n < 16 → d ≡ places_below (values_of b n) → FullDomains b (n + 1) (set D n d)
domains_more {b} {n} {d} {D} h l e =
    record {
      size = length-set D n d ∙ h.size;
      full = λ c q. full c (below c n) q;
      empty = λ c q. get_or-set_other D n c d 0 (λ z. omega arith) ∙ h.empty c (omega arith);
    }
  where
    full : (c : ℕ) → (c < n) ⊎ (n ≤ c) → c < n + 1 → get_or (set D n d) c 0 ≡ places_below (values_of b c)
    full c (inl p) q = get_or-set_other D n c d 0 (λ z. omega arith) ∙ h.full c p
    full c (inr p) q = let z : c ≡ n = omega arith in rw z (get_or-set_same D n d 0 (omega (arith, h.size)) ∙ e)

-- ---- words
module _ {n w : ℕ} where
  pub word_all : 64 * w + 64 ≤ n → FullWord n w ones64
  word_all l = record { at = λ k q. ones_bit 64 k q ∙ sym (lt-ltb (64 * w + k) n (omega arith)); fits = omega arith }

  pub word_some : 64 * w < n → n < 64 * w + 64 → FullWord n w (ones64 / 2 ^ (64 * w + 64 - n))
  word_some l m = record {
    at = λ k q.
        let e : 64 * w + 64 - n ≡ 64 - (n - 64 * w) = omega arith in
        ap (λ (j : ℕ). bit k (ones64 / 2 ^ j)) e ∙ ones_shifted 64 (n - 64 * w) k (omega arith) ∙ moved k (below k (n - 64 * w));
    fits = lt_of_le_of_lt (div-le_self ones64 (2 ^ (64 * w + 64 - n))) (omega arith);
  }
    where
      moved : (k : ℕ) → (k < n - 64 * w) ⊎ (n - 64 * w ≤ k) → ltb k (n - 64 * w) ≡ ltb (64 * w + k) n
      moved k (inl p) = lt-ltb k (n - 64 * w) p ∙ sym (lt-ltb (64 * w + k) n (omega arith))
      moved k (inr p) = le-ltb k (n - 64 * w) p ∙ sym (le-ltb (64 * w + k) n (omega arith))

  pub word_none : n ≤ 64 * w → FullWord n w 0
  word_none l = record { at = λ k q. bit_of_zero k ∙ sym (le-ltb (64 * w + k) n (omega arith)); fits = omega arith }

pub words_none : {W : List ℕ} (s n : ℕ) → SixtyFour W → FullWords W s n 0 W
words_none s n h = record { words = h; full = λ w l. absurd (omega arith); other = λ t w l m. refl }

pub words_more : {W W' : List ℕ} {s n m x : ℕ} → FullWords W s n m W' → s < 8 → m < 8 → FullWord n m x → FullWords W s n (m + 1) (set W' (8 * s + m) x)
words_more {W} {W'} {s} {n} {m} {x} h ls lm f =
    record {
      words =
          record {
            size = length-set W' (8 * s + m) x ∙ h.words.size;
            fits = set_below W' (8 * s + m) x (2 ^ 64) f.fits h.words.fits;
          };
      full = λ w l. full w (below w m) l;
      other = λ t w l k. of_set_other W' s m x lm t w l (λ z y. k z) ∙ h.other t w l k;
    }
  where
    full : (w : ℕ) → (w < m) ⊎ (m ≤ w) → w < m + 1 → FullWord n w (of_sheet (set W' (8 * s + m) x) s w)
    full w (inl p) l = rw (of_set_other W' s m x lm s w (omega arith) (λ z y. omega arith)) (h.full w p)
    full w (inr p) l =
        let z : w ≡ m = omega arith in rw (z, of_set_same W' s m x lm (omega (arith, h.words.size))) f

-- ---- rows
pub zero_words : {W : List ℕ} → W ≡ replicate 64 0 → SixtyFour W
zero_words {W} e =
    record {
      size = ap (λ (l : List ℕ). length l) e ∙ length-replicate {A = ℕ} 64 0;
      fits = λ i. rw (e, zeros_at 64 i) (omega arith);
    }

pub rows_none : (b : List ℕ) {W N : List ℕ} → W ≡ replicate 64 0 → N ≡ replicate 8 0 → FullRows b 0 W N
rows_none b {W} {N} e f =
    record {
      words = zero_words e;
      size = ap (λ (l : List ℕ). length l) f ∙ length-replicate {A = ℕ} 8 0;
      full = λ s w l. absurd (omega arith);
      nonzero = λ s l. absurd (omega arith);
    }

pub rows_more : {b : List ℕ} {s n x : ℕ} {W W' N : List ℕ} → FullRows b s W N → s < 8 → n ≡ rows_of b s → FullWords W s n 8 W'
    → x ≡ (n + 63) / 64 → FullRows b (s + 1) W' (set N s x)
rows_more {b} {s} {n} {x} {W} {W'} {N} h l e f g =
    record {
      words = f.words;
      size = length-set N s x ∙ h.size;
      full = λ t w k m. full t w m (below t s) k;
      nonzero = λ t k. at t (below t s) k;
    }
  where
    full : (t w : ℕ) → w < 8 → (t < s) ⊎ (s ≤ t) → t < s + 1 → FullWord (rows_of b t) w (of_sheet W' t w)
    full t w m (inl p) k = rw (f.other t w m (λ z. omega arith)) (h.full t w p m)
    full t w m (inr p) k = let z : t ≡ s = omega arith in rw (z, ← e) (f.full w m)

    at : (t : ℕ) → (t < s) ⊎ (s ≤ t) → t < s + 1 → get_or (set N s x) t 0 ≡ (rows_of b t + 63) / 64
    at t (inl p) k = get_or-set_other N s t x 0 (λ z. omega arith) ∙ h.nonzero t p
    at t (inr p) k =
        let z : t ≡ s = omega arith in
        rw (z, get_or-set_same N s x 0 (omega (arith, h.size))) (g ∙ ap (λ (i : ℕ). (i + 63) / 64) e)

-- ---- all of it
module _ (b : List ℕ) (acc : Accepted b) {D W X N : List ℕ} (hd : FullDomains b (columns_of b) D) (hr : FullRows b (sheets_of b) W N) (hx : FullIndex 64 X) where
  right : RightBook b
  right = accepted_right b acc

  value_bit : (c v : ℕ) → c < columns_of b → has D c v ≡ ltb v (values_of b c)
  unfolding has
  value_bit c v l = rw (hd.full c l) (places_bit (values_of b c) v (values_range b right.head c l).1)

  -- every row is valid
  every_row : (s r : ℕ) → s < sheets_of b → valid_row D (sheet_at (book_of b) s) r ≡ ltb r (rows_of b s)
  unfolding has
  every_row s r l =
      same_test _ _
      (λ e. lt-ltb r (rows_of b s) (valid_e a D r e).0)
      (λ e.
      let n = ltb-true r (rows_of b s) e in
      valid_i a D r n
      (λ j k. in_full j (value_at b s r j) k (⊎_elim (λ q. inl q.1) (λ q. inr q) (cell_value a r j n k))))
    where
      a : AtSheet b (first_byte b s) s
      a = at_sheet b acc s l

      -- all values are there, and there is one
      in_full : (j x : ℕ) → j < width_of b s → (is_any x ≡ true) ⊎ (x < values_of b (column_of b s j)) → in_domain x (get_or D (column_of b s j) 0) ≡ true
      in_full j x k e =
          let m = column_inside b right.head s l j k in
          let has_value : (v : ℕ) → v < values_of b (column_of b s j) → bit v (get_or D (column_of b s j) 0) ≡ true
          = λ v q. value_bit (column_of b s j) v m ∙ lt-ltb v (values_of b (column_of b s j)) q in
          ⊎_elim
          (λ z. in_domain_i x _ 0 (matches_any x 0 z) (has_value 0 (values_range b right.head (column_of b s j) m).0))
          (λ q. in_domain_i x _ x (matches_self x) (has_value x q)) e

  own : (s i : ℕ) → s < 8 → i < 8 → of_sheet X s i ≡ i
  own s i l m = let e : (8 * s + i) % 8 ≡ i = omega arith in hx.own (8 * s + i) (omega arith) ∙ e

  full_index : (s : ℕ) → s < sheets_of b → IndexOf s W X N
  full_index s l = record {
    few = omega (arith, hr.nonzero s l, rows_most b right.head s l);
    each = λ i m. omega (arith, own s i k m);
    once = λ i j m q e. sym (own s i k m) ∙ e ∙ own s j k q;
    every = λ w m. (w, m, own s w k m);
    limit = λ i m. rw (own s i k m, hr.nonzero s l) (go i m (below (64 * i) (rows_of b s)));
  }
    where
      k : s < 8
      k = eight_sheets b acc s l

      go : (i : ℕ) → i < 8 → (64 * i < rows_of b s) ⊎ (rows_of b s ≤ 64 * i) → (i < (rows_of b s + 63) / 64) ↔ (0 < of_sheet W s i)
      go i m (inl p) =
          let e : 64 * i + 0 ≡ 64 * i = omega arith in
          let f : bit 0 (of_sheet W s i) ≡ true = (hr.full s i l m).at 0 (omega arith) ∙ ap (λ (j : ℕ). ltb j (rows_of b s)) e ∙ lt-ltb (64 * i) (rows_of b s) p in
          (λ q. some (of_sheet W s i) f, λ q. omega arith)
        where
          some : (x : ℕ) → bit 0 x ≡ true → 0 < x
          some zero f = absurd (false≢true (sym (bit_of_zero 0) ∙ f))
          some (suc x) f = omega arith
      go i m (inr p) =
          let z : of_sheet W s i ≡ 0 =
          mask_ext 64 (of_sheet W s i) 0 (hr.words.fits (8 * s + i)) (omega arith)
          (λ j q. (hr.full s i l m).at j q ∙ le-ltb (64 * i + j) (rows_of b s) (omega arith) ∙ sym (bit_of_zero j)) in
          (λ q. absurd (omega arith), λ q. absurd (omega arith))

  domain_bits : (c : ℕ) → get_or D c 0 < 2 ^ 32
  domain_bits c = go (below c (columns_of b))
    where
      go : (c < columns_of b) ⊎ (columns_of b ≤ c) → get_or D c 0 < 2 ^ 32
      go (inl l) = rw (hd.full c l) (places_lt (values_of b c) 32 (values_range b right.head c l).1 (omega arith))
      go (inr l) = rw (hd.empty c l) (omega arith)

  past : (c v : ℕ) → has D c v ≡ true → c < columns_of b
  unfolding has
  past c v e = go (below c (columns_of b))
    where
      go : (c < columns_of b) ⊎ (columns_of b ≤ c) → c < columns_of b
      go (inl l) = l
      go (inr l) = absurd (false≢true (sym (bit_of_zero v) ∙ (rw (hd.empty c l) at e)))

  pub full_ready : {waiting : ℕ} → waiting ≡ places_below (sheets_of b) → Ready b true waiting 0 (state_of D W X N)
  full_ready {waiting} e = record {
    store = record { columns = hd.size; bits = domain_bits };
    sized = record { words = hr.words.size; bits = hr.words.fits; index = hx.size; nonzero = hr.size };
    filled = λ c l. (0, value_bit c 0 l ∙ lt-ltb 0 (values_of b c) (values_range b right.head c l).0);
    past = past;
    sheet = λ s l. record {
      saw = D;
      seen = record {
        rows = λ w m.
            word_same D (sheet_at (book_of b) s) w (of_sheet W s w) (hr.words.fits (8 * s + w))
            (λ k q. (hr.full s w l m).at k q ∙ sym (every_row s (64 * w + k) l));
        indexed = full_index s l;
        supported = λ q. absurd (false≢true (sym q));
      };
      within = record { at = λ c v q. q };
      same = λ c q. refl;
    };
    quiet = λ s l q. absurd (false≢true (sym q ∙ waits s ∙ lt-ltb s (sheets_of b) l));
    used = λ s q. ltb-true s (sheets_of b) (sym (waits s) ∙ q);
    small = rw e (places_lt (sheets_of b) 8 (sheets_most b right.head) (omega arith));
  }
    where
      waits : (s : ℕ) → bit s waiting ≡ ltb s (sheets_of b)
      waits s = rw e (places_bit (sheets_of b) s (omega (arith, sheets_most b right.head)))

  -- what the empty trail allows
  pub full_allowed : store_in b D ≡ allowed (book_of b) []
  unfolding allowed store_of places_below permits
  full_allowed =
      ext_get_or 0 (store_in b D) (allowed (book_of b) []) (length-tab (columns_of b) _ ∙ sym (length-tab (column_count (book_of b)) _ ∙ columns_count b))
      (λ c l.
      let k : c < columns_of b = omega (arith, length-tab (columns_of b) (λ c. get_or D c 0)) in
      get_or-tab 0 (columns_of b) (λ c. get_or D c 0) c k
      ∙ hd.full c k
      ∙ mask_of_same 32 _ _ (λ v m. sym (and_true (ltb v (values_of b c))) ∙ ap (λ (n : ℕ). ltb v n && true) (sym (count_at b c k)))
      ∙ sym (get_or-tab 0 (column_count (book_of b)) _ c (omega (arith, columns_count b))))

  pub opening_state : {t : State} → Propagated b D t → StateIs b [] t
  unfolding domains
  opening_state {t} h = record {
    holds =
        subst (λ (A : List ℕ). StateOf (book_of b) (closure (book_of b) A) t.dom t.rows.valid t.rows.index t.rows.nonzero) full_allowed h.state;
    store = h.store;
    sized = h.sized;
  }
