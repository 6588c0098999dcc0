-- Laws of pass 2, second half: columns struck to the values with support. Assumes nothing.
-- ---- domains that lose values
use mathlib.Core.Path.{◌∙◌, ◌≡◌, ap, refl, sym}
use mathlib.Core.Bool.{◌&&◌, ◌||◌, false, false≢true, not, true}
use mathlib.Core.Logic.{◌⊎◌, inl, inr}
use mathlib.Core.List.{List}
use Prim.Native.Nat.{◌%◌, ◌*◌, ◌+◌, ◌<◌, ◌^◌, ◌≤◌, ℕ}
use native.Mathlib.Omega.{arith}
use lib.Bits.{bit_and, bit_or}
use lib.Dec.{eqb}
use lib.ListN.{get_or, length}
use lib.Seq.{get_or-set_other, get_or-set_same}
use borrow.Author.Tests.{eq-eqb, eqb-true}
use Rattle.model.specs.Books.{sheet_at, supported_in}
use Rattle.model.specs.Masks.{bit}
use Rattle.model.specs.Stores.{IsStore, has, meet, values}
use Rattle.model.proofs.Books.{place_or_none, support_i}
use Rattle.model.proofs.Masks.{bit-and, bit-or}
use Rattle.model.proofs.Stores.{meet-has, meet_store, meet_within, values_fall, within_refl, within_trans}
use Rattle.model.proofs.Tests.{and_i, and_r, below, either, or_false_l, or_false_r}
use Rattle.book.specs.Decoding.{book_of}
use Rattle.heads.specs.Heads.{column_of, width_of}
use Rattle.words.specs.Sheets.{AtSheet, FindsSupported, RowsAre, Wanted}
use Rattle.words.proofs.Places.{column_below, column_value, columns_size}
use Rattle.cells.proofs.Walks.{shifted_bit}
use Rattle.looks.specs.Looks.{Struck}
use Rattle.looks.specs.Strikes.{Loses, StruckPlace, StruckTo}

pub loses_none : {D : List ℕ} → IsStore 16 D → Loses D D 0
loses_none {D} d =
    record { store = d; within = within_refl D; unchanged = λ c e. refl; fewer = omega arith; falls = λ l. absurd (omega arith) }

-- none of the one and none of the other is none
or_nothing : (a b : ℕ) → 0 < bit_or a b → (a ≡ 0 → b ≡ 0 → ⊥)
or_nothing a b l e f = let z : bit_or a b ≡ 0 = rw (e, f) refl in omega arith

pub loses_more : {D E F : List ℕ} {a b : ℕ} → Loses D E a → Loses E F b → Loses D F (bit_or a b)
loses_more {D} {E} {F} {a} {b} p q =
    record {
      store = q.store;
      within = within_trans q.within p.within;
      unchanged = λ c e.
          let z : (bit c a || bit c b) ≡ false = sym (bit-or c a b) ∙ e in
          q.unchanged c (or_false_r (bit c a) (bit c b) z) ∙ p.unchanged c (or_false_l (bit c a) (bit c b) z);
      fewer = omega (arith, p.fewer, q.fewer);
      falls = λ l. go (below 0 a) (below 0 b) (or_nothing a b l);
    }
  where
    go : (0 < a) ⊎ (a ≤ 0) → (0 < b) ⊎ (b ≤ 0) → (a ≡ 0 → b ≡ 0 → ⊥) → values 16 F < values 16 D
    go (inl x) y n = omega (arith, p.falls x, q.fewer)
    go (inr x) (inl y) n = omega (arith, p.fewer, q.falls y)
    go (inr x) (inr y) n = absurd (n (omega arith) (omega arith))

-- ---- one place
module _ {b : List ℕ} {begin s : ℕ} (j y : ℕ) {D : List ℕ} (a : AtSheet b begin s) (d : IsStore 16 D) where
  -- a column that keeps all its values
  pub struck_all : {c : ℕ} → c ≡ column_of b s j → bit_and (get_or D c 0) y ≡ get_or D c 0 → StruckPlace b s j y D D 0
  unfolding has
  struck_all {c} ec e = record {
    loses = loses_none d;
    struck = λ k v m. inl m;
    left = λ v l m. and_r (bit v (get_or D c 0)) _ (sym (bit-and v (get_or D c 0) y) ∙ ap (bit v) e ∙ (rw (← ec) at m));
  }

  -- a column that loses some
  module _ {c : ℕ} (ec : c ≡ column_of b s j) (l : j < width_of b s) (n : bit_and (get_or D c 0) y ≡ get_or D c 0 → ⊥) where
    small : c < 16
    small = omega (arith, ec, column_below a j l)

    inside : c < length D
    inside = omega (arith, small, d.columns)

    met : (k v : ℕ) → has (meet D c y) k v ≡ (has D k v && (not (eqb c k) || bit v y))
    met k v = meet-has D c y k v inside

    pub struck_some : StruckPlace b s j y D (meet D c y) ((1 * 2 ^ c) % 2 ^ 32)
    struck_some = record {
      loses = record {
        store = meet_store 16 D c y d small;
        within = meet_within D c y inside;
        unchanged = λ k e. get_or-set_other D c k (bit_and (get_or D c 0) y) 0 (λ q. false≢true (sym (rw q at e) ∙ shifted_bit 32 c (omega (arith, small))));
        fewer = omega (arith, fall);
        falls = λ q. fall;
      };
      struck = λ k v e. go k v e (either (not (eqb c k) || bit v y));
      left = λ v m e. own v (and_r (has D c v) _ (sym (met c v) ∙ (rw (← ec) at e)));
    }
      where
        fall : values 16 (meet D c y) < values 16 D
        fall =
            values_fall 16 (meet D c y) D (meet_store 16 D c y d small) d (meet_within D c y inside)
            (λ e. n (sym (get_or-set_same D c (bit_and (get_or D c 0) y) 0 inside) ∙ ap (λ (x : List ℕ). get_or x c 0) e))

        own : (v : ℕ) → (not (eqb c c) || bit v y) ≡ true → bit v y ≡ true
        own v e = rw (eq-eqb c c refl) at e

        go : (k v : ℕ) → has D k v ≡ true → ((not (eqb c k) || bit v y) ≡ true) ⊎ ((not (eqb c k) || bit v y) ≡ false)
            → (has (meet D c y) k v ≡ true) ⊎ ((j < width_of b s) × (column_of b s j ≡ k) × (bit v y ≡ false))
        go k v e (inl q) = inl (met k v ∙ and_i e q)
        go k v e (inr q) = inr (l, sym ec ∙ same (either (eqb c k)) (or_false_l (not (eqb c k)) (bit v y) q), or_false_r (not (eqb c k)) (bit v y) q)
          where
            same : (eqb c k ≡ true) ⊎ (eqb c k ≡ false) → not (eqb c k) ≡ false → c ≡ k
            same (inl x) z = eqb-true c k x
            same (inr x) z = absurd (false≢true (sym z ∙ ap not x))

-- ---- all places
module _ {b : List ℕ} {s : ℕ} (y : List ℕ) {D : List ℕ} where
  pub struck_more : {E F : List ℕ} {lost more : ℕ} (n : ℕ) → StruckTo b s n y D E lost → StruckPlace b s n (get_or y n 0) E F more
      → StruckTo b s (n + 1) y D F (bit_or lost more)
  struck_more {E} {F} n p q = record {
    loses = loses_more p.loses q.loses;
    struck = λ c v e. begin c v (p.struck c v e);
    left = λ j v l m e. go j v m e (below j n) l;
  }
    where
      second : (c v : ℕ) → (has F c v ≡ true) ⊎ ((n < width_of b s) × (column_of b s n ≡ c) × (bit v (get_or y n 0) ≡ false))
          → (has F c v ≡ true) ⊎ ((j : ℕ) × (j < n + 1) × (j < width_of b s) × (column_of b s j ≡ c) × (bit v (get_or y j 0) ≡ false))
      second c v (inl e) = inl e
      second c v (inr (l, e, f)) = inr (n, omega arith, l, e, f)

      begin : (c v : ℕ) → (has E c v ≡ true) ⊎ ((j : ℕ) × (j < n) × (j < width_of b s) × (column_of b s j ≡ c) × (bit v (get_or y j 0) ≡ false))
          → (has F c v ≡ true) ⊎ ((j : ℕ) × (j < n + 1) × (j < width_of b s) × (column_of b s j ≡ c) × (bit v (get_or y j 0) ≡ false))
      begin c v (inl e) = second c v (q.struck c v e)
      begin c v (inr (j, k, l, e, f)) = inr (j, omega arith, l, e, f)

      go : (j v : ℕ) → j < width_of b s → has F (column_of b s j) v ≡ true → (j < n) ⊎ (n ≤ j) → j < n + 1 → bit v (get_or y j 0) ≡ true
      go j v m e (inl l) k = p.left j v l m (q.loses.within.at (column_of b s j) v e)
      go j v m e (inr l) k = let z : j ≡ n = omega arith in rw z (q.left v (rw z at m) (rw z at e))

-- values with support at the places of the sheet have support in every column: in the others all have
pub each_column : {b : List ℕ} {begin s : ℕ} → AtSheet b begin s → {D : List ℕ} → IsStore 16 D → (E : List ℕ)
    → ((j v : ℕ) → j < width_of b s → has E (column_of b s j) v ≡ true → supported_in D (column_of b s j) v (sheet_at (book_of b) s) ≡ true)
    → (c v : ℕ) → has E c v ≡ true → supported_in D c v (sheet_at (book_of b) s) ≡ true
each_column {b} {begin} {s} a {D} d E own c v e = go (place_or_none (sheet_at (book_of b) s).columns c)
  where
    go : ((i : ℕ) × (i < length (sheet_at (book_of b) s).columns) × (get_or (sheet_at (book_of b) s).columns i 0 ≡ c))
        ⊎ ((i : ℕ) → i < length (sheet_at (book_of b) s).columns → get_or (sheet_at (book_of b) s).columns i 0 ≡ c → ⊥)
        → supported_in D c v (sheet_at (book_of b) s) ≡ true
    go (inl (i, l, q)) =
        let j : i < width_of b s = omega (arith, columns_size a) in
        let z : column_of b s i ≡ c = sym (column_value a i j) ∙ q in
        rw z at (own i v j (rw z e))
    go (inr n) = support_i D d.bits (sheet_at (book_of b) s) c v (λ i l q. absurd (n i l q))

-- the sets are the values with support
pub struck_all_places : {b : List ℕ} {begin s : ℕ} → AtSheet b begin s → {W x y D E : List ℕ} {lost : ℕ} → IsStore 16 D
    → Wanted b s D (width_of b s) x → RowsAre b s D W → FindsSupported b s W x y → StruckTo b s (width_of b s) y D E lost → Struck b s D E lost
struck_all_places {b} {begin} {s} a {W} {x} {y} {D} {E} d w r h p =
    record {
      loses = p.loses;
      settles =
          record {
            within = p.loses.within;
            struck = λ c v e. go c v e (p.struck c v e);
            left = each_column a d E left;
          };
    }
  where
    go : (c v : ℕ) → has D c v ≡ true
        → (has E c v ≡ true) ⊎ ((j : ℕ) × (j < width_of b s) × (j < width_of b s) × (column_of b s j ≡ c) × (bit v (get_or y j 0) ≡ false))
        → (has E c v ≡ true) ⊎ (supported_in D c v (sheet_at (book_of b) s) ≡ false)
    go c v e (inl f) = inl f
    go c v e (inr (j, m, l, q, f)) = inr (rw q at (sym (h.at D d w r j v l (rw q e)) ∙ f))

    left : (j v : ℕ) → j < width_of b s → has E (column_of b s j) v ≡ true → supported_in D (column_of b s j) v (sheet_at (book_of b) s) ≡ true
    left j v l e = sym (h.at D d w r j v l (p.loses.within.at (column_of b s j) v e)) ∙ p.left j v l l e
