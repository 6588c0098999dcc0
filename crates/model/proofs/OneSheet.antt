-- The closure of a book with one sheet: what the sheet settles A to is a consistent store (Settling). Assumes nothing.
use mathlib.Core.Path.{◌≡◌, refl, subst⁻¹}
use mathlib.Core.Bool.{Bool, ◌&&◌, false, true}
use mathlib.Core.Logic.{◌⊎◌, inl, inr}
use mathlib.Core.List.Memᴰ
use mathlib.Core.List.{List, Memᴰ, [], ◌∷◌}
use Prim.Native.Nat.{◌<◌, ℕ}
use lib.Dec.{ltb}
use lib.ListN.{get_or, length}
use borrow.Author.Tests.{lt-ltb}
use Rattle.model.specs.Books.{Book, ConsistentStore, Settles, Sheet, Stays, Support, WellFormed, WellFormedSheet, closure, column_count, supported_in}
use Rattle.model.specs.States.{OneSheet, OneSheets, valid_row}
use Rattle.model.specs.Stores.{IsStore, has, store_of}
use Rattle.model.proofs.Books.{in_domain_e, place_or_none, stays_iff, support_i, support_mono}
use Rattle.model.proofs.Rows.{supports_by_rows, valid_e, valid_i}
use Rattle.model.proofs.Settling.{left_support, tuple_left}
use Rattle.model.proofs.Stores.{has_e, has_i, in_store}
use Rattle.model.proofs.Tests.{and_i, and_l, and_r, either}

-- a list of one has no other element
alone : {A : Type 0} (x y : A) → Memᴰ x (y ∷ []) → x ≡ y
alone x y (Memᴰ.head e) = e
alone x y (Memᴰ.tail m) = absurd (Memᴰ.not-nil m)

module _ (b : Book) (s : Sheet) (A : List ℕ) (p : WellFormed b) (only : b.sheets ≡ s ∷ []) (plain : s.forbids ≡ false) (a : IsStore (column_count b) A)
    (f : (c : ℕ) → c < column_count b → (v : ℕ) × (has A c v ≡ true)) where
  member : Memᴰ s b.sheets
  member = rw only (Memᴰ.head refl)

  well : WellFormedSheet b.counts s
  well = p.sheet s member

  -- what the sheet supports in A, in its own columns; all of A in any other
  abbrev keeps : ℕ → ℕ → Bool
  keeps c v = has A c v && supported_in A c v s

  abbrev left : List ℕ
  left = store_of (column_count b) keeps

  kept : (c v : ℕ) → has A c v ≡ true → supported_in A c v s ≡ true → has left c v ≡ true
  kept c v e t = let i = in_store (column_count b) A a c v e in has_i (column_count b) keeps c v i.0 i.1 (and_i e t)

  settled : Settles A left s
  settled =
      record {
        within = record { at = λ c v e. and_l _ _ (has_e (column_count b) keeps c v e).2 };
        struck = λ c v e. go c v e (either (supported_in A c v s));
        left = λ c v e. and_r (has A c v) _ (has_e (column_count b) keeps c v e).2;
      }
    where
      go : (c v : ℕ) → has A c v ≡ true → (supported_in A c v s ≡ true) ⊎ (supported_in A c v s ≡ false) → (has left c v ≡ true) ⊎ (supported_in A c v s ≡ false)
      go c v e (inl t) = inl (kept c v e t)
      go c v e (inr t) = inr t

  -- all of a column that the sheet does not have is left
  other_left : (c v : ℕ) → has A c v ≡ true → ((i : ℕ) → i < length s.columns → get_or s.columns i 0 ≡ c → ⊥) → has left c v ≡ true
  other_left c v e n = kept c v e (support_i A a.bits s c v (λ i l q. absurd (n i l q)))

  -- every value of a valid row is left
  row_left : (i v : ℕ) (k : Support A s i v) (j : ℕ) → j < length s.columns → has left (get_or s.columns j 0) (get_or k.tuple j 0) ≡ true
  row_left = tuple_left b.counts A left s well a.bits settled

  -- with a valid row, what is left is consistent
  consistent : (i v : ℕ) → Support A s i v → ConsistentStore b left
  consistent i v k =
      record {
        filled = λ c l. filled c l (place_or_none s.columns c);
        support = λ t m.
            subst⁻¹ (λ (t : Sheet). (i : ℕ) → i < length t.columns → (v : ℕ) → has left (get_or t.columns i 0) v ≡ true → Support left t i v)
            (alone t s (rw only at m)) (λ i l v e. left_support b.counts A left s well a.bits settled i v l e);
      }
    where
      filled : (c : ℕ) → c < column_count b
          → ((i : ℕ) × (i < length s.columns) × (get_or s.columns i 0 ≡ c)) ⊎ ((i : ℕ) → i < length s.columns → get_or s.columns i 0 ≡ c → ⊥)
          → (v : ℕ) × (has left c v ≡ true)
      filled c l (inl j) = (get_or k.tuple j.0 0, rw j.2 at (row_left i v k j.0 j.1))
      filled c l (inr n) = let r = f c l in (r.0, other_left c r.0 r.1 n)

  -- with a valid row, what is left stays
  left_stays : (i v : ℕ) → Support A s i v → (c w : ℕ) → has left c w ≡ true → has (closure b A) c w ≡ true
  left_stays i v k c w e =
      (stays_iff b p A a c w).1 (record { store = left; consistent = consistent i v k; within = settled.within; holds = e })

  -- a value of a consistent store within A is supported in A
  stays_own : (c w : ℕ) (h : Stays b A c w) (i : ℕ) → i < length s.columns → (v : ℕ) → has h.store (get_or s.columns i 0) v ≡ true → Support A s i v
  stays_own c w h i l v e = support_mono h.store A h.within s i v (h.consistent.support s member i l v e)

  -- a valid row carries some value in the first column
  row_supports : (r : ℕ) → valid_row A s r ≡ true → (v : ℕ) × Support A s 0 v
  unfolding valid_row has
  row_supports r e =
      let h = in_domain_e _ _ ((valid_e A s.columns (get_or s.rows r []) (and_r (ltb r (length s.rows)) _ e)).1 0 well.some_column) in
      (h.0, (supports_by_rows A s plain 0 h.0 well.some_column).1 (record { row = r; is_valid = e; value = h.2; there = h.1 }))

  one_sheet : OneSheet b s A
  unfolding valid_row
  one_sheet =
      record {
        row = λ r m. (
          λ e. (valid_e A s.columns (get_or s.rows r []) (and_r (ltb r (length s.rows)) _ e)).1,
          λ h. and_i (lt-ltb r (length s.rows) m) (valid_i A s.columns (get_or s.rows r []) (well.row_size r m) h),
        );
        own = λ i l v. (
          λ e.
              let h = (stays_iff b p A a (get_or s.columns i 0) v).0 e in
              (supports_by_rows A s plain i v l).0 (stays_own _ _ h i l v h.holds),
          λ r.
              let k = (supports_by_rows A s plain i v l).1 r in
              left_stays i v k (get_or s.columns i 0) v (rw k.value at (row_left i v k i l)),
        );
        other = λ c n v. (
          λ e.
              let h = (stays_iff b p A a c v).0 e in
              let w = h.consistent.filled (get_or s.columns 0 0) (well.inside 0 well.some_column) in
              let k = (supports_by_rows A s plain 0 w.0 well.some_column).0 (stays_own c v h 0 well.some_column w.0 w.1) in
              (h.within.at c v h.holds, (k.row, k.is_valid)),
          λ r.
              let k = row_supports r.1.0 r.1.1 in left_stays 0 k.0 k.1 c v (other_left c v r.0 n),
        );
      }

pub one_sheets : OneSheets
one_sheets = one_sheet
