-- Laws of tables: slots, rows put in one by one, and a whole sheet word by word. Assumes nothing.
use mathlib.Core.Path.{◌∙◌, ◌≡◌, ap, refl, sym}
use mathlib.Core.Bool.{Bool, ◌&&◌, ◌||◌, false, false≢true, true}
use mathlib.Core.Logic.{◌⊎◌, inl, inr}
use mathlib.Core.List.{List}
use Prim.Native.Nat.{◌%◌, ◌*◌, ◌+◌, ◌<◌, ◌^◌, ◌≤◌, ℕ}
use native.Mathlib.Omega.{arith}
use lib.Bits.{bit_or, or_lt}
use lib.Dec.{eqb, ltb}
use lib.ListN.{get_or, length-set, set}
use lib.Seq.{get_or-set_other, get_or-set_same}
use borrow.Author.Tests.{eq-eqb, eqb-true, le-ltb, lt-ltb, ltb-true, ne_eqb}
use Rattle.fields.specs.Bytes.{byte_at}
use Rattle.model.specs.Books.{is_any, matches}
use Rattle.model.specs.Masks.{Cleared, bit}
use Rattle.model.specs.States.{of_sheet}
use Rattle.model.proofs.Books.{matches_any, matches_plain, matches_self}
use Rattle.model.proofs.Masks.{bit-or, bit_pow, bit_pow_only}
use Rattle.model.proofs.Tests.{and_i, and_l, and_r, below, or_e, or_l, or_r, same_test}
use Rattle.counters.specs.Counters.{cell_place}
use Rattle.cells.specs.Cells.{IsCell, Kept, Readable, cell_at}
use Rattle.counters.proofs.Ones.{ones_bit}
use Rattle.cells.proofs.Collects.{passed, passed_end, passed_turn}
use Rattle.cells.proofs.Stretches.{row_cell}
use Rattle.cells.proofs.Walks.{Part, part_cleared, split}
use Rattle.words.specs.Sheets.{AtSheet, SheetWords, is_set, value_at}
use Rattle.words.proofs.Gathers.{at_position, word_row}
use Rattle.words.proofs.Indexes.{set_below}
use Rattle.cover.specs.Covers.{IsTable, MatchedValues, RowPut, TableOf, Tabled, entry_at, set_with, slot}

-- ---- slots
pub slot_value : (x : ℕ) → x < 32 → slot x ≡ x
unfolding slot
slot_value x l = rw (lt-ltb x 32 l) refl

pub slot_any : (x : ℕ) → 32 ≤ x → slot x ≡ 32
unfolding slot
slot_any x l = rw (le-ltb x 32 l) refl

pub slot_most : (x : ℕ) → slot x ≤ 32
slot_most x = go (below x 32)
  where
    go : (x < 32) ⊎ (32 ≤ x) → slot x ≤ 32
    go (inl l) = omega (arith, slot_value x l)
    go (inr l) = omega (arith, slot_any x l)

any_large : (x : ℕ) → is_any x ≡ true → 32 ≤ x
any_large x e = omega (arith, eqb-true x 255 e)

value_small : (x : ℕ) → x < 32 → is_any x ≡ false
value_small x l = ne_eqb x 255 (λ e. omega arith)

-- a cell stands at the slot of each value that it matches, or at that of 255
pub match_slot : {x v : ℕ} → IsCell x → matches x v ≡ true → (slot x ≡ v) ⊎ (slot x ≡ 32)
match_slot {x} {v} (inl a) e = inr (slot_any x (any_large x a))
match_slot {x} {v} (inr l) e = inl (slot_value x l ∙ matches_plain x v (value_small x l) e)

pub slot_match : {x v : ℕ} → IsCell x → v < 32 → (slot x ≡ v) ⊎ (slot x ≡ 32) → matches x v ≡ true
slot_match {x} {v} (inl a) l e = matches_any x v a
slot_match {x} {v} (inr k) l (inl e) = let z : x ≡ v = sym (slot_value x k) ∙ e in rw z (matches_self v)
slot_match {x} {v} (inr k) l (inr e) = absurd (omega (arith, slot_value x k))

-- ---- the values that a cell matches
pub value_matched : (x r : ℕ) → x < 32 → r ≡ 2 ^ x → MatchedValues x r
value_matched x r l e = record {
  at = λ a m.
      same_test (bit a r) (matches x a) (λ p. rw (bit_pow_only x a (rw e at p)) (matches_self x))
      (λ p. let z = matches_plain x a (value_small x l) p in rw (e, z) (bit_pow a));
}

pub any_matched : (x : ℕ) → IsCell x → 32 ≤ x → MatchedValues x 4294967295
any_matched x (inl e) l = record { at = λ a m. ones_bit 32 a m ∙ sym (matches_any x a e) }
any_matched x (inr k) l = absurd (omega arith)

-- ---- one row
pub row_put : {x y z r : ℕ} {T : List ℕ} (i : ℕ) → IsTable T → MatchedValues x r → r < 2 ^ 32 → i ≡ 33 * slot z + slot y
    → RowPut x y z T (set T i (bit_or (get_or T i 0) r))
row_put {x} {y} {z} {r} {T} i h m l e =
    record {
      table = record {
        size = length-set T i _ ∙ h.size;
        fits = set_below T i (bit_or (get_or T i 0) r) (2 ^ 32) (or_lt 32 (get_or T i 0) r (h.fits i) l) h.fits;
      };
      at = λ k a q.
          split k i
          (λ p.
          let here : eqb k (33 * slot z + slot y) ≡ true = eq-eqb k _ (p ∙ e) in
          rw (here, p, get_or-set_same T i (bit_or (get_or T i 0) r) 0 (omega (arith, h.size, slot_most y, slot_most z)))
          (bit-or a (get_or T i 0) r ∙ ap (λ (t : Bool). bit a (get_or T i 0) || t) (m.at a q)))
          (λ n.
          let there : eqb k (33 * slot z + slot y) ≡ false = ne_eqb k _ (λ p. n (p ∙ sym e)) in
          rw (there, get_or-set_other T i k (bit_or (get_or T i 0) r) 0 n) (sym (or_none (bit a (get_or T k 0)))));
    }
  where
    or_none : (t : Bool) → (t || false) ≡ t
    or_none true = refl
    or_none false = refl

-- ---- the rows of a word
pub tabled_none : {cell : ℕ → ℕ → ℕ} {passes : ℕ → Bool} {T : List ℕ} → IsTable T → ((k : ℕ) → passes k ≡ false) → Tabled cell passes T T
tabled_none h n =
    record { table = h; old = λ i a l e. e; new = λ k a l e. absurd (false≢true (sym (n k) ∙ e)); sound = λ i a l e. inl e }

-- rows of one part of a word, and then of the other
pub tabled_join : {cell : ℕ → ℕ → ℕ} {passes more all : ℕ → Bool} {T U Y : List ℕ} → ((k : ℕ) → all k ≡ (passes k || more k))
    → Tabled cell passes T U → Tabled cell more U Y → Tabled cell all T Y
tabled_join {cell} {passes} {more} {all} {T} {U} {Y} e p q = record {
  table = q.table;
  old = λ i a l x. q.old i a l (p.old i a l x);
  new = λ k a l x y. new k a l y (or_e (passes k) (more k) (sym (e k) ∙ x));
  sound = λ i a l x. second i a l (q.sound i a l x);
}
  where
    new : (k a : ℕ) → a < 32 → matches (cell k 0) a ≡ true → (passes k ≡ true) ⊎ (more k ≡ true) → bit a (entry_at Y (slot (cell k 2)) (slot (cell k 1))) ≡ true
    new k a l y (inl x) = q.old _ a l (p.new k a l x y)
    new k a l y (inr x) = q.new k a l x y

    first : (i a : ℕ) → (bit a (get_or T i 0) ≡ true) ⊎ ((k : ℕ) × (passes k ≡ true) × (33 * slot (cell k 2) + slot (cell k 1) ≡ i) × (matches (cell k 0) a ≡ true))
        → (bit a (get_or T i 0) ≡ true) ⊎ ((k : ℕ) × (all k ≡ true) × (33 * slot (cell k 2) + slot (cell k 1) ≡ i) × (matches (cell k 0) a ≡ true))
    first i a (inl x) = inl x
    first i a (inr (k, x, y, z)) = inr (k, e k ∙ or_l (passes k) (more k) x, y, z)

    second : (i a : ℕ) → a < 32
        → (bit a (get_or U i 0) ≡ true) ⊎ ((k : ℕ) × (more k ≡ true) × (33 * slot (cell k 2) + slot (cell k 1) ≡ i) × (matches (cell k 0) a ≡ true))
        → (bit a (get_or T i 0) ≡ true) ⊎ ((k : ℕ) × (all k ≡ true) × (33 * slot (cell k 2) + slot (cell k 1) ≡ i) × (matches (cell k 0) a ≡ true))
    second i a l (inl x) = first i a (p.sound i a l x)
    second i a l (inr (k, x, y, z)) = inr (k, e k ∙ or_r (passes k) (more k) x, y, z)

-- one row
tabled_one : (cell : ℕ → ℕ → ℕ) (t : ℕ) {U Y : List ℕ} → RowPut (cell t 0) (cell t 1) (cell t 2) U Y → Tabled cell (λ k. eqb k t) U Y
tabled_one cell t {U} {Y} q = record {
  table = q.table;
  old = λ i a l x. q.at i a l ∙ or_l (bit a (get_or U i 0)) _ x;
  new = λ k a l x y.
      let z = eqb-true k t x in
      q.at _ a l ∙ or_r (bit a (entry_at U (slot (cell k 2)) (slot (cell k 1)))) _ (and_i (eq-eqb _ _ (ap (λ (i : ℕ). 33 * slot (cell i 2) + slot (cell i 1)) z)) (rw (← z) y));
  sound = λ i a l x. from i a (or_e (bit a (get_or U i 0)) _ (sym (q.at i a l) ∙ x));
}
  where
    from : (i a : ℕ) → (bit a (get_or U i 0) ≡ true) ⊎ ((eqb i (33 * slot (cell t 2) + slot (cell t 1)) && matches (cell t 0) a) ≡ true)
        → (bit a (get_or U i 0) ≡ true) ⊎ ((k : ℕ) × (eqb k t ≡ true) × (33 * slot (cell k 2) + slot (cell k 1) ≡ i) × (matches (cell k 0) a ≡ true))
    from i a (inl x) = inl x
    from i a (inr x) =
        inr
        (t, eq-eqb t t refl, sym (eqb-true i _ (and_l (eqb i (33 * slot (cell t 2) + slot (cell t 1))) _ x)), and_r (eqb i (33 * slot (cell t 2) + slot (cell t 1))) _ x)

pub tabled_more : {cell : ℕ → ℕ → ℕ} {passes all : ℕ → Bool} {T U Y : List ℕ} (t : ℕ) → ((k : ℕ) → all k ≡ (passes k || eqb k t))
    → Tabled cell passes T U → RowPut (cell t 0) (cell t 1) (cell t 2) U Y → Tabled cell all T Y
tabled_more {cell} t e p q = tabled_join e p (tabled_one cell t q)

pub tabled_same : {cell : ℕ → ℕ → ℕ} {passes all : ℕ → Bool} {T U : List ℕ} → ((k : ℕ) → passes k ≡ all k) → Tabled cell passes T U → Tabled cell all T U
tabled_same {cell} {passes} {all} {T} {U} e p = record {
  table = p.table;
  old = p.old;
  new = λ k a l x. p.new k a l (e k ∙ x);
  sound = λ i a l x. go i a (p.sound i a l x);
}
  where
    go : (i a : ℕ) → (bit a (get_or T i 0) ≡ true) ⊎ ((k : ℕ) × (passes k ≡ true) × (33 * slot (cell k 2) + slot (cell k 1) ≡ i) × (matches (cell k 0) a ≡ true))
        → (bit a (get_or T i 0) ≡ true) ⊎ ((k : ℕ) × (all k ≡ true) × (33 * slot (cell k 2) + slot (cell k 1) ≡ i) × (matches (cell k 0) a ≡ true))
    go i a (inl x) = inl x
    go i a (inr (k, x, y, z)) = inr (k, sym (e k) ∙ x, y, z)

-- the row that a walk comes to, at the byte that was found, is one row more
module _ (b : List ℕ) (begin from k : ℕ) {at : ℕ} (e : at ≡ cell_place begin (from + k) 0) where
  pub row_tabled : {word left rest : ℕ} {T U Y : List ℕ} → Part left word → Cleared left rest k → Tabled (λ i j. cell_at b begin (from + i) j) (passed word left) T U
      → RowPut (byte_at b at) (byte_at b (at + 1)) (byte_at b (at + 2)) U Y → Tabled (λ i j. cell_at b begin (from + i) j) (passed word rest) T Y × Part rest word
  row_tabled p c t q =
      (tabled_more k (passed_turn p c) t (rw (← ap (byte_at b) e, ← row_cell b begin (from + k) 1 e, ← row_cell b begin (from + k) 2 e) q), part_cleared c p)

-- no row is left
pub all_tabled : {cell : ℕ → ℕ → ℕ} (word : ℕ) {left : ℕ} {T U : List ℕ} → left ≡ 0 → Tabled cell (passed word left) T U → Tabled cell (λ k. bit k word) T U
all_tabled word e t = tabled_same (λ k. ap (λ (m : ℕ). passed word m k) e ∙ passed_end word k) t

-- ---- the rows of a sheet, word by word
-- the rows at positions below p are in the table, and what is in it beside T is of rows that are set
pub record Tabling (b : List ℕ) (s v p : ℕ) (W X T U : List ℕ) : Type 0 where
  pub table : IsTable U
  pub old : (i a : ℕ) → a < 32 → bit a (get_or T i 0) ≡ true → bit a (get_or U i 0) ≡ true
  pub done : (q k a : ℕ) → q < p → a < 32 → bit k (of_sheet W s (of_sheet X s q)) ≡ true → matches (value_at b s (64 * of_sheet X s q + k) 3) v ≡ true
      → matches (value_at b s (64 * of_sheet X s q + k) 0) a ≡ true
      → bit a (entry_at U (slot (value_at b s (64 * of_sheet X s q + k) 2)) (slot (value_at b s (64 * of_sheet X s q + k) 1))) ≡ true
  pub sound : (i a : ℕ) → a < 32 → bit a (get_or U i 0) ≡ true
      → (bit a (get_or T i 0) ≡ true)
      ⊎ ((r : ℕ) × (set_with b s W v r ≡ true) × (33 * slot (value_at b s r 2) + slot (value_at b s r 1) ≡ i) × (matches (value_at b s r 0) a ≡ true))

module _ {b : List ℕ} {begin s : ℕ} (a : AtSheet b begin s) {W X N : List ℕ} (h : SheetWords b s W X N) where
  -- the rows of a word that are kept can be read
  pub kept_readable : {from d word keep : ℕ} → Readable b begin from word → Kept b begin from 3 d word keep → Readable b begin from keep
  kept_readable {from} {d} {word} r k = record {
    there = λ i e. r.there i (and_l (bit i word) _ (sym (k.at i) ∙ e));
    cell = λ i j e. r.cell i j (and_l (bit i word) _ (sym (k.at i) ∙ e));
  }

  pub tabling_more : {v p w keep : ℕ} {T U Y : List ℕ} → p < get_or N s 0 → w ≡ of_sheet X s p → Tabling b s v p W X T U
      → Kept b begin (64 * w) 3 (2 ^ v) (of_sheet W s w) keep → Tabled (λ k j. cell_at b begin (64 * w + k) j) (λ k. bit k keep) U Y → Tabling b s v (p + 1) W X T Y
  unfolding set_with
  tabling_more {v} {p} {w} {keep} {T} {U} {Y} l ew q kept t = record {
    table = t.table;
    old = λ i c m e. t.old i c m (q.old i c m e);
    done = λ i k c m n e f g. here i k c n e f g (below i p) m;
    sound = λ i c m e. from i c m (t.sound i c m e);
  }
    where
      small : w < 8
      small = rw ew (h.indexed.each p (omega (arith, h.indexed.few)))

      value : (k j : ℕ) → cell_at b begin (64 * w + k) j ≡ value_at b s (64 * w + k) j
      value k j = ap (λ (i : ℕ). cell_at b i (64 * w + k) j) a.begins

      here : (i k c : ℕ) → c < 32 → bit k (of_sheet W s (of_sheet X s i)) ≡ true → matches (value_at b s (64 * of_sheet X s i + k) 3) v ≡ true
          → matches (value_at b s (64 * of_sheet X s i + k) 0) c ≡ true → (i < p) ⊎ (p ≤ i) → i < p + 1
          → bit c (entry_at Y (slot (value_at b s (64 * of_sheet X s i + k) 2)) (slot (value_at b s (64 * of_sheet X s i + k) 1))) ≡ true
      here i k c n e f g (inl o) m = t.old _ c n (q.done i k c o n e f g)
      here i k c n e f g (inr o) m =
          let y : i ≡ p = omega arith in
          let z : of_sheet X s i ≡ w = ap (of_sheet X s) y ∙ sym ew in
          let in_word : bit k (of_sheet W s w) ≡ true = rw z at e in
          let third : matches (cell_at b begin (64 * w + k) 3) v ≡ true = rw (value k 3) (rw z at f) in
          let first : matches (cell_at b begin (64 * w + k) 0) c ≡ true = rw (value k 0) (rw z at g) in
          rw (z, ← value k 2, ← value k 1) (t.new k c n (kept.at k ∙ and_i in_word third) first)

      from : (i c : ℕ) → c < 32
          → (bit c (get_or U i 0) ≡ true)
          ⊎ ((k : ℕ) × (bit k keep ≡ true) × (33 * slot (cell_at b begin (64 * w + k) 2) + slot (cell_at b begin (64 * w + k) 1) ≡ i) × (matches (cell_at b begin (64 * w + k) 0) c ≡ true))
          → (bit c (get_or T i 0) ≡ true)
          ⊎ ((r : ℕ) × (set_with b s W v r ≡ true) × (33 * slot (value_at b s r 2) + slot (value_at b s r 1) ≡ i) × (matches (value_at b s r 0) c ≡ true))
      from i c m (inl e) = q.sound i c m e
      from i c m (inr (k, e, f, g)) =
          let y = sym (kept.at k) ∙ e in
          let set_row = word_row a h w k small (and_l (bit k (of_sheet W s w)) _ y) in
          inr
          (64 * w + k, and_i (lt-ltb (64 * w + k) 512 set_row.0) (and_i set_row.1 (rw (value k 3) at (and_r (bit k (of_sheet W s w)) _ y))), rw (value k 2, value k 1) at f, rw (value k 0) at g)

  -- every row that is set stands at a position below the count
  pub tabling_all : {v p : ℕ} {T U : List ℕ} → get_or N s 0 ≤ p → Tabling b s v p W X T U → TableOf b s W v T U
  unfolding set_with
  tabling_all {v} {p} {T} {U} l q = record { table = q.table; old = q.old; new = new; sound = q.sound }
    where
      new : (r c : ℕ) → c < 32 → set_with b s W v r ≡ true → matches (value_at b s r 0) c ≡ true → bit c (entry_at U (slot (value_at b s r 2)) (slot (value_at b s r 1))) ≡ true
      new r c m e f =
          let few = ltb-true r 512 (and_l (ltb r 512) _ e) in
          let y = and_r (ltb r 512) _ e in
          let i = at_position a h r few (and_l (is_set W s r) _ y) in
          let z : 64 * of_sheet X s i.0 + r % 64 ≡ r = omega (arith, i.2) in
          rw z at (q.done i.0 (r % 64) c (omega (arith, i.1)) m i.3 (rw z (and_r (is_set W s r) _ y)) (rw z f))
