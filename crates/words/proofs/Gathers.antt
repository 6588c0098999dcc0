-- Laws of pass 2, first half: the values that the rows of a sheet carry. Assumes nothing.
-- ---- the test that stops it
use mathlib.Core.Path.{◌∙◌, ◌≡◌, ap, refl, sym}
use mathlib.Core.Bool.{Bool, ◌&&◌, ◌||◌, false, false≢true, not, true}
use mathlib.Core.Logic.{◌⊎◌, inl, inr}
use mathlib.Core.List.{List}
use Prim.Native.Nat.{◌%◌, ◌*◌, ◌+◌, ◌-◌, ◌/◌, ◌<◌, ◌^◌, ◌≤◌, ℕ}
use native.Mathlib.Omega.{arith}
use lib.Arith.{lt_of_le-ne}
use lib.Bits.{bit_and, bit_or}
use lib.Dec.{eqb}
use lib.ListN.{get_or, length, length-set, replicate, set}
use lib.Seq.{get_or-set_other, get_or-set_same}
use borrow.Author.Tests.{eqb-false, eqb-true, not-false}
use Rattle.model.specs.Books.{Sheet, is_any, matches, sheet_at, supported_in}
use Rattle.model.specs.Masks.{bit}
use Rattle.model.specs.States.{ValidSupport, of_sheet, valid_row}
use Rattle.model.specs.Stores.{IsStore, has}
use Rattle.model.specs.Tests.{Finds}
use Rattle.model.proofs.Books.{matches_any, matches_plain, matches_self}
use Rattle.model.proofs.Masks.{bit-and, bit_below, bit_of_zero, bit-or, ones32, some_bit}
use Rattle.model.proofs.Rows.{supports_by_rows}
use Rattle.model.proofs.Settling.{supported_iff}
use Rattle.model.proofs.Tests.{and_i, and_l, and_r, below, either, or_false_l, or_false_r, positive, same_test}
use Rattle.book.specs.Decoding.{book_of}
use Rattle.heads.specs.Heads.{column_of, forbids_of, width_of}
use Rattle.cells.specs.Cells.{Covered, Gathered, IsCell, KeptAny, SmallSets, cell_at, four_of}
use Rattle.words.specs.Sheets.{AtSheet, FindsSupported, NothingMissed, PlainSeen, RowsAre, SetSupport, SheetWords, ShortPlaces, Supported, Wanted, Widened, any_at, is_set, value_at}
use Rattle.words.proofs.Cuts.{row_word}
use Rattle.words.proofs.Indexes.{past_limit, set_below}
use Rattle.words.proofs.Places.{column_value, columns_size, formed, row_value, rows_few, sheet_forbids, sheet_in, valid_e, value_is, width_most}
use Rattle.counters.proofs.Ones.{complement, ones_bit}
use Rattle.cells.proofs.Walks.{four_all}

-- of x nothing is outside y
none_outside : (x y : ℕ) → x < 2 ^ 32 → y < 2 ^ 32 → ((v : ℕ) → bit v (bit_and x (ones32 - y)) ≡ false) → (v : ℕ) → bit v x ≡ true → bit v y ≡ true
none_outside x y lx ly h v e = go (either (bit v y))
  where
    go : (bit v y ≡ true) ⊎ (bit v y ≡ false) → bit v y ≡ true
    go (inl p) = p
    go (inr p) =
        absurd
        (false≢true
        (sym (h v) ∙ bit-and v x (ones32 - y) ∙ and_i e (complement 32 y v ly (bit_below 32 x v lx e) ∙ ap not p)))

-- the same, as the code tests it
pub nothing_outside : (x y : ℕ) → x < 2 ^ 32 → y < 2 ^ 32 → not (eqb (bit_and x (ones32 - y)) 0) ≡ false → (v : ℕ) → bit v x ≡ true → bit v y ≡ true
nothing_outside x y lx ly e = none_outside x y lx ly (λ v. ap (bit v) (eqb-true _ 0 (not-false _ e)) ∙ bit_of_zero v)

pub covered_four : (x0 x1 x2 x3 y0 y1 y2 y3 : ℕ) → ((x0 < 2 ^ 32) × (x1 < 2 ^ 32) × (x2 < 2 ^ 32) × (x3 < 2 ^ 32))
    → ((y0 < 2 ^ 32) × (y1 < 2 ^ 32) × (y2 < 2 ^ 32) × (y3 < 2 ^ 32))
    → eqb (bit_or (bit_or (bit_or (bit_and x0 (ones32 - y0)) (bit_and x1 (ones32 - y1))) (bit_and x2 (ones32 - y2))) (bit_and x3 (ones32 - y3))) 0 ≡ true
    → Covered (four_of x0 x1 x2 x3) (four_of y0 y1 y2 y3)
covered_four x0 x1 x2 x3 y0 y1 y2 y3 lx ly e =
    record {
      at = λ j v l.
          four_all (λ j. bit v (get_or (four_of x0 x1 x2 x3) j 0) ≡ true → bit v (get_or (four_of y0 y1 y2 y3) j 0) ≡ true)
          (none_outside x0 y0 lx.0 ly.0 (λ v. or_false_l (b0 v) _ (or_false_l (b0 v || b1 v) _ (all v))) v)
          (none_outside x1 y1 lx.1 ly.1 (λ v. or_false_r (b0 v) _ (or_false_l (b0 v || b1 v) _ (all v))) v)
          (none_outside x2 y2 lx.2 ly.2 (λ v. or_false_r (b0 v || b1 v) _ (all v)) v)
          (none_outside x3 y3 lx.3 ly.3 (λ v. or_false_r ((b0 v || b1 v) || b2 v) _ (whole_word v)) v)
          j l;
    }
  where
    b0 : ℕ → Bool
    b0 v = bit v (bit_and x0 (ones32 - y0))

    b1 : ℕ → Bool
    b1 v = bit v (bit_and x1 (ones32 - y1))

    b2 : ℕ → Bool
    b2 v = bit v (bit_and x2 (ones32 - y2))

    b3 : ℕ → Bool
    b3 v = bit v (bit_and x3 (ones32 - y3))

    whole_word : (v : ℕ) → (((b0 v || b1 v) || b2 v) || b3 v) ≡ false
    whole_word v =
        sym
        (bit-or v (bit_or (bit_or (bit_and x0 (ones32 - y0)) (bit_and x1 (ones32 - y1))) (bit_and x2 (ones32 - y2))) (bit_and x3 (ones32 - y3))
        ∙ ap (λ (t : Bool). t || b3 v)
        (bit-or v (bit_or (bit_and x0 (ones32 - y0)) (bit_and x1 (ones32 - y1))) (bit_and x2 (ones32 - y2))
        ∙ ap (λ (t : Bool). t || b2 v) (bit-or v (bit_and x0 (ones32 - y0)) (bit_and x1 (ones32 - y1)))))
        ∙ ap (bit v) (eqb-true _ 0 e)
        ∙ bit_of_zero v

    all : (v : ℕ) → ((b0 v || b1 v) || b2 v) ≡ false
    all v = or_false_l ((b0 v || b1 v) || b2 v) (b3 v) (whole_word v)

pub covered_sets : (x y : List ℕ) → SmallSets x → SmallSets y
    → eqb (bit_or (bit_or (bit_or (bit_and (get_or x 0 0) (ones32 - get_or y 0 0)) (bit_and (get_or x 1 0) (ones32 - get_or y 1 0))) (bit_and (get_or x 2 0) (ones32 - get_or y 2 0))) (bit_and (get_or x 3 0) (ones32 - get_or y 3 0))) 0 ≡ true
    → Covered x y
covered_sets x y p q e =
    let c = covered_four (get_or x 0 0) (get_or x 1 0) (get_or x 2 0) (get_or x 3 0) (get_or y 0 0) (get_or y 1 0) (get_or y 2 0) (get_or y 3 0)
    (p.fits 0, p.fits 1, p.fits 2, p.fits 3) (q.fits 0, q.fits 1, q.fits 2, q.fits 3) e in
    record {
      at = λ j v l.
          four_all (λ j. bit v (get_or x j 0) ≡ true → bit v (get_or y j 0) ≡ true) (c.at 0 v (omega arith)) (c.at 1 v (omega arith))
          (c.at 2 v (omega arith)) (c.at 3 v (omega arith)) j l;
    }

-- ---- the walk over the words
-- what the last five bits of a cell are, the cell matches
low_matches : {x v : ℕ} → IsCell x → x % 32 ≡ v → matches x v ≡ true
low_matches {x} {v} (inl a) e = matches_any x v a
low_matches {x} {v} (inr l) e = let z : x ≡ v = omega arith in rw z (matches_self v)

-- but for 255, what it matches are its last five bits
plain_low : {x v : ℕ} → IsCell x → is_any x ≡ false → matches x v ≡ true → x % 32 ≡ v
plain_low {x} {v} (inl a) n e = absurd (false≢true (sym n ∙ a))
plain_low {x} {v} (inr l) n e = let z = matches_plain x v n e in omega arith

-- every value seen has support, and the last five bits of the cells of the rows at positions below p have been seen
pub record Supporting (b : List ℕ) (s p : ℕ) (W X seen : List ℕ) : Type 0 where
  pub sound : (j v : ℕ) → j < 4 → bit v (get_or seen j 0) ≡ true → SetSupport b s W j v
  pub done : (i j k : ℕ) → i < p → j < 4 → bit k (of_sheet W s (of_sheet X s i)) ≡ true → bit (value_at b s (64 * of_sheet X s i + k) j % 32) (get_or seen j 0) ≡ true

pub supporting_start : (b : List ℕ) (s : ℕ) (W X : List ℕ) {seen : List ℕ} → seen ≡ replicate 4 0 → Supporting b s 0 W X seen
supporting_start b s W X {seen} z =
    record {
      sound = λ j v l e. absurd (false≢true (sym (four_all (λ j. bit v (get_or (replicate 4 0) j 0) ≡ false) (bit_of_zero v) (bit_of_zero v) (bit_of_zero v) (bit_of_zero v) j l) ∙ (rw z at e)));
      done = λ i j k l m e. absurd (omega arith);
    }

-- no row at a position below p has 255 at place j
pub record NoAny (b : List ℕ) (s : ℕ) (W X : List ℕ) (j p : ℕ) : Type 0 where
  pub at : (i k : ℕ) → i < p → bit k (of_sheet W s (of_sheet X s i)) ≡ true → is_any (value_at b s (64 * of_sheet X s i + k) j) ≡ false

pub no_any_start : (b : List ℕ) (s : ℕ) (W X : List ℕ) (j : ℕ) → NoAny b s W X j 0
no_any_start b s W X j = record { at = λ i k l. absurd (omega arith) }

module _ {b : List ℕ} {begin s : ℕ} (a : AtSheet b begin s) {W X N : List ℕ} (h : SheetWords b s W X N) where
  -- a row that is set stands at a position below the count
  pub at_position : (r : ℕ) → r < 512 → is_set W s r ≡ true
      → (i : ℕ) × (i < get_or N s 0) × (of_sheet X s i ≡ r / 64) × (bit (r % 64) (of_sheet W s (of_sheet X s i)) ≡ true)
  unfolding is_set
  at_position r l e =
      let f = h.indexed.every (r / 64) (omega arith) in
      let u : bit (r % 64) (of_sheet W s (of_sheet X s f.0)) ≡ true = rw f.2 e in
      (f.0, go f.0 f.1 (below f.0 (get_or N s 0)) u, f.2, u)
    where
      go : (i : ℕ) → i < 8 → (i < get_or N s 0) ⊎ (get_or N s 0 ≤ i) → bit (r % 64) (of_sheet W s (of_sheet X s i)) ≡ true → i < get_or N s 0
      go i n (inl o) u = o
      go i n (inr o) u =
          absurd (false≢true (sym (bit_of_zero (r % 64)) ∙ ap (bit (r % 64)) (sym (past_limit h.indexed i n o)) ∙ u))

  -- and its cells are cells
  pub set_cell : (r j : ℕ) → r < 512 → j < 4 → is_set W s r ≡ true → IsCell (value_at b s r j)
  set_cell r j l p e = value_is a r j (h.inside.at r l e) p

  -- row k of word w
  pub word_row : (w k : ℕ) → w < 8 → bit k (of_sheet W s w) ≡ true → (64 * w + k < 512) × (is_set W s (64 * w + k) ≡ true)
  word_row w k l e =
      let t = bit_below 64 (of_sheet W s w) k (h.sized.bits (8 * s + w)) e in (omega arith, row_word W s w k t ∙ e)

  pub supporting_more : {p w word : ℕ} {f g : List ℕ} → p < get_or N s 0 → w ≡ of_sheet X s p → word ≡ of_sheet W s w → Supporting b s p W X f
      → Gathered b begin (64 * w) word f g → Supporting b s (p + 1) W X g
  supporting_more {p} {w} {word} {f} {g} l ew eword q r = record {
    sound = λ j v m e. from j v m (r.sound j v m e);
    done = λ i j k m n e. here i j k n e (below i p) m;
  }
    where
      small : w < 8
      small = rw ew (h.indexed.each p (omega (arith, h.indexed.few)))

      from : (j v : ℕ) → j < 4 → (bit v (get_or f j 0) ≡ true) ⊎ ((k : ℕ) × (bit k word ≡ true) × (cell_at b begin (64 * w + k) j % 32 ≡ v)) → SetSupport b s W j v
      from j v m (inl e) = q.sound j v m e
      from j v m (inr (k, e, u)) =
          let y = word_row w k small (rw eword at e) in
          record {
            row = 64 * w + k;
            small = y.0;
            set_row = y.1;
            value = low_matches (set_cell (64 * w + k) j y.0 m y.1) (ap (λ (i : ℕ). cell_at b i (64 * w + k) j % 32) (sym a.begins) ∙ u);
          }

      here : (i j k : ℕ) → j < 4 → bit k (of_sheet W s (of_sheet X s i)) ≡ true → (i < p) ⊎ (p ≤ i) → i < p + 1
          → bit (value_at b s (64 * of_sheet X s i + k) j % 32) (get_or g j 0) ≡ true
      here i j k m e (inl o) n = r.old j _ m (q.done i j k o m e)
      here i j k m e (inr o) n =
          let y : i ≡ p = omega arith in
          rw (y, ← ew, ← a.begins) (r.new j k m (rw (eword, ew, ← y) e))

  pub supporting_covered : {p : ℕ} {x y : List ℕ} → Supporting b s p W X y → Covered x y → Supported b s W x y
  supporting_covered q c = record { sound = q.sound; complete = λ j v l e r. c.at j v l e }

  pub supporting_all : {p : ℕ} {y : List ℕ} → get_or N s 0 ≤ p → SmallSets y → Supporting b s p W X y → PlainSeen b s W y
  supporting_all {p} {y} l z q = record { small = z; sound = q.sound; cells = cells }
    where
      cells : (r j : ℕ) → r < 512 → j < 4 → is_set W s r ≡ true → bit (value_at b s r j % 32) (get_or y j 0) ≡ true
      cells r j m n e =
          let f = at_position r m e in
          let g : 64 * of_sheet X s f.0 + r % 64 ≡ r = omega (arith, f.2) in
          rw g at (q.done f.0 j (r % 64) (omega (arith, f.1)) n f.3)

  -- ---- the walk for 255 at a place
  module _ {j p w word r : ℕ} (l : p < get_or N s 0) (ew : w ≡ of_sheet X s p) (eword : word ≡ of_sheet W s w) (kept : KeptAny b begin (64 * w) j word r) where
    pub no_any_more : r ≡ 0 → NoAny b s W X j p → NoAny b s W X j (p + 1)
    no_any_more z q = record { at = λ i k m e. here i k e (below i p) m }
      where
        here : (i k : ℕ) → bit k (of_sheet W s (of_sheet X s i)) ≡ true → (i < p) ⊎ (p ≤ i) → i < p + 1
            → is_any (value_at b s (64 * of_sheet X s i + k) j) ≡ false
        here i k e (inl o) n = q.at i k o e
        here i k e (inr o) n =
            let y : i ≡ p = omega arith in
            let t : bit k word ≡ true = rw (eword, ew, ← y) e in
            let u : (bit k word && is_any (cell_at b begin (64 * w + k) j)) ≡ false = sym (kept.at k) ∙ ap (bit k) z ∙ bit_of_zero k in
            rw (y, ← ew, ← a.begins) (rw t at u)

    pub any_found : r < 2 ^ 64 → (r ≡ 0 → ⊥) → Finds (any_at b s W j) 0 512 true
    unfolding any_at
    any_found f n =
        let k = some_bit 64 r f (positive r n) in
        let e = sym (kept.at k.0) ∙ k.2 in
        let y = word_row w k.0 (rw ew (h.indexed.each p (omega (arith, h.indexed.few)))) (rw eword at (and_l (bit k.0 word) _ e)) in
        record {
          none = λ t. absurd (false≢true (sym t));
          some = λ t. (
            64 * w + k.0,
            omega arith,
            y.0,
            and_i y.1 (ap (λ (i : ℕ). is_any (cell_at b i (64 * w + k.0) j)) (sym a.begins) ∙ and_r (bit k.0 word) _ e),
          );
        }

  pub any_none : {j p : ℕ} → get_or N s 0 ≤ p → NoAny b s W X j p → Finds (any_at b s W j) 0 512 false
  unfolding any_at
  any_none {j} {p} l q = record { none = λ t. record { at = λ r m n. none r n (either (is_set W s r)) }; some = λ t. absurd (false≢true t) }
    where
      none : (r : ℕ) → r < 512 → (is_set W s r ≡ true) ⊎ (is_set W s r ≡ false) → (is_set W s r && is_any (value_at b s r j)) ≡ false
      none r n (inr e) = rw e refl
      none r n (inl e) =
          let f = at_position r n e in
          let g : 64 * of_sheet X s f.0 + r % 64 ≡ r = omega (arith, f.2) in
          rw e (rw g at (q.at f.0 (r % 64) (omega (arith, f.1)) f.3))

  -- ---- place by place
  pub widened_start : {x y : List ℕ} → PlainSeen b s W y → Widened b s W x y 0
  widened_start p = record { plain = p; complete = λ j v l. absurd (omega arith) }

  pub widened_end : {x y : List ℕ} → Widened b s W x y 4 → Supported b s W x y
  widened_end p = record { sound = p.plain.sound; complete = p.complete }

  -- what is known at the places below j, and at j
  widened_more : {x y : List ℕ} {j : ℕ} → Widened b s W x y j
      → ((v : ℕ) → bit v (get_or x j 0) ≡ true → SetSupport b s W j v → bit v (get_or y j 0) ≡ true) → Widened b s W x y (j + 1)
  widened_more {x} {y} {j} p f = record { plain = p.plain; complete = λ i v l e k. go i v (below i j) l e k }
    where
      go : (i v : ℕ) → (i < j) ⊎ (j ≤ i) → i < j + 1 → bit v (get_or x i 0) ≡ true → SetSupport b s W i v → bit v (get_or y i 0) ≡ true
      go i v (inl q) l e k = p.complete i v q e k
      go i v (inr q) l e k = let z : i ≡ j = omega arith in rw z (f v (rw z at e) (rw z at k))

  -- a support that has no 255 has been seen
  plain_support : {y : List ℕ} {j v : ℕ} → PlainSeen b s W y → j < 4 → (k : SetSupport b s W j v) → is_any (value_at b s k.row j) ≡ false
      → bit v (get_or y j 0) ≡ true
  plain_support {y} {j} {v} p l k n =
      rw (plain_low (set_cell k.row j k.small l k.set_row) n k.value) at (p.cells k.row j k.small l k.set_row)

  -- so has every one where the sheet has no 255 at the place
  short_support : {y : List ℕ} {j v shorts : ℕ} → ShortPlaces b s shorts → bit (8 * j + 7) shorts ≡ false → PlainSeen b s W y → j < 4
      → SetSupport b s W j v → bit v (get_or y j 0) ≡ true
  short_support {y} {j} {v} {shorts} c n p l k = go (either (is_any (value_at b s k.row j)))
    where
      go : (is_any (value_at b s k.row j) ≡ true) ⊎ (is_any (value_at b s k.row j) ≡ false) → bit v (get_or y j 0) ≡ true
      go (inr e) = plain_support p l k e
      go (inl e) = absurd (false≢true (sym n ∙ c.at k.row j (h.inside.at k.row k.small k.set_row) l e))

  -- no 255 in the sheet
  pub supported_plain : {x y : List ℕ} {shorts : ℕ} → shorts ≡ 0 → ShortPlaces b s shorts → PlainSeen b s W y → Supported b s W x y
  supported_plain z c p =
      record { sound = p.sound; complete = λ j v l e k. short_support c (ap (bit (8 * j + 7)) z ∙ bit_of_zero (8 * j + 7)) p l k }

  -- no 255 at the place, or nothing missing
  pub widened_same : {x y : List ℕ} {j shorts : ℕ} → j < 4 → ShortPlaces b s shorts → NothingMissed shorts j (get_or x j 0) (get_or y j 0)
      → Widened b s W x y j → Widened b s W x y (j + 1)
  widened_same l c (inr f) p = widened_more p (λ v e k. f v e)
  widened_same l c (inl n) p = widened_more p (λ v e k. short_support c n p.plain l k)

  pub widened_none : {x y : List ℕ} {j : ℕ} → j < 4 → Finds (any_at b s W j) 0 512 false → Widened b s W x y j → Widened b s W x y (j + 1)
  unfolding any_at
  widened_none {x} {y} {j} l f p =
      widened_more p
      (λ v e k. plain_support p.plain l k (rw k.set_row at ((f.none refl).at k.row (omega arith) k.small)))

  -- a row that is set has 255 there: every value has support
  pub widened_all : {x y : List ℕ} {j : ℕ} → j < 4 → SmallSets x → Finds (any_at b s W j) 0 512 true → Widened b s W x y j
      → Widened b s W x (set y j ones32) (j + 1)
  unfolding any_at
  widened_all {x} {y} {j} l z f p =
      record {
        plain =
            record {
              small = record { size = length-set y j ones32 ∙ p.plain.small.size; fits = set_below y j ones32 (2 ^ 32) (omega arith) p.plain.small.fits };
              sound = λ i v m e. sound i v m (either (eqb i j)) e;
              cells = λ r i m n e. put i (value_at b s r i % 32) (either (eqb i j)) (omega arith) (λ d. p.plain.cells r i m n e);
            };
        complete = λ i v m e k. put i v (either (eqb i j)) (bit_below 32 (get_or x i 0) v (z.fits i) e) (λ d. p.complete i v (lt_of_le-ne (omega arith) d) e k);
      }
    where
      row : (r : ℕ) × (0 ≤ r) × (r < 512) × ((is_set W s r && is_any (value_at b s r j)) ≡ true)
      row = f.some refl

      here : get_or (set y j ones32) j 0 ≡ ones32
      here = get_or-set_same y j ones32 0 (omega (arith, p.plain.small.size))

      sound : (i v : ℕ) → i < 4 → (eqb i j ≡ true) ⊎ (eqb i j ≡ false) → bit v (get_or (set y j ones32) i 0) ≡ true → SetSupport b s W i v
      sound i v m (inl e) t =
          let q = eqb-true i j e in
          rw q
          (record {
            row = row.0;
            small = row.2;
            set_row = and_l (is_set W s row.0) _ row.3;
            value = matches_any (value_at b s row.0 j) v (and_r (is_set W s row.0) _ row.3);
          })
      sound i v m (inr e) t = p.plain.sound i v m (rw (get_or-set_other y j i ones32 0 (eqb-false i j e)) at t)

      put : (i v : ℕ) → (eqb i j ≡ true) ⊎ (eqb i j ≡ false) → v < 32 → ((i ≡ j → ⊥) → bit v (get_or y i 0) ≡ true)
          → bit v (get_or (set y j ones32) i 0) ≡ true
      put i v (inl e) m g = let q = eqb-true i j e in rw (q, here) (ones_bit 32 v m)
      put i v (inr e) m g = let n = eqb-false i j e in rw (get_or-set_other y j i ones32 0 n) (g n)

-- ---- in the model's words: a sheet that allows its rows
module _ {b : List ℕ} {begin s : ℕ} (a : AtSheet b begin s) (plain : forbids_of b s ≡ false) where
  abbrev sheet : Sheet
  sheet = sheet_at (book_of b) s

  -- a value has support exactly when a valid row carries it
  pub row_supported : {D : List ℕ} → IsStore 16 D → (j v : ℕ) → j < width_of b s
      → (supported_in D (column_of b s j) v sheet ≡ true → ValidSupport D sheet j v) × (ValidSupport D sheet j v → supported_in D (column_of b s j) v sheet ≡ true)
  row_supported {D} d j v l =
      let k : j < length sheet.columns = omega (arith, columns_size a) in
      let p = supported_iff D (book_of b).counts d.bits sheet ((formed a).sheet sheet (sheet_in a)) j v k in
      let q = supports_by_rows D sheet (sheet_forbids a ∙ plain) j v k in
      rw (← column_value a j l) (λ e. q.0 (p.0 e), λ k. p.1 (q.1 k))

  -- a row that is valid in D and matches a value of D gives it support
  pub row_gives : {D : List ℕ} → IsStore 16 D → (r j v : ℕ) → j < width_of b s → valid_row D sheet r ≡ true → matches (value_at b s r j) v ≡ true
      → has D (column_of b s j) v ≡ true → supported_in D (column_of b s j) v sheet ≡ true
  row_gives {D} d r j v l e m t =
      (row_supported d j v l).1
      (record { row = r; is_valid = e; value = ap (λ (x : ℕ). matches x v) (row_value a r j (valid_e a D r e).0 l) ∙ m; there = rw (column_value a j l) t })

  -- and a value with support has such a row
  pub row_given : {D : List ℕ} → IsStore 16 D → (j v : ℕ) → j < width_of b s → supported_in D (column_of b s j) v sheet ≡ true
      → (r : ℕ) × (r < 512) × (valid_row D sheet r ≡ true) × (matches (value_at b s r j) v ≡ true)
  row_given {D} d j v l e =
      let u = (row_supported d j v l).0 e in
      let n = (valid_e a D u.row u.is_valid).0 in
      (u.row, omega (arith, n, rows_few a), u.is_valid, ap (λ (x : ℕ). matches x v) (sym (row_value a u.row j n l)) ∙ u.value)

  pub carried_supported : {W x y : List ℕ} → Supported b s W x y → FindsSupported b s W x y
  unfolding has
  carried_supported {W} {x} {y} h = record { at = λ D d w r j v l e. same_test _ _ (sound D d r j v l e) (complete D d w r j v l e) }
    where
      sound : (D : List ℕ) → IsStore 16 D → RowsAre b s D W → (j v : ℕ) → j < width_of b s → has D (column_of b s j) v ≡ true → bit v (get_or y j 0) ≡ true
          → supported_in D (column_of b s j) v (sheet_at (book_of b) s) ≡ true
      sound D d r j v l e t =
          let u = h.sound j v (omega (arith, (width_most a).1)) t in
          row_gives d u.row j v l (sym (r.at u.row u.small) ∙ u.set_row) u.value e

      complete : (D : List ℕ) → IsStore 16 D → Wanted b s D (width_of b s) x → RowsAre b s D W → (j v : ℕ) → j < width_of b s → has D (column_of b s j) v ≡ true
          → supported_in D (column_of b s j) v (sheet_at (book_of b) s) ≡ true → bit v (get_or y j 0) ≡ true
      complete D d w r j v l e t =
          let u = row_given d j v l t in
          h.complete j v (omega (arith, (width_most a).1)) (rw (w.at j l) e)
          (record { row = u.0; small = u.1; set_row = r.at u.0 u.1 ∙ u.2; value = u.3 })
