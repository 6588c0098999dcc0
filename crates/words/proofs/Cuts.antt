-- Laws of pass 1: one word cut, then all of them, then by each place. Assumes nothing.
-- ---- sets of rows
use mathlib.Core.Path.{◌∙◌, ◌≡◌, ap, refl, subst⁻¹, sym}
use mathlib.Core.Bool.{Bool, ◌&&◌, ◌||◌, false, true}
use mathlib.Core.Logic.{◌⊎◌, inl, inr}
use mathlib.Core.List.{List}
use Prim.Native.Nat.{◌%◌, ◌*◌, ◌+◌, ◌-◌, ◌/◌, ◌<◌, ◌^◌, ◌≤◌, suc, zero, ℕ}
use native.Mathlib.Numerals.{add-one}
use native.Mathlib.Omega.{arith}
use lib.Arith.{lt_of_le-ne}
use lib.Dec.{eqb}
use lib.ListN.{get_or, length, length-set, set}
use lib.Seq.{get_or-set_other, get_or-set_same}
use borrow.Author.Tests.{eq-eqb, eqb-false, eqb-true, ne_eqb}
use Rattle.model.specs.Books.{in_domain}
use Rattle.model.specs.Masks.{bit}
use Rattle.model.specs.States.{of_sheet}
use Rattle.model.specs.Tests.{all_below}
use Rattle.model.proofs.Masks.{bit_below, bit_of_zero, some_bit}
use Rattle.model.proofs.Tests.{all_below_last, and_assoc, and_l, and_true, below, either, or_false_l, or_false_r}
use Rattle.heads.specs.Heads.{column_of, rows_of}
use Rattle.counters.specs.Counters.{near_place}
use Rattle.cells.specs.Cells.{Kept, KeptInside, Readable, row_inside}
use Rattle.words.specs.Sheets.{AtSheet, CutBy, IndexOf, Inside, Keeps, OnlySheet, SheetWords, Sized, WordCut, WordKept, WordThere, is_set, passes_at, passes_below, swapped, value_at, value_in}
use Rattle.words.proofs.Indexes.{Where, index_dropped, index_kept, left, length-swapped, names_other, neither, of_set_other, of_set_same, of_swapped, of_swapped_other, other, other_left, other_lt, other_rest, other_right, past_limit, right, set_below, where_is}
use Rattle.words.proofs.Places.{block_there, cell_is, cell_there, eight}

pub row_word : (W : List ℕ) (s w k : ℕ) → k < 64 → is_set W s (64 * w + k) ≡ bit k (of_sheet W s w)
unfolding is_set
row_word W s w k l =
    let p : (64 * w + k) % 64 ≡ k = omega arith in
    let q : (64 * w + k) / 64 ≡ w = omega arith in
    rw (p, q)

-- a word's rows are there
word_readable : {b : List ℕ} {begin s : ℕ} → AtSheet b begin s → (W : List ℕ) → Inside b s W → (w : ℕ) → w < 8 → of_sheet W s w < 2 ^ 64
    → Readable b begin (64 * w) (of_sheet W s w)
word_readable {b} {begin} {s} a W h w l f =
    record { there = λ k e. cell_there a (64 * w + k) (row k e); cell = λ k j e p. cell_is a (64 * w + k) j (row k e) p }
  where
    row : (k : ℕ) → bit k (of_sheet W s w) ≡ true → 64 * w + k < rows_of b s
    row k e = let z = bit_below 64 (of_sheet W s w) k f e in h.at (64 * w + k) (omega arith) (row_word W s w k z ∙ e)

-- the first 60 rows of a word that is not zero lie in a block of the sheet
word_start : (w : ℕ) → w < 8 → 64 * w % 127 ≤ 67
word_start zero l = omega arith
word_start (suc zero) l = omega arith
word_start (suc (suc zero)) l = omega arith
word_start (suc (suc (suc zero))) l = omega arith
word_start (suc (suc (suc (suc zero)))) l = omega arith
word_start (suc (suc (suc (suc (suc zero))))) l = omega arith
word_start (suc (suc (suc (suc (suc (suc zero)))))) l = omega arith
word_start (suc (suc (suc (suc (suc (suc (suc zero))))))) l = omega arith
word_start (suc (suc (suc (suc (suc (suc (suc (suc w)))))))) l = absurd (omega arith)

word_there : {b : List ℕ} {begin s : ℕ} → AtSheet b begin s → (W : List ℕ) → Inside b s W → (w : ℕ) → w < 8 → of_sheet W s w < 2 ^ 64 → 0 < of_sheet W s w
    → near_place begin w + 239 < length b
word_there {b} {begin} {s} a W h w l f p =
    let k = some_bit 64 (of_sheet W s w) f p in
    let r : 64 * w + k.0 < rows_of b s = h.at (64 * w + k.0) (omega (arith, k.1)) (row_word W s w k.0 k.1 ∙ k.2) in
    let q : 64 * w < rows_of b s = omega arith in
    omega (arith, block_there a (64 * w) q, word_start w l)

-- both of the word at a position below the count
pub word_at : {b : List ℕ} {begin s : ℕ} → AtSheet b begin s → {W X N : List ℕ} → SheetWords b s W X N → {p w : ℕ} → p < get_or N s 0 → w ≡ of_sheet X s p
    → w < 8 → Readable b begin (64 * w) (of_sheet W s w) × (near_place begin w + 239 < length b)
word_at {b} {begin} {s} a {W} {X} {N} h {p} {w} l e k =
    let m : p < 8 = omega (arith, h.indexed.few) in
    let f : of_sheet W s w < 2 ^ 64 = h.sized.bits (8 * s + w) in
    (word_readable a W h.inside w k f, word_there a W h.inside w k f (rw e ((h.indexed.limit p m).0 l)))

-- with its rows
pub there_at : {b : List ℕ} {begin s : ℕ} → AtSheet b begin s → {W X N : List ℕ} → SheetWords b s W X N → {p w x : ℕ} → p < get_or N s 0
    → (w ≡ of_sheet X s p) × (x ≡ of_sheet W s w) × (w < 8) → WordThere b begin w x
there_at a h l e = let q = word_at a h l e.0 e.2 in record { few = e.2; rows = rw e.1 q.0; near = q.1 }

-- ---- what concerns one sheet alone
pub only_same : {s : ℕ} {W X N : List ℕ} → OnlySheet s W X N W X N
only_same = record { words = λ t i l n. refl; index = λ t i l n. refl; nonzero = λ t n. refl }

pub only_more : {s : ℕ} {W X N W' X' N' W'' X'' N'' : List ℕ} → OnlySheet s W X N W' X' N' → OnlySheet s W' X' N' W'' X'' N'' → OnlySheet s W X N W'' X'' N''
only_more p q =
    record {
      words = λ t i l n. q.words t i l n ∙ p.words t i l n;
      index = λ t i l n. q.index t i l n ∙ p.index t i l n;
      nonzero = λ t n. q.nonzero t n ∙ p.nonzero t n;
    }

-- ---- one word
module _ {b : List ℕ} {begin s : ℕ} (a : AtSheet b begin s) {W X N : List ℕ} (before : SheetWords b s W X N) {p : ℕ} (l : p < get_or N s 0)
    {w word : ℕ} (at_p : (w ≡ of_sheet X s p) × (word ≡ of_sheet W s w) × (w < 8)) {gives : ℕ → ℕ → ℕ → Type 0} {test : ℕ → Bool}
    (keeps : Keeps b begin gives test) {keep : ℕ} (given : gives w word keep) where
  h : IndexOf s W X N
  h = before.indexed

  size : Sized W X N
  size = before.sized

  small : p < 8
  small = omega (arith, h.few)

  ew : w ≡ of_sheet X s p
  ew = at_p.0

  w_small : w < 8
  w_small = at_p.2

  eword : word ≡ of_sheet W s w
  eword = at_p.1

  k : WordKept test w word keep
  k = keeps.at w word keep (there_at a before l at_p) given

  kept_here : (W' : List ℕ) → of_sheet W' s w ≡ keep → WordKept test (of_sheet X s p) (of_sheet W s (of_sheet X s p)) (of_sheet W' s (of_sheet X s p))
  kept_here W' e = rw (← ew, e, ← eword) k

  -- no row is cut
  pub word_uncut : keep ≡ word → WordCut test s p W X N W X N
  word_uncut e = record {
    word = kept_here W (sym eword ∙ sym e);
    rest = λ i q n. refl;
    before = λ i q. refl;
    after = λ i q r. (i, q, r, refl);
    indexed = h;
    limit = omega arith;
    only = only_same;
    sized = size;
  }

  module _ (keep-fits : keep < 2 ^ 64) where
    set_bits : (i : ℕ) → get_or (set W (8 * s + w) keep) i 0 < 2 ^ 64
    set_bits i = set_below W (8 * s + w) keep (2 ^ 64) keep-fits size.bits i

    here : of_sheet (set W (8 * s + w) keep) s w ≡ keep
    here = of_set_same W s w keep w_small (omega (arith, eight a, w_small, size.words))

    there : (t i : ℕ) → i < 8 → (t ≡ s → i ≡ w → ⊥) → of_sheet (set W (8 * s + w) keep) t i ≡ of_sheet W t i
    there t i q n = of_set_other W s w keep w_small t i q n

    rest_same : (i : ℕ) → i < 8 → (i ≡ of_sheet X s p → ⊥) → of_sheet (set W (8 * s + w) keep) s i ≡ of_sheet W s i
    rest_same i q n = there s i q (λ z e. n (e ∙ ew))

    -- some rows are left
    pub word_less : 0 < keep → WordCut test s p W X N (set W (8 * s + w) keep) X N
    word_less q = record {
      word = kept_here (set W (8 * s + w) keep) here;
      rest = rest_same;
      before = λ i r. refl;
      after = λ i r z. (i, r, z, refl);
      indexed = index_kept h p l (of_sheet (set W (8 * s + w) keep) s) rest_same (rw (← ew, here) q);
      limit = omega arith;
      only = record { words = λ t i r n. there t i r (λ z e. n z); index = λ t i r n. refl; nonzero = λ t n. refl };
      sized = record { words = length-set W (8 * s + w) keep ∙ size.words; bits = set_bits; index = size.index; nonzero = size.nonzero };
    }

    -- none is left
    pub word_zero : keep ≡ 0 → WordCut test s p W X N (set W (8 * s + w) keep) (swapped X (8 * s + p) (8 * s + (get_or N s 0 - 1))) (set N s (get_or N s 0 - 1))
    word_zero z = record {
      word = kept_here (set W (8 * s + w) keep) here;
      rest = rest_same;
      before = λ i r. of_swapped X s p q small q_small there_x i ∙ ap (of_sheet X s) (other_rest p q i (λ e. omega arith) (λ e. omega arith));
      after = λ i r y. (other p q i, from i r, other_lt p q i 8 small q_small y, of_swapped X s p q small q_small there_x i);
      indexed =
          rw (get_or-set_same N s q 0 (omega (arith, eight a, size.nonzero)))
          (index_dropped h p l (of_sheet (set W (8 * s + w) keep) s) rest_same (ap (of_sheet (set W (8 * s + w) keep) s) (sym ew) ∙ here ∙ z)
          (of_sheet (swapped X (8 * s + p) (8 * s + q)) s) (of_swapped X s p q small q_small there_x));
      limit = rw (get_or-set_same N s q 0 (omega (arith, eight a, size.nonzero))) (omega arith);
      only = record {
        words = λ t i r n. there t i r (λ y e. n y);
        index = λ t i r n. of_swapped_other X s p q small q_small there_x t i r n;
        nonzero = λ t n. get_or-set_other N s t q 0 n;
      };
      sized = record {
        words = length-set W (8 * s + w) keep ∙ size.words;
        bits = set_bits;
        index = length-swapped X (8 * s + p) (8 * s + q) ∙ size.index;
        nonzero = length-set N s q ∙ size.nonzero;
      };
    }
      where
        q : ℕ
        q = get_or N s 0 - 1

        q_small : q < 8
        q_small = omega (arith, h.few)

        there_x : 8 * s + 8 ≤ length X
        there_x = omega (arith, eight a, size.index)

        from : (i : ℕ) → p ≤ i → p ≤ other p q i
        from i r = go (where_is p q i)
          where
            go : Where p q i → p ≤ other p q i
            go (left e) = rw (e, other_left p q) (omega arith)
            go (right e) = rw (e, other_right p q) (omega arith)
            go (neither m n) = rw (other_rest p q i m n) r

-- the two tests: a cell in a set, and every cell in its own
pub word_kept : {b : List ℕ} {begin s : ℕ} → AtSheet b begin s → {w j d word keep : ℕ} → Kept b begin (64 * w) j d word keep → WordKept (value_in b s j d) w word keep
unfolding value_in
word_kept a k = record { at = rw a.begins at k.at }

pub word_inside : {b x : List ℕ} {begin w word keep : ℕ} → KeptInside b begin (64 * w) x word keep → WordKept (row_inside b begin x) w word keep
word_inside k = record { at = k.at }

-- ---- all words of a sheet, from the limit down
-- those at positions from p on are cut, those before are as they were
pub record Cutting (test : ℕ → Bool) (s p : ℕ) (W X N W' X' N' : List ℕ) (any : Bool) : Type 0 where
  pub done : (i : ℕ) → p ≤ i → i < 8 → WordKept test (of_sheet X' s i) (of_sheet W s (of_sheet X' s i)) (of_sheet W' s (of_sheet X' s i))
  pub todo : (i : ℕ) → i < p → of_sheet W' s (of_sheet X' s i) ≡ of_sheet W s (of_sheet X' s i)
  pub indexed : IndexOf s W' X' N'
  pub limit : p ≤ get_or N' s 0
  pub only : OnlySheet s W X N W' X' N'
  pub sized : Sized W' X' N'
  pub same : any ≡ false → W' ≡ W

kept_none : {test : ℕ → Bool} {w x y : ℕ} → x ≡ 0 → y ≡ 0 → WordKept test w x y
kept_none e f = record { at = λ k. rw (e, f, bit_of_zero) }

pub cutting_start : {b : List ℕ} (test : ℕ → Bool) {s n : ℕ} {W X N : List ℕ} {any : Bool} → SheetWords b s W X N → n ≡ get_or N s 0 → Cutting test s n W X N W X N any
cutting_start test h e =
    record {
      done = λ i q l. let y = past_limit h.indexed i l (omega arith) in kept_none y y;
      todo = λ i q. refl;
      indexed = h.indexed;
      limit = omega arith;
      only = only_same;
      sized = h.sized;
      same = λ e. refl;
    }

module _ {test : ℕ → Bool} {s : ℕ} {W X N W' X' N' : List ℕ} where
  pub cutting_more : {p : ℕ} {W'' X'' N'' : List ℕ} {any r : Bool} → Cutting test s (p + 1) W X N W' X' N' any
      → WordCut test s p W' X' N' W'' X'' N'' → (r ≡ false → W'' ≡ W') → Cutting test s p W X N W'' X'' N'' (any || r)
  cutting_more {p} {W''} {X''} {N''} {any} {r} h c same = record {
    done = λ i q l. let f = c.after i q l in subst⁻¹ made f.3 (at_old f.0 f.1 f.2 (either (eqb f.0 p)));
    todo = λ i q.
        ap (of_sheet W'' s) (c.before i q)
        ∙ c.rest (of_sheet X' s i) (h.indexed.each i (omega (arith, small))) (names_other h.indexed p under i (omega (arith, small)) (λ e. omega arith))
        ∙ h.todo i (omega arith)
        ∙ ap (of_sheet W s) (sym (c.before i q));
    indexed = c.indexed;
    limit = c.limit;
    only = only_more h.only c.only;
    sized = c.sized;
    same = λ e. same (or_false_r any r e) ∙ h.same (or_false_l any r e);
  }
    where
      small : p < 8
      small = omega (arith, h.limit, h.indexed.few)

      under : p < get_or N' s 0
      under = omega (arith, h.limit)

      made : ℕ → Type 0
      made w = WordKept test w (of_sheet W s w) (of_sheet W'' s w)

      at_old : (k : ℕ) → p ≤ k → k < 8 → (eqb k p ≡ true) ⊎ (eqb k p ≡ false) → made (of_sheet X' s k)
      at_old k q l (inl e) = let z = eqb-true k p e in rw (z, ← h.todo p (omega arith)) c.word
      at_old k q l (inr e) =
          let n = eqb-false k p e in
          rw (c.rest (of_sheet X' s k) (h.indexed.each k l) (names_other h.indexed p under k l n))
          (h.done k (let z : p < k = lt_of_le-ne q (λ x. n (sym x)) in omega arith) l)

  -- every word that was there is cut to a part of itself
  pub cutting_word : {p : ℕ} {any : Bool} → Cutting test s p W X N W' X' N' any → (w k : ℕ) → w < 8 → bit k (of_sheet W' s w) ≡ true → bit k (of_sheet W s w) ≡ true
  cutting_word {p} h w k l e = let f = h.indexed.every w l in rw (← f.2) (go f.0 f.1 (below f.0 p) (rw f.2 e))
    where
      go : (i : ℕ) → i < 8 → (i < p) ⊎ (p ≤ i) → bit k (of_sheet W' s (of_sheet X' s i)) ≡ true → bit k (of_sheet W s (of_sheet X' s i)) ≡ true
      go i m (inl q) x = ap (bit k) (sym (h.todo i q)) ∙ x
      go i m (inr q) x = and_l (bit k (of_sheet W s (of_sheet X' s i))) _ (sym ((h.done i q m).at k) ∙ x)

  pub cutting_words : {b : List ℕ} {p : ℕ} {any : Bool} → Cutting test s p W X N W' X' N' any → SheetWords b s W X N → SheetWords b s W' X' N'
  unfolding is_set
  cutting_words h i = record {
    inside = record { at = λ r l e. i.inside.at r l (cutting_word h (r / 64) (r % 64) (omega arith) e) };
    indexed = h.indexed;
    sized = h.sized;
  }

  pub cutting_end : {any : Bool} → Cutting test s 0 W X N W' X' N' any → CutBy test s W X N W' X' N'
  unfolding is_set
  cutting_end h = record {
    at = λ r l.
        let f = h.indexed.every (r / 64) (omega arith) in
        let e : 64 * (r / 64) + r % 64 ≡ r = omega arith in
        (rw f.2 at ((h.done f.0 (omega arith) f.1).at (r % 64))) ∙ ap (λ (i : ℕ). bit (r % 64) (of_sheet W s (r / 64)) && test i) e;
    indexed = h.indexed;
    only = h.only;
    sized = h.sized;
  }

-- ---- place by place
pub cut_words : {b : List ℕ} {test : ℕ → Bool} {s : ℕ} {W X N W' X' N' : List ℕ} → CutBy test s W X N W' X' N' → SheetWords b s W X N → SheetWords b s W' X' N'
cut_words c i =
    record { inside = record { at = λ r l e. i.inside.at r l (and_l _ _ (sym (c.at r l) ∙ e)) }; indexed = c.indexed; sized = c.sized }

-- no place, no cut
pub cut_none : (b : List ℕ) (s changed : ℕ) (D W X N : List ℕ) → SheetWords b s W X N → CutBy (passes_below b s changed D 0) s W X N W X N
unfolding passes_below all_below
cut_none b s changed D W X N h = record { at = λ r l. sym (and_true (is_set W s r)); indexed = h.indexed; only = only_same; sized = h.sized }

pub cut_more : (b : List ℕ) (s changed n : ℕ) (D : List ℕ) {W X N W' X' N' W'' X'' N'' : List ℕ} → CutBy (passes_below b s changed D n) s W X N W' X' N'
    → CutBy (passes_at b s changed D n) s W' X' N' W'' X'' N'' → CutBy (passes_below b s changed D (n + 1)) s W X N W'' X'' N''
unfolding passes_below
cut_more b s changed n D {W} c e =
    record {
      at = λ r l.
          e.at r l
          ∙ ap (λ (t : Bool). t && passes_at b s changed D n r) (c.at r l)
          ∙ sym (and_assoc (is_set W s r) (all_below n (λ j. passes_at b s changed D j r)) (passes_at b s changed D n r))
          ∙ ap (λ (t : Bool). is_set W s r && t) (sym (rw add-one (all_below_last n (λ j. passes_at b s changed D j r))));
      indexed = e.indexed;
      only = only_more c.only e.only;
      sized = e.sized;
    }

-- a column that did not change cuts nothing
pub cut_unchanged : (b : List ℕ) (s changed j : ℕ) (D W X N : List ℕ) → SheetWords b s W X N → bit (column_of b s j) changed ≡ false
    → CutBy (passes_at b s changed D j) s W X N W X N
unfolding passes_at
cut_unchanged b s changed j D W X N h e =
    record { at = λ r l. rw e (sym (and_true (is_set W s r))); indexed = h.indexed; only = only_same; sized = h.sized }

-- one that changed cuts by its domain
pub cut_changed : (b : List ℕ) (s changed j d : ℕ) (D : List ℕ) {W X N W' X' N' : List ℕ} → bit (column_of b s j) changed ≡ true → d ≡ get_or D (column_of b s j) 0
    → CutBy (value_in b s j d) s W X N W' X' N' → CutBy (passes_at b s changed D j) s W X N W' X' N'
unfolding passes_at value_in
cut_changed b s changed j d D {W} e f c =
    record { at = λ r l. rw e (c.at r l ∙ ap (λ (x : ℕ). is_set W s r && in_domain (value_at b s r j) x) f); indexed = c.indexed; only = c.only; sized = c.sized }

-- ---- what the code tests
pub bit_is : (c k m : ℕ) → c ≡ k → m / 2 ^ c % 2 ≡ 1 → bit k m ≡ true
unfolding bit
bit_is c k m e f = rw (← e) (eq-eqb (m / 2 ^ c % 2) 1 f)

pub bit_not : (c k m : ℕ) → c ≡ k → (m / 2 ^ c % 2 ≡ 1 → ⊥) → bit k m ≡ false
unfolding bit
bit_not c k m e f = rw (← e) (ne_eqb (m / 2 ^ c % 2) 1 f)
