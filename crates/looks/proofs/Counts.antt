-- Laws of a forbidden sheet's values, counted by the words of its index: what is counted, the choices for the other places, and that a value has support exactly
-- when it is not full. Assumes nothing.
use mathlib.Core.Path.{◌∙◌, ◌≡◌, ap, ap₂, refl, sym}
use mathlib.Core.Bool.{Bool, ◌&&◌, cond, false, not, or-false, true}
use mathlib.Core.Logic.{◌⊎◌, inl, inr}
use mathlib.Core.List.{List, [], ◌∷◌}
use Prim.Native.Nat.{◌%◌, ◌*◌, ◌+◌, ◌/◌, ◌<◌, ◌^◌, ◌≤◌, suc, zero, ℕ}
use native.Mathlib.Nat.{mul_assoc, mul-one}
use native.Mathlib.Numerals.{add-one}
use native.Mathlib.Omega.{arith}
use lib.Bits.{bit_or}
use lib.Count.{ones}
use lib.Dec.{eqb, ltb}
use lib.ListN.{get_or-eq_default, get_or, length, length-replicate, replicate}
use lib.Seq.{ext_get_or}
use borrow.Author.Tests.{eq-eqb, eqb-false, eqb-true, lt-ltb, ne_eqb, not-true}
use Rattle.model.specs.Books.{Sheet, sheet_at, supported_in}
use Rattle.model.specs.Choices.{pick, space, space_but}
use Rattle.model.specs.Masks.{Cleared, bit, size}
use Rattle.model.specs.States.{choices_but, of_sheet}
use Rattle.model.specs.Stores.{IsStore, has}
use Rattle.model.specs.Tests.{count, sum, tab}
use Rattle.model.proofs.Choices.{get_or-pick, length-pick}
use Rattle.model.proofs.Counting.{Numbered, counted_from, counted_most, counted_to}
use Rattle.model.proofs.Masks.{bit_below, bit_high, bit_of_zero, bit-or, bit_pow, bit_pow_other}
use Rattle.model.proofs.Settling.{supported_iff}
use Rattle.model.proofs.Tallies.{count_le, count_more, count_ones, count_same}
use Rattle.model.proofs.Tests.{and_i, and_l, and_r, and_true, below, either, get_or-tab, length-tab, or_r, same_test, zeros_at}
use Rattle.book.specs.Decoding.{book_of}
use Rattle.heads.specs.Heads.{column_of, forbids_of, width_of}
use Rattle.cells.specs.Cells.{SmallSets, cell_at}
use Rattle.tally.specs.Tallies.{Counted, Counts, count_at, places_of, rows_with}
use Rattle.tally.proofs.Tallies.{places_fit, rows_most}
use Rattle.cells.proofs.Walks.{Part, four_all}
use Rattle.words.specs.Sheets.{AtSheet, FindsSupported, RowsAre, SheetWords, Sized, Wanted, first_byte, is_set, rows_to, value_at}
use Rattle.words.proofs.Gathers.{at_position, word_row}
use Rattle.words.proofs.Places.{column_value, columns_size, formed, row_value, rows_few, sheet_forbids, sheet_in, valid_e, width_most, forbidden_value}
use Rattle.words.proofs.Indexes.{passes}
use Rattle.looks.specs.Counts.{CountsTo, Fewer, NoneAbove, NotFull, NotFullTo, Others, Unfilled, others_of, values_to}

-- ---- the words in turn
values_next : (b : List ℕ) (s : ℕ) (W X : List ℕ) (j v n : ℕ)
    → values_to b s W X j v n + rows_with b (first_byte b s) (64 * of_sheet X s n) (of_sheet W s (of_sheet X s n)) j v ≡ values_to b s W X j v (n + 1)
unfolding values_to
values_next b s W X j v n = ap (values_to b s W X j v) (sym (add-one n))

cond_zero : (t : Bool) → ◌≡◌ {A = ℕ} 0 (cond t 0 0)
cond_zero true = refl
cond_zero false = refl

pub counts_none : (k : ℕ) (b : List ℕ) (s : ℕ) (W X : List ℕ) {C : List ℕ} → C ≡ replicate 128 0 → CountsTo k b s W X 0 C
unfolding values_to
counts_none k b s W X e = record {
  size = ap length e ∙ length-replicate {A = ℕ} 128 0;
  at = λ j v l m. ap (λ (x : List ℕ). count_at x j v) e ∙ zeros_at 128 (32 * j + v) ∙ cond_zero (ltb j (places_of k));
}

pub counts_more : {k : ℕ} {b : List ℕ} {begin s p w word : ℕ} {W X C C' : List ℕ} → begin ≡ first_byte b s → w ≡ of_sheet X s p → word ≡ of_sheet W s w
    → CountsTo k b s W X p C → Counted k b begin (64 * w) word C C' → CountsTo k b s W X (p + 1) C'
counts_more {k} {b} {begin} {s} {p} {w} {word} {W} {X} eb ew eo h g = record {
  size = g.size;
  at = λ j v l m.
      g.at j v l m
      ∙ ap (λ (n : ℕ). n + cond (ltb j (places_of k)) (rows_with b begin (64 * w) word j v) 0) (h.at j v l m)
      ∙ both (ltb j (places_of k)) (values_to b s W X j v p) (rows_with b begin (64 * w) word j v)
      ∙ ap (λ (n : ℕ). cond (ltb j (places_of k)) n 0) (more j v);
}
  where
    both : (t : Bool) (m n : ℕ) → cond t m 0 + cond t n 0 ≡ cond t (m + n) 0
    both true m n = refl
    both false m n = refl

    more : (j v : ℕ) → values_to b s W X j v p + rows_with b begin (64 * w) word j v ≡ values_to b s W X j v (p + 1)
    more j v = rw (eo, ew, eb) (values_next b s W X j v p)

values_most : (b : List ℕ) (s : ℕ) (W X : List ℕ) (j v n : ℕ) → values_to b s W X j v n ≤ 64 * n
unfolding values_to
values_most b s W X j v zero = omega arith
values_most b s W X j v (suc n) =
    omega (arith, values_most b s W X j v n, rows_most b (first_byte b s) (64 * of_sheet X s n) (of_sheet W s (of_sheet X s n)) j v)

-- there is room for a word more
cond_most : (t : Bool) (n : ℕ) → cond t n 0 ≤ n
cond_most true n = omega arith
cond_most false n = omega arith

pub counts_room : {k : ℕ} {b : List ℕ} {s p : ℕ} {W X C : List ℕ} → CountsTo k b s W X p C → p < 8 → Counts 448 C
counts_room {k} {b} {s} {p} {W} {X} {C} h l = record { size = h.size; most = λ i. go i (below i 128) }
  where
    go : (i : ℕ) → (i < 128) ⊎ (128 ≤ i) → get_or C i 0 ≤ 448
    go i (inl m) =
        let z : 32 * (i / 32) + i % 32 ≡ i = omega arith in
        omega (arith, rw z at (h.at (i / 32) (i % 32) (omega arith) (omega arith)), values_most b s W X (i / 32) (i % 32) p, cond_most (ltb (i / 32) (places_of k)) (values_to b s W X (i / 32) (i % 32) p))
    go i (inr m) = omega (arith, get_or-eq_default C 0 {n = i} (omega (arith, h.size)))

-- no more rows have a value than are set
values_rows : {W X N : List ℕ} → Sized W X N → (b : List ℕ) (s j v n : ℕ) → values_to b s W X j v n ≤ rows_to W X s n
unfolding values_to rows_to
values_rows z b s j v zero = omega arith
values_rows {W} {X} z b s j v (suc n) =
    let word = of_sheet W s (of_sheet X s n) in
    omega (
      arith,
      values_rows z b s j v n,
      count_ones 64 word (z.bits (8 * s + of_sheet X s n)),
      count_le 64 (λ k. bit k word && eqb (cell_at b (first_byte b s) (64 * of_sheet X s n + k) j % 32) v) (λ k. bit k word) (λ k l e. and_l (bit k word) _ e),
    )

pub none_above : {k : ℕ} {b : List ℕ} {s n rows : ℕ} {W X N C : List ℕ} → Sized W X N → CountsTo k b s W X n C → rows ≡ rows_to W X s n → NoneAbove rows C
none_above {k} {b} {s} {n} {W = W} {X = X} z h e = record {
  size = h.size;
  at = λ j v l m. omega (arith, h.at j v l m, values_rows z b s j v n, cond_most (ltb j (places_of k)) (values_to b s W X j v n));
}

-- ---- the values of a place that are not full
-- v is looked at: it goes into what is kept, or not
pub record Keeping (C : List ℕ) (j choices d left keep : ℕ) : Type 0 where
  pub at : (v : ℕ) → bit v keep ≡ ((bit v d && not (bit v left)) && not (eqb (count_at C j v) choices))

-- a value that is taken of those that are left
pub value_left : {left rest d v : ℕ} → d < 2 ^ 32 → Part left d → Cleared left rest v → v < 32
value_left {v = v} l p c = bit_below 32 _ v l (p.at v c.here)

pub keeping_start : (C : List ℕ) (j choices d : ℕ) → Keeping C j choices d d 0
keeping_start C j choices d = record { at = λ v. bit_of_zero v ∙ sym (ap (λ (t : Bool). t && not (eqb (count_at C j v) choices)) (never (bit v d))) }
  where
    never : (t : Bool) → (t && not t) ≡ false
    never true = refl
    never false = refl

pub keeping_turn : {C : List ℕ} {j choices d left next keep keep' v : ℕ} → Keeping C j choices d left keep → Part left d → Cleared left next v
    → keep' ≡ cond (eqb (count_at C j v) choices) keep (bit_or keep (2 ^ v)) → Keeping C j choices d next keep'
keeping_turn {C} {j} {choices} {d} {left} {next} {keep} {keep'} {v} h p c e = record { at = λ u. go u (either (eqb u v)) (either (eqb (count_at C j v) choices)) }
  where
    here : bit v d ≡ true
    here = p.at v c.here

    go : (u : ℕ) → (eqb u v ≡ true) ⊎ (eqb u v ≡ false) → (eqb (count_at C j v) choices ≡ true) ⊎ (eqb (count_at C j v) choices ≡ false)
        → bit u keep' ≡ ((bit u d && not (bit u next)) && not (eqb (count_at C j u) choices))
    go u (inl z) (inl f) =
        let y : u ≡ v = eqb-true u v z in
        let k : keep' ≡ keep = e ∙ rw f in
        rw (y, k, f) (h.at v ∙ rw (f, here, c.here, c.gone) refl)
    go u (inl z) (inr f) =
        let y : u ≡ v = eqb-true u v z in
        let k : keep' ≡ bit_or keep (2 ^ v) = e ∙ rw f in
        rw (y, k, f, here, c.gone, bit-or v keep (2 ^ v), bit_pow v) (or_r (bit v keep) true refl)
    go u (inr z) (inl f) =
        let n : u ≡ v → ⊥ = eqb-false u v z in
        let k : keep' ≡ keep = e ∙ rw f in
        rw (k, c.rest u n) (h.at u)
    go u (inr z) (inr f) =
        let n : u ≡ v → ⊥ = eqb-false u v z in
        let k : keep' ≡ bit_or keep (2 ^ v) = e ∙ rw f in
        rw (k, c.rest u n, bit-or u keep (2 ^ v), bit_pow_other v u n) (or-false (bit u keep) ∙ h.at u)

pub keeping_end : {C : List ℕ} {j choices d keep : ℕ} → Keeping C j choices d 0 keep → NotFull C j choices d keep
keeping_end {C} {j} {choices} {d} h = record { at = λ v. h.at v ∙ rw (bit_of_zero v) (ap (λ (t : Bool). t && not (eqb (count_at C j v) choices)) (and_true (bit v d))) }

-- rows fewer than the choices: no value is full
pub none_full : {C : List ℕ} {j rows choices d : ℕ} → j < 4 → d < 2 ^ 32 → NoneAbove rows C → rows < choices → NotFull C j choices d d
none_full {C} {j} {rows} {choices} {d} l f h m = record { at = λ v. go v (below v 32) }
  where
    go : (v : ℕ) → (v < 32) ⊎ (32 ≤ v) → bit v d ≡ (bit v d && not (eqb (count_at C j v) choices))
    go v (inl k) =
        let e : eqb (count_at C j v) choices ≡ false = ne_eqb (count_at C j v) choices (λ q. omega (arith, h.at j v l k)) in
        rw e (sym (and_true (bit v d)))
    go v (inr k) = rw (bit_high 32 d v f k)

-- ---- together
-- values from 32 on are in no set
past : {x : List ℕ} → SmallSets x → (j v : ℕ) → 32 ≤ v → (t : Bool) → (bit v (get_or x j 0) && t) ≡ false
past {x} small j v l t = rw (bit_high 32 (get_or x j 0) v (small.fits j) l)

module _ {b : List ℕ} {s n : ℕ} {W X N x : List ℕ} (z : Sized W X N) (small : SmallSets x) where
  pub unfilled_counted : (k : ℕ) {C o y : List ℕ} → CountsTo k b s W X n C → Others x o → NotFullTo C o x 4 y → Unfilled b s W X n x (places_of k) y
  unfilled_counted k {C} {o} {y} c q h = record { at = λ j v l. h.at j v (four j l) ∙ go j v (four j l) l (below v 32) }
    where
      four : (j : ℕ) → j < places_of k → j < 4
      four j l = omega (arith, (places_fit k).0)

      go : (j v : ℕ) → j < 4 → j < places_of k → (v < 32) ⊎ (32 ≤ v) → (bit v (get_or x j 0) && not (eqb (count_at C j v) (get_or o j 0)))
          ≡ (bit v (get_or x j 0) && not (eqb (values_to b s W X j v n) (others_of x j)))
      go j v l i (inl m) = rw (c.at j v l m, lt-ltb j (places_of k) i, q.at j l)
      go j v l i (inr m) = past small j v m (not (eqb (count_at C j v) (get_or o j 0))) ∙ sym (past small j v m (not (eqb (values_to b s W X j v n) (others_of x j))))

  pub unfilled_few : {m : ℕ} {o : List ℕ} → Others x o → rows_to W X s n ≤ m → Fewer m o → Unfilled b s W X n x 4 x
  unfilled_few {m} {o} q l f = record { at = go }
    where
      go : (j v : ℕ) → j < 4 → bit v (get_or x j 0) ≡ (bit v (get_or x j 0) && not (eqb (values_to b s W X j v n) (others_of x j)))
      go j v k =
          let ne : eqb (values_to b s W X j v n) (others_of x j) ≡ false = ne_eqb (values_to b s W X j v n) (others_of x j) (λ t. omega (arith, values_rows z b s j v n, f.at j k, q.at j k)) in
          rw ne (sym (and_true (bit v (get_or x j 0))))

-- ---- the choices for the other places
-- of the sets f below k, where the others have one value
four_choices : (f : ℕ → ℕ) (k : ℕ) → 1 ≤ k → k ≤ 4 → ((j : ℕ) → k ≤ j → j < 4 → size (f j) ≡ 1) → (x : List ℕ) → ((j : ℕ) → j < 4 → get_or x j 0 ≡ f j)
    → (j : ℕ) → j < k → others_of x j ≡ space_but j (tab k f)
unfolding others_of space space_but tab
four_choices f k l m one x e j p = rw (e 0 (omega arith), e 1 (omega arith), e 2 (omega arith), e 3 (omega arith)) (go k j l m one p)
  where
    go : (k j : ℕ) → 1 ≤ k → k ≤ 4 → ((j : ℕ) → k ≤ j → j < 4 → size (f j) ≡ 1) → j < k
        → cond (eqb j 0) (size (f 1) * size (f 2) * size (f 3))
        (cond (eqb j 1) (size (f 0) * size (f 2) * size (f 3)) (cond (eqb j 2) (size (f 0) * size (f 1) * size (f 3)) (size (f 0) * size (f 1) * size (f 2))))
        ≡ space_but j (tab k f)
    go zero j a b o p = absurd (omega arith)
    go (suc zero) zero a b o p = rw (o 1 (omega arith) (omega arith), o 2 (omega arith) (omega arith), o 3 (omega arith) (omega arith)) refl
    go (suc zero) (suc j) a b o p = absurd (omega arith)
    go (suc (suc zero)) zero a b o p = rw (o 2 (omega arith) (omega arith), o 3 (omega arith) (omega arith), mul-one, mul-one) refl
    go (suc (suc zero)) (suc zero) a b o p = rw (o 2 (omega arith) (omega arith), o 3 (omega arith) (omega arith), mul-one, mul-one) refl
    go (suc (suc zero)) (suc (suc j)) a b o p = absurd (omega arith)
    go (suc (suc (suc zero))) zero a b o p = rw (o 3 (omega arith) (omega arith), mul-one, mul-one) refl
    go (suc (suc (suc zero))) (suc zero) a b o p = rw (o 3 (omega arith) (omega arith), mul-one, mul-one) refl
    go (suc (suc (suc zero))) (suc (suc zero)) a b o p = rw (o 3 (omega arith) (omega arith), mul-one, mul-one) refl
    go (suc (suc (suc zero))) (suc (suc (suc j))) a b o p = absurd (omega arith)
    go (suc (suc (suc (suc zero)))) zero a b o p = rw (mul-one) (mul_assoc (size (f 1)) (size (f 2)) (size (f 3)))
    go (suc (suc (suc (suc zero)))) (suc zero) a b o p = rw (mul-one) (mul_assoc (size (f 0)) (size (f 2)) (size (f 3)))
    go (suc (suc (suc (suc zero)))) (suc (suc zero)) a b o p = rw (mul-one) (mul_assoc (size (f 0)) (size (f 1)) (size (f 3)))
    go (suc (suc (suc (suc zero)))) (suc (suc (suc zero))) a b o p = rw (mul-one) (mul_assoc (size (f 0)) (size (f 1)) (size (f 2)))
    go (suc (suc (suc (suc zero)))) (suc (suc (suc (suc j)))) a b o p = absurd (omega arith)
    go (suc (suc (suc (suc (suc k))))) j a b o p = absurd (omega arith)

module _ {b : List ℕ} {begin s : ℕ} (a : AtSheet b begin s) where
  abbrev sheet : Sheet
  sheet = sheet_at (book_of b) s

  one_value : size 1 ≡ 1
  unfolding count sum bit
  one_value = refl

  choices_same : {D x : List ℕ} → Wanted b s D (width_of b s) x → (j : ℕ) → j < width_of b s → others_of x j ≡ choices_but D sheet j
  choices_same {D} {x} w j l =
      four_choices (λ i. get_or x i 0) (width_of b s) (width_most a).0 (width_most a).1 (λ i p q. ap size (w.rest i p q) ∙ one_value) x (λ i p. refl) j l
      ∙ ap (space_but j) (sym places)
    where
      places : pick D (sheet_at (book_of b) s).columns ≡ tab (width_of b s) (λ i. get_or x i 0)
      places =
          ext_get_or 0 _ _ (length-pick D sheet.columns ∙ columns_size a ∙ sym (length-tab (width_of b s) (λ i. get_or x i 0)))
          (λ i p.
          let k : i < length sheet.columns = rw (length-pick D sheet.columns) at p in
          let m : i < width_of b s = omega (arith, columns_size a) in
          get_or-pick D sheet.columns i k ∙ ap (λ (c : ℕ). get_or D c 0) (column_value a i m) ∙ sym (w.at i m) ∙ sym (get_or-tab 0 (width_of b s) (λ i. get_or x i 0) i m))

  -- ---- the rows, numbered by the position of their word in the index
  module _ (f : forbids_of b s ≡ true) {W X N : List ℕ} (h : SheetWords b s W X N) {D : List ℕ} (r : RowsAre b s D W) where
    -- the row of number q
    abbrev row_of : ℕ → ℕ
    row_of q = 64 * of_sheet X s (q / 64) + q % 64

    abbrev with : ℕ → ℕ → ℕ → Bool
    with j v q = passes h.sized s q && eqb (value_at b s (row_of q) j % 32) v

    -- a value of the sheet is its last five bits
    low : (q j : ℕ) → q < 512 → is_set W s q ≡ true → j < width_of b s → value_at b s q j % 32 ≡ value_at b s q j
    low q j l e m = let v = forbidden_value a f q j (h.inside.at q l e) m in omega arith

    values-count : (j v n : ℕ) → count (64 * n) (with j v) ≡ values_to b s W X j v n
    unfolding values_to count sum
    values-count j v zero = refl
    values-count j v (suc n) =
        let e : 64 * suc n ≡ 64 * n + 64 = omega arith in
        rw e (count_more (64 * n) 64 (with j v) ∙ ap₂ ◌+◌ (values-count j v n) (count_same 64 _ _ same))
      where
        same : (k : ℕ) → k < 64 → with j v (64 * n + k)
            ≡ (bit k (of_sheet W s (of_sheet X s n)) && eqb (cell_at b (first_byte b s) (64 * of_sheet X s n + k) j % 32) v)
        same k l =
            let p : (64 * n + k) % 64 ≡ k = omega arith in
            let q : (64 * n + k) / 64 ≡ n = omega arith in
            rw (p, q)

    -- a number below the limit stands for a row that is set
    set-number : (q : ℕ) → q < 64 * get_or N s 0 → passes h.sized s q ≡ true → (row_of q < 512) × (is_set W s (row_of q) ≡ true)
    set-number q l e = word_row a h (of_sheet X s (q / 64)) (q % 64) (h.indexed.each (q / 64) (omega (arith, h.indexed.few))) e

    numbered : (j v : ℕ) → j < width_of b s → Numbered D sheet j v (64 * get_or N s 0) (with j v) row_of
    numbered j v m =
        record {
          valid = λ q l e. let u = set-number q l (and_l (passes h.sized s q) _ e) in sym (r.at (row_of q) u.0) ∙ u.1;
          value = λ q l e.
              let u = set-number q l (and_l (passes h.sized s q) _ e) in
              row_value a (row_of q) j (h.inside.at (row_of q) u.0 u.1) m
              ∙ sym (low (row_of q) j u.0 u.1 m)
              ∙ eqb-true _ v (and_r (passes h.sized s q) _ e);
          once = λ q t l k e g y.
              let i = h.indexed.once (q / 64) (t / 64) (omega (arith, h.indexed.few)) (omega (arith, h.indexed.few)) (omega arith) in
              omega arith;
          every = λ t e g.
              let n = (valid_e a D t e).0 in
              let k : t < 512 = omega (arith, n, rows_few a) in
              let y : is_set W s t ≡ true = r.at t k ∙ e in
              let i = at_position a h t k y in
              let q = 64 * i.0 + t % 64 in
              let eq : q / 64 ≡ i.0 = omega arith in
              let er : q % 64 ≡ t % 64 = omega arith in
              let back : 64 * of_sheet X s i.0 + t % 64 ≡ t = omega (arith, i.2) in (
                q,
                omega (arith, i.1),
                rw (eq, er) (and_i i.3 (rw back (eq-eqb _ v (low t j k y m ∙ sym (row_value a t j n m) ∙ g)))),
                rw (eq, er) back,
              );
        }

  -- ---- in the model's words: a sheet that forbids its rows
  pub unfilled_supported : forbids_of b s ≡ true → {W X N x y : List ℕ} {k : ℕ} → width_of b s ≤ k → SheetWords b s W X N → Unfilled b s W X (get_or N s 0) x k y
      → FindsSupported b s W x y
  unfolding has
  unfilled_supported f {W} {X} {N} {x} {y} narrow h u = record { at = at }
    where
      at : (D : List ℕ) → IsStore 16 D → Wanted b s D (width_of b s) x → RowsAre b s D W → (j v : ℕ) → j < width_of b s → has D (column_of b s j) v ≡ true
          → bit v (get_or y j 0) ≡ supported_in D (column_of b s j) v (sheet_at (book_of b) s)
      at D d w r j v l e =
          let k : j < length sheet.columns = omega (arith, columns_size a) in
          let p = (formed a).sheet sheet (sheet_in a) in
          let n = numbered f h r j v l in
          let there : has D (get_or sheet.columns j 0) v ≡ true = rw (column_value a j l) e in
          let few = (formed a).few_values in
          let most = counted_most D (book_of b).counts sheet p few d.bits (sheet_forbids a ∙ f) j v k there n in
          let to = counted_to D (book_of b).counts sheet p few d.bits (sheet_forbids a ∙ f) j v k there n in
          let from = counted_from D (book_of b).counts sheet p few d.bits (sheet_forbids a ∙ f) j v k there n in
          let iff = supported_iff D (book_of b).counts d.bits sheet p j v k in
          let c = values-count f h r j v (get_or N s 0) in
          let o = choices_same w j l in
          u.at j v (omega arith)
          ∙ rw (w.at j l, e)
          (same_test _ _
          (λ t.
          let ne : values_to b s W X j v (get_or N s 0) ≡ others_of x j → ⊥ = eqb-false (values_to b s W X j v (get_or N s 0)) (others_of x j) (not-true _ t) in
          rw (← column_value a j l) (iff.1 (from (omega (arith, most, c, o)))))
          (λ t.
          let q = to (iff.0 (rw (column_value a j l) t)) in
          ap not (ne_eqb (values_to b s W X j v (get_or N s 0)) (others_of x j) (λ z. omega (arith, q, c, o)))))

-- ---- steps of the code
pub others_made : {x : List ℕ} (z : List ℕ) {a b c d : ℕ} → SmallSets x → ((j : ℕ) → j < 4 → get_or z j 0 ≡ ones (get_or x j 0))
    → a ≡ get_or z 1 0 * get_or z 2 0 * get_or z 3 0 → b ≡ get_or z 0 0 * get_or z 2 0 * get_or z 3 0
    → c ≡ get_or z 0 0 * get_or z 1 0 * get_or z 3 0 → d ≡ get_or z 0 0 * get_or z 1 0 * get_or z 2 0 → Others x (a ∷ b ∷ c ∷ d ∷ [])
unfolding others_of
others_made {x} z {a} {b} {c} {d} h e ea eb ec ed =
    record {
      size = refl;
      at = λ j l.
          four_all (λ j. get_or (a ∷ b ∷ c ∷ d ∷ []) j 0 ≡ others_of x j)
          (ea ∙ rw (same 1 (omega arith), same 2 (omega arith), same 3 (omega arith))) (eb ∙ rw (same 0 (omega arith), same 2 (omega arith), same 3 (omega arith)))
          (ec ∙ rw (same 0 (omega arith), same 1 (omega arith), same 3 (omega arith))) (ed ∙ rw (same 0 (omega arith), same 1 (omega arith), same 2 (omega arith))) j l;
    }
  where
    same : (j : ℕ) → j < 4 → get_or z j 0 ≡ size (get_or x j 0)
    same j l = e j l ∙ sym (count_ones 32 (get_or x j 0) (h.fits j))
