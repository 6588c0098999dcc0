-- Laws of the quick no: where every choice is matched, each choice for the places without 255 needs a row of its own. Assumes nothing.
use mathlib.Core.Path.{◌∙◌, ◌≡◌, ap, ap₂, refl, sym}
use mathlib.Core.Bool.{Bool, cond, false, false≢true, true}
use mathlib.Core.Logic.{◌⊎◌, inl, inr}
use mathlib.Core.List.{List}
use Prim.Native.Nat.{◌%◌, ◌*◌, ◌+◌, ◌-◌, ◌/◌, ◌<◌, ◌^◌, ◌≤◌, suc, zero, ℕ}
use native.Mathlib.Nat.{le_refl, mul_assoc, mul-le-mul, mul-one, one-mul, pow-le-pow_right, pow-suc, zero-lt-suc}
use native.Mathlib.Numerals.{add-one}
use native.Mathlib.Omega.{arith}
use lib.Seq.{get_or-set_other, get_or-set_same}
use lib.Count.{ones, count_trailing_zeros}
use lib.ListN.{get_or, length, length-set, set}
use Rattle.model.specs.Books.{is_any}
use Rattle.model.specs.Choices.{Takes, space}
use Rattle.model.specs.Masks.{bit, size}
use Rattle.model.specs.States.{of_sheet}
use Rattle.model.specs.Stores.{has}
use Rattle.model.specs.Tests.{count, sum, tab}
use Rattle.model.proofs.Books.{matches_plain}
use Rattle.model.proofs.Masks.{bit_of_zero, bit_pow_only, cleared}
use Rattle.model.proofs.Tallies.{count_most, count_ones, crowded}
use Rattle.model.proofs.Tests.{below, either, get_or-tab, length-tab, positive}
use Rattle.cells.specs.Cells.{SmallSets}
use Rattle.heads.specs.Heads.{column_of, width_of}
use Rattle.words.specs.Sheets.{AtSheet, SheetWords, ShortPlaces, Wanted, rows_to, value_at}
use Rattle.words.proofs.Gathers.{at_position}
use Rattle.words.proofs.Indexes.{passes, rows_count}
use Rattle.words.proofs.Places.{column_below, width_most}
use Rattle.cover.specs.Covers.{AllMatched, ChosenFrom, FewValues, FilledSets, MatchedBy, SizesTo, plain_choices, plain_in}

-- ---- the choices
module _ (shorts : ℕ) (x : List ℕ) where
  -- the sets from which these choices are: at a place with 255, the value 0 alone
  abbrev free : ℕ → ℕ
  free j = cond (bit (8 * j + 7) shorts) 1 (get_or x j 0)

  free_size : (j : ℕ) → cond (bit (8 * j + 7) shorts) 1 (size (get_or x j 0)) ≡ size (free j)
  unfolding count sum bit
  free_size j = at (bit (8 * j + 7) shorts)
    where
      at : (b : Bool) → cond b 1 (size (get_or x j 0)) ≡ size (cond b 1 (get_or x j 0))
      at true = refl
      at false = refl

  plain_space : plain_choices shorts x 4 ≡ space (tab 4 free)
  unfolding plain_choices space tab
  plain_space =
      let n : ℕ → ℕ = λ j. size (free j) in
      rw (free_size 0, free_size 1, free_size 2, free_size 3, one-mul, mul-one, mul_assoc (n 0 * n 1) (n 2) (n 3), mul_assoc (n 0) (n 1) (n 2 * n 3))

-- ---- the choices, as the code counts them
pub sizes_more : {D Z : List ℕ} {n : ℕ} → get_or D n 0 < 2 ^ 32 → n < 16 → SizesTo D n Z → SizesTo D (n + 1) (set Z n (ones (get_or D n 0)))
sizes_more {D} {Z} {n} d l h = record { all = length-set Z n _ ∙ h.all; at = λ c p. go c (below c n) p }
  where
    go : (c : ℕ) → (c < n) ⊎ (n ≤ c) → c < n + 1 → get_or (set Z n (ones (get_or D n 0))) c 0 ≡ size (get_or D c 0)
    go c (inl q) p = get_or-set_other Z n c (ones (get_or D n 0)) 0 (λ e. omega arith) ∙ h.at c q
    go c (inr q) p =
        let e : c ≡ n = omega arith in
        rw (e, get_or-set_same Z n (ones (get_or D n 0)) 0 (omega (arith, h.all))) (sym (count_ones 32 (get_or D n 0) d))

pub sizes_few : {D Z : List ℕ} → SizesTo D 16 Z → FewValues Z
sizes_few {D} h = record { all = h.all; most = λ c l. rw (h.at c l) (count_most 32 (λ v. bit v (get_or D c 0))) }

-- a place below the width, as the code reads it of the book's head
pub in_width : {b head : List ℕ} (s : ℕ) {k j : ℕ} → head ≡ b → k ≡ width_of head s → j < k → j < width_of b s
in_width s e w l = rw (← e, ← w) l

module _ {b : List ℕ} {begin s : ℕ} (a : AtSheet b begin s) (shorts : ℕ) (Z : List ℕ) where
  -- one place more
  pub plain_free : (j : ℕ) {n c : ℕ} → bit (8 * j + 7) shorts ≡ false → c ≡ column_of b s j → n ≡ plain_in b s shorts Z j
      → n * get_or Z c 0 ≡ plain_in b s shorts Z (j + 1)
  unfolding plain_in
  plain_free j e f i = rw (add-one j, e, f, i)

  pub plain_short : (j : ℕ) {n : ℕ} → bit (8 * j + 7) shorts ≡ true → n ≡ plain_in b s shorts Z j → n ≡ plain_in b s shorts Z (j + 1)
  unfolding plain_in
  plain_short j e i = rw (add-one j, e, mul-one, i)

  -- each factor is 32 at most, so the product of four fits
  pub plain_most : FewValues Z → (n : ℕ) → n ≤ width_of b s → plain_in b s shorts Z n ≤ 1048576
  unfolding plain_in
  plain_most f n l = let q : n ≤ 4 = omega (arith, (width_most a).1) in omega (arith, power n l, pow-le-pow_right (zero-lt-suc 31) q)
    where
      factor : (t : Bool) (m : ℕ) → m ≤ 32 → cond t 1 m ≤ 32
      factor true m p = omega arith
      factor false m p = p

      power : (n : ℕ) → n ≤ width_of b s → plain_in b s shorts Z n ≤ 32 ^ n
      power zero p = le_refl 1
      power (suc n) p =
          rw pow-suc
          (mul-le-mul (power n (omega arith)) (factor (bit (8 * n + 7) shorts) (get_or Z (column_of b s n) 0) (f.most (column_of b s n) (column_below a n (omega arith)))))

  -- it is the number for the sets of the places: one that is not used has one value
  pub plain_same : {D x : List ℕ} → SizesTo D 16 Z → Wanted b s D (width_of b s) x → plain_in b s shorts Z (width_of b s) ≡ plain_choices shorts x 4
  unfolding plain_in plain_choices count sum bit
  plain_same {D} {x} z w = used (width_of b s) (omega arith) ∙ unused (4 - width_of b s) (width_of b s) (omega (arith, (width_most a).1)) (omega arith)
    where
      used : (n : ℕ) → n ≤ width_of b s → plain_in b s shorts Z n ≡ plain_choices shorts x n
      used zero p = refl
      used (suc n) p =
          ap₂ ◌*◌ (used n (omega arith))
          (ap (λ (m : ℕ). cond (bit (8 * n + 7) shorts) 1 m)
          (z.at (column_of b s n) (column_below a n (omega arith)) ∙ ap size (sym (w.at n (omega arith)))))

      one_value : (t : Bool) (m : ℕ) → m ≡ 1 → cond t 1 (size m) ≡ 1
      one_value true m e = refl
      one_value false m e = rw e

      unused : (k n : ℕ) → n + k ≡ 4 → width_of b s ≤ n → plain_choices shorts x n ≡ plain_choices shorts x 4
      unused zero n e l = let f : n ≡ 4 = omega arith in rw f refl
      unused (suc k) n e l =
          sym (ap (λ (m : ℕ). plain_choices shorts x n * m) (one_value (bit (8 * n + 7) shorts) (get_or x n 0) (w.rest n l (omega arith))) ∙ mul-one _)
          ∙ unused k (suc n) (omega arith) (omega arith)

-- ---- every choice matched: no fewer rows than choices
module _ {b : List ℕ} {begin s : ℕ} (a : AtSheet b begin s) {W X N : List ℕ} (h : SheetWords b s W X N) {shorts : ℕ} (c : ShortPlaces b s shorts)
    {x : List ℕ} (z : SmallSets x) (f : FilledSets x) where
  -- at a place with 255 any value of the set will do: its lowest
  abbrev with_lowest : List ℕ → ℕ → ℕ
  with_lowest t j = cond (bit (8 * j + 7) shorts) (count_trailing_zeros 32 (get_or x j 0)) (get_or t j 0)

  -- and its cells are not looked at
  abbrev plain_cell : ℕ → ℕ → ℕ
  plain_cell q j = cond (bit (8 * j + 7) shorts) 0 (value_at b s (64 * of_sheet X s (q / 64) + q % 64) j)

  module _ {t : List ℕ} (k : Takes (tab 4 (free shorts x)) t) where
    taken : (j : ℕ) → j < 4 → bit (get_or t j 0) (free shorts x j) ≡ true
    unfolding has
    taken j l = ap (bit (get_or t j 0)) (sym (get_or-tab 0 4 (free shorts x) j l)) ∙ k.each j (rw length-tab l)

    -- a choice from the sets of `free` makes one from x
    chosen : ChosenFrom x (with_lowest t)
    chosen = record { each = λ j l. go j l (either (bit (8 * j + 7) shorts)) }
      where
        go : (j : ℕ) → j < 4 → (bit (8 * j + 7) shorts ≡ true) ⊎ (bit (8 * j + 7) shorts ≡ false) → bit (with_lowest t j) (get_or x j 0) ≡ true
        go j l (inl e) =
            let v = f.some j l in
            let p : 0 < get_or x j 0 = positive (get_or x j 0) (λ y. false≢true (sym (bit_of_zero v.0) ∙ ap (bit v.0) (sym y) ∙ v.1)) in
            rw e (cleared 32 (get_or x j 0) p (z.fits j)).here
        go j l (inr e) = rw e (rw e at (taken j l))

    -- the row that matches that one has the values of t: without 255 a cell is the value that it matches
    row_of : MatchedBy b s W (with_lowest t)
        → (q : ℕ) × (q < 64 * get_or N s 0) × (passes h.sized s q ≡ true) × ((j : ℕ) → j < length (tab 4 (free shorts x)) → plain_cell q j ≡ get_or t j 0)
    row_of m =
        let r = m.row in
        let i = at_position a h r m.small m.set_row in
        let q = 64 * i.0 + r % 64 in
        let eq : q / 64 ≡ i.0 = omega arith in
        let er : q % 64 ≡ r % 64 = omega arith in
        let back : 64 * of_sheet X s i.0 + r % 64 ≡ r = omega (arith, i.2) in
        (q, omega (arith, i.1), rw (eq, er) i.3, λ j l. rw (eq, er, back) (at j (rw length-tab at l) (either (bit (8 * j + 7) shorts))))
      where
        at : (j : ℕ) → j < 4 → (bit (8 * j + 7) shorts ≡ true) ⊎ (bit (8 * j + 7) shorts ≡ false)
            → cond (bit (8 * j + 7) shorts) 0 (value_at b s m.row j) ≡ get_or t j 0
        at j l (inl e) = rw e (sym (bit_pow_only 0 (get_or t j 0) (rw e at (taken j l))))
        at j l (inr e) = rw e (matches_plain (value_at b s m.row j) (get_or t j 0) (plain (either (is_any (value_at b s m.row j)))) (rw e at (m.cells j l)))
          where
            plain : (is_any (value_at b s m.row j) ≡ true) ⊎ (is_any (value_at b s m.row j) ≡ false) → is_any (value_at b s m.row j) ≡ false
            plain (inl y) = absurd (false≢true (sym e ∙ c.at m.row j (h.inside.at m.row m.small m.set_row) l y))
            plain (inr n) = n

  -- with fewer rows some choice is not matched
  pub few_missed : rows_to W X s (get_or N s 0) < plain_choices shorts x 4 → AllMatched b s W x → ⊥
  few_missed l m =
      omega (
        arith,
        crowded (tab 4 (free shorts x)) (64 * get_or N s 0) (passes h.sized s) plain_cell (λ t k. row_of k (m.each (with_lowest t) (chosen k))),
        rows_count h.sized s (get_or N s 0),
        plain_space shorts x,
      )
