-- Laws of the index: what a change of one word and a drop past the limit make of it. Assumes nothing.
-- ---- entries of one sheet in an array with eight for each sheet
use mathlib.Core.Path.{◌∙◌, ◌≡◌, ap, ap₂, refl, sym}
use mathlib.Core.Bool.{Bool, cond, false, true}
use mathlib.Core.Logic.{◌↔◌, ◌⊎◌, inl, inr, ⊎_elim}
use mathlib.Core.List.{List, [], ◌∷◌}
use Prim.Native.Nat.{◌%◌, ◌*◌, ◌+◌, ◌-◌, ◌/◌, ◌<◌, ◌≤◌, suc, zero, ℕ}
use native.Mathlib.Numerals.{add-one}
use native.Mathlib.Omega.{arith}
use lib.Arith.{lt_of_le-ne}
use lib.Count.{ones, ones-le}
use lib.Dec.{eqb}
use lib.ListN.{get_or, length, length-set, set}
use lib.Seq.{get_or-set_other, get_or-set_same}
use borrow.Author.Tests.{eq-eqb, eqb-false, eqb-true, ne_eqb}
use Rattle.model.specs.Masks.{bit}
use Rattle.model.specs.States.{Indexed, of_sheet}
use Rattle.model.specs.Tests.{count, sum}
use Rattle.model.proofs.Tallies.{count_more, count_ones, count_same}
use Rattle.model.proofs.Tests.{either}
use Rattle.words.specs.Sheets.{Sized, rows_to, swapped}

module _ (xs : List ℕ) (s w v : ℕ) (l : w < 8) where
  pub of_set_same : 8 * s + w < length xs → of_sheet (set xs (8 * s + w) v) s w ≡ v
  of_set_same h = get_or-set_same xs (8 * s + w) v 0 h

  pub of_set_other : (t i : ℕ) → i < 8 → (t ≡ s → i ≡ w → ⊥) → of_sheet (set xs (8 * s + w) v) t i ≡ of_sheet xs t i
  of_set_other t i k n =
      get_or-set_other xs (8 * s + w) (8 * t + i) v 0
      (λ e.
      let p : t ≡ s = omega arith in
      let q : i ≡ w = omega arith in
      n p q)

-- a bound on every entry is kept by a write below it
pub set_below : (xs : List ℕ) (i v m : ℕ) → v < m → ((k : ℕ) → get_or xs k 0 < m) → (k : ℕ) → get_or (set xs i v) k 0 < m
set_below [] i v m l h k = h k
set_below (x ∷ xs) zero v m l h zero = l
set_below (x ∷ xs) zero v m l h (suc k) = h (suc k)
set_below (x ∷ xs) (suc i) v m l h zero = h 0
set_below (x ∷ xs) (suc i) v m l h (suc k) = set_below xs i v m l (λ j. h (suc j)) k

-- ---- two entries that change places
-- the place from which place k has its entry
unfoldable pub other : ℕ → ℕ → ℕ → ℕ
other p q k = cond (eqb k p) q (cond (eqb k q) p k)

pub other_left : (p q : ℕ) → other p q p ≡ q
unfolding other
other_left p q = rw (eq-eqb p p refl)

pub other_right : (p q : ℕ) → other p q q ≡ p
unfolding other
other_right p q = go (either (eqb q p))
  where
    go : (eqb q p ≡ true) ⊎ (eqb q p ≡ false) → other p q q ≡ p
    go (inl e) = rw e (eqb-true q p e)
    go (inr e) = rw (e, eq-eqb q q refl)

pub other_rest : (p q k : ℕ) → (k ≡ p → ⊥) → (k ≡ q → ⊥) → other p q k ≡ k
unfolding other
other_rest p q k m n = rw (ne_eqb k p m, ne_eqb k q n)

-- a place is the first, the second, or neither
pub data Where (p q k : ℕ) : Type 0 where
  left : k ≡ p → Where p q k
  right : k ≡ q → Where p q k
  neither : (k ≡ p → ⊥) → (k ≡ q → ⊥) → Where p q k

pub where_is : (p q k : ℕ) → Where p q k
where_is p q k = go (either (eqb k p)) (either (eqb k q))
  where
    go : (eqb k p ≡ true) ⊎ (eqb k p ≡ false) → (eqb k q ≡ true) ⊎ (eqb k q ≡ false) → Where p q k
    go (inl e) f = left (eqb-true k p e)
    go (inr e) (inl f) = right (eqb-true k q f)
    go (inr e) (inr f) = neither (eqb-false k p e) (eqb-false k q f)

pub other_other : (p q k : ℕ) → other p q (other p q k) ≡ k
other_other p q k = go (where_is p q k)
  where
    go : Where p q k → other p q (other p q k) ≡ k
    go (left e) = ap (λ (i : ℕ). other p q (other p q i)) e ∙ ap (other p q) (other_left p q) ∙ other_right p q ∙ sym e
    go (right e) = ap (λ (i : ℕ). other p q (other p q i)) e ∙ ap (other p q) (other_right p q) ∙ other_left p q ∙ sym e
    go (neither m n) = ap (other p q) (other_rest p q k m n) ∙ other_rest p q k m n

pub other_lt : (p q k n : ℕ) → p < n → q < n → k < n → other p q k < n
other_lt p q k n lp lq lk = go (where_is p q k)
  where
    go : Where p q k → other p q k < n
    go (left e) = rw (e, other_left p q) lq
    go (right e) = rw (e, other_right p q) lp
    go (neither m o) = rw (other_rest p q k m o) lk

pub get_or-swapped : (xs : List ℕ) (p q k : ℕ) → p < length xs → q < length xs → get_or (swapped xs p q) k 0 ≡ get_or xs (other p q k) 0
unfolding swapped
get_or-swapped xs p q k lp lq = go (where_is p q k)
  where
    second : get_or (swapped xs p q) q 0 ≡ get_or xs p 0
    second = get_or-set_same (set xs p (get_or xs q 0)) q (get_or xs p 0) 0 (rw (length-set xs p (get_or xs q 0)) lq)

    begin : (either_way : (p ≡ q) ⊎ (p ≡ q → ⊥)) → get_or (swapped xs p q) p 0 ≡ get_or xs q 0
    begin (inl e) = ap (λ (i : ℕ). get_or (swapped xs p q) i 0) e ∙ second ∙ ap (λ (i : ℕ). get_or xs i 0) e
    begin (inr n) = get_or-set_other (set xs p (get_or xs q 0)) q p (get_or xs p 0) 0 n ∙ get_or-set_same xs p (get_or xs q 0) 0 lp

    same : (p ≡ q) ⊎ (p ≡ q → ⊥)
    same = ⊎_elim (λ e. inl (eqb-true p q e)) (λ e. inr (eqb-false p q e)) (either (eqb p q))

    go : Where p q k → get_or (swapped xs p q) k 0 ≡ get_or xs (other p q k) 0
    go (left e) = rw (e, other_left p q) (begin same)
    go (right e) = rw (e, other_right p q) second
    go (neither m n) =
        rw (other_rest p q k m n)
        (get_or-set_other (set xs p (get_or xs q 0)) q k (get_or xs p 0) 0 n ∙ get_or-set_other xs p k (get_or xs q 0) 0 m)

pub length-swapped : (xs : List ℕ) (p q : ℕ) → length (swapped xs p q) ≡ length xs
unfolding swapped
length-swapped xs p q = length-set (set xs p (get_or xs q 0)) q (get_or xs p 0) ∙ length-set xs p (get_or xs q 0)

-- two positions of sheet s that change places
module _ (xs : List ℕ) (s p q : ℕ) (lp : p < 8) (lq : q < 8) (size : 8 * s + 8 ≤ length xs) where
  shifted : (i : ℕ) → other (8 * s + p) (8 * s + q) (8 * s + i) ≡ 8 * s + other p q i
  shifted i = go (where_is p q i)
    where
      go : Where p q i → other (8 * s + p) (8 * s + q) (8 * s + i) ≡ 8 * s + other p q i
      go (left e) = rw (e, other_left p q) (other_left (8 * s + p) (8 * s + q))
      go (right e) = rw (e, other_right p q) (other_right (8 * s + p) (8 * s + q))
      go (neither m n) =
          rw (other_rest p q i m n) (other_rest (8 * s + p) (8 * s + q) (8 * s + i) (λ e. m (omega arith)) (λ e. n (omega arith)))

  pub of_swapped : (i : ℕ) → of_sheet (swapped xs (8 * s + p) (8 * s + q)) s i ≡ of_sheet xs s (other p q i)
  of_swapped i =
      get_or-swapped xs (8 * s + p) (8 * s + q) (8 * s + i) (omega arith) (omega arith) ∙ ap (λ (k : ℕ). get_or xs k 0) (shifted i)

  pub of_swapped_other : (t i : ℕ) → i < 8 → (t ≡ s → ⊥) → of_sheet (swapped xs (8 * s + p) (8 * s + q)) t i ≡ of_sheet xs t i
  of_swapped_other t i l n =
      get_or-swapped xs (8 * s + p) (8 * s + q) (8 * t + i) (omega arith) (omega arith)
      ∙ ap (λ (k : ℕ). get_or xs k 0)
      (other_rest (8 * s + p) (8 * s + q) (8 * t + i) (λ e. let z : t ≡ s = omega arith in n z) (λ e. let z : t ≡ s = omega arith in n z))

-- ---- the invariant
-- a word past the limit is zero
pub past_limit : {index word : ℕ → ℕ} {n : ℕ} → Indexed index n word → (i : ℕ) → i < 8 → n ≤ i → word (index i) ≡ 0
past_limit {index} {word} {n} h i l p = zero_or (word (index i)) (λ q. let z = (h.limit i l).1 q in omega arith)
  where
    zero_or : (x : ℕ) → (0 < x → ⊥) → x ≡ 0
    zero_or zero f = refl
    zero_or (suc x) f = absurd (f (omega arith))

module _ {index word : ℕ → ℕ} {n : ℕ} (h : Indexed index n word) (p : ℕ) (l : p < n) where
  small : p < 8
  small = omega (arith, h.few)

  -- another position names another word
  pub names_other : (i : ℕ) → i < 8 → (i ≡ p → ⊥) → index i ≡ index p → ⊥
  names_other i k m e = m (h.once i p k small e)

  module _ (word' : ℕ → ℕ) (rest : (w : ℕ) → w < 8 → (w ≡ index p → ⊥) → word' w ≡ word w) where
    other_word : (i : ℕ) → i < 8 → (i ≡ p → ⊥) → word' (index i) ≡ word (index i)
    other_word i k m = rest (index i) (h.each i k) (names_other i k m)

    -- the word at position p changed, and is not zero
    pub index_kept : 0 < word' (index p) → Indexed index n word'
    index_kept q = record { few = h.few; each = h.each; once = h.once; every = h.every; limit = λ i k. go i k (either (eqb i p)) }
      where
        go : (i : ℕ) → i < 8 → (eqb i p ≡ true) ⊎ (eqb i p ≡ false) → (i < n) ↔ (0 < word' (index i))
        go i k (inl e) = let z = eqb-true i p e in (λ a. rw z q, λ a. rw z l)
        go i k (inr e) =
            let z = other_word i k (eqb-false i p e) in
            (λ a. rw z ((h.limit i k).0 a), λ a. (h.limit i k).1 (rw z at a))

    -- the word at position p became zero, and the position goes past the limit
    pub index_dropped : word' (index p) ≡ 0 → (index' : ℕ → ℕ) → ((i : ℕ) → index' i ≡ index (other p (n - 1) i)) → Indexed index' (n - 1) word'
    index_dropped z index' e = record {
      few = omega (arith, h.few);
      each = λ i k. rw (e i) (h.each (other p (n - 1) i) (inside i k));
      once = λ i j k m q.
          sym (other_other p (n - 1) i)
          ∙ ap (other p (n - 1)) (h.once (other p (n - 1) i) (other p (n - 1) j) (inside i k) (inside j m) (sym (e i) ∙ q ∙ e j))
          ∙ other_other p (n - 1) j;
      every = λ w k.
          let r = h.every w k in
          (other p (n - 1) r.0, inside r.0 r.1, e (other p (n - 1) r.0) ∙ ap index (other_other p (n - 1) r.0) ∙ r.2);
      limit = λ i k. rw (e i) (go i k (where_is p (n - 1) i));
    }
      where
        inside : (i : ℕ) → i < 8 → other p (n - 1) i < 8
        inside i k = other_lt p (n - 1) i 8 small (omega (arith, h.few)) k

        last : (n - 1 ≡ p → ⊥) → (i : ℕ) → i ≡ p → (i < n - 1) ↔ (0 < word' (index (n - 1)))
        last m i q = (
          λ a. rw (other_word (n - 1) (omega (arith, h.few)) m) ((h.limit (n - 1) (omega (arith, h.few))).0 (omega arith)),
          λ a. lt_of_le-ne (omega arith) (λ x. m (sym (sym q ∙ x))),
        )

        gone : (i : ℕ) → (i < n - 1 → ⊥) → (i < n - 1) ↔ (0 < word' (index p))
        gone i m = (λ a. absurd (m a), λ a. absurd (omega (arith, z)))

        go : (i : ℕ) → i < 8 → Where p (n - 1) i → (i < n - 1) ↔ (0 < word' (index (other p (n - 1) i)))
        go i k (left q) = rw (q, other_left p (n - 1)) (at_p (either (eqb (n - 1) p)))
          where
            at_p : (eqb (n - 1) p ≡ true) ⊎ (eqb (n - 1) p ≡ false) → (p < n - 1) ↔ (0 < word' (index (n - 1)))
            at_p (inl x) =
                let y = eqb-true (n - 1) p x in (λ a. absurd (omega arith), λ a. absurd (omega (arith, z, ap (λ (j : ℕ). word' (index j)) y)))
            at_p (inr x) = last (eqb-false (n - 1) p x) p refl
        go i k (right q) = rw (q, other_right p (n - 1)) (gone (n - 1) (λ a. omega arith))
        go i k (neither a b) =
            let w = other_word i k a in
            rw (other_rest p (n - 1) i a b, w) (
              λ c. (h.limit i k).0 (omega arith),
              λ c. let d = (h.limit i k).1 c in lt_of_le-ne (omega arith) b,
            )

-- ---- the rows, numbered by the position of their word in the index
-- one word more, as the code counts
pub rows_next : (W X : List ℕ) (s p : ℕ) {w rows : ℕ} → w ≡ of_sheet X s p → rows ≡ rows_to W X s p
    → rows + ones (of_sheet W s w) ≡ rows_to W X s (p + 1)
unfolding rows_to
rows_next W X s p ew i = rw (add-one p, ew, i)

module _ {W X N : List ℕ} (z : Sized W X N) (s : ℕ) where
  -- number q is bit q % 64 of the word at position q / 64
  abbrev pub passes : ℕ → Bool
  passes q = bit (q % 64) (of_sheet W s (of_sheet X s (q / 64)))

  pub rows_count : (n : ℕ) → count (64 * n) passes ≡ rows_to W X s n
  unfolding rows_to count sum
  rows_count zero = refl
  rows_count (suc n) =
      let e : 64 * suc n ≡ 64 * n + 64 = omega arith in
      rw e
      (count_more (64 * n) 64 passes
      ∙ ap₂ ◌+◌ (rows_count n) (count_same 64 (λ k. passes (64 * n + k)) (λ k. bit k word) same ∙ count_ones 64 word (z.bits (8 * s + of_sheet X s n))))
    where
      word : ℕ
      word = of_sheet W s (of_sheet X s n)

      same : (k : ℕ) → k < 64 → passes (64 * n + k) ≡ bit k word
      same k l =
          let p : (64 * n + k) % 64 ≡ k = omega arith in
          let q : (64 * n + k) / 64 ≡ n = omega arith in
          rw (p, q)

  pub rows_most : (n : ℕ) → rows_to W X s n ≤ 64 * n
  unfolding rows_to
  rows_most zero = omega arith
  rows_most (suc n) = omega (arith, rows_most n, ones-le 64 (of_sheet W s (of_sheet X s n)) (z.bits (8 * s + of_sheet X s n)))
