-- Laws of pass 2 over a word: the values of its rows, row by row, run by run and part by part. Assumes nothing.
-- one row
use mathlib.Core.Path.{◌∙◌, ◌≡◌, ap, refl, sym}
use mathlib.Core.Bool.{Bool, ◌&&◌, ◌||◌, false, false≢true, not, or-false, true}
use mathlib.Core.Logic.{◌⊎◌, inl, inr}
use mathlib.Core.List.{List}
use Prim.Native.Nat.{◌%◌, ◌+◌, ◌-◌, ◌<◌, ◌^◌, ◌≤◌, ℕ}
use native.Mathlib.Omega.{arith}
use lib.Arith.{lt_of_le-ne}
use lib.Bits.{bit_or, or_lt}
use lib.Count.{trailing_le, count_trailing_zeros}
use lib.Dec.{eqb, ltb}
use lib.ListN.{get_or, length-set, set}
use lib.Seq.{get_or-set_other, get_or-set_same}
use borrow.Author.Tests.{eq-eqb, eqb-false, eqb-true, le-ltb, lt-ltb, ne_eqb, not-false}
use Rattle.model.specs.Masks.{Cleared, bit}
use Rattle.model.proofs.Masks.{bit_of_zero, bit-or, bit_pow, bit_pow_only, lowest_under, ones64}
use Rattle.model.proofs.Tests.{and_true, below, either, or_e, or_l, or_r}
use Rattle.fields.specs.Bytes.{byte_at}
use Rattle.counters.specs.Counters.{PastRows}
use Rattle.cells.specs.Cells.{GatheredOf, RunOf, SmallSets}
use Rattle.counters.proofs.Ones.{complement}
use Rattle.cells.proofs.Walks.{Part, part_cleared, split}

one_row : (cell : ℕ → ℕ → ℕ) (t : ℕ) {g h : List ℕ} → ((j : ℕ) → j < 4 → get_or h j 0 ≡ bit_or (get_or g j 0) (2 ^ cell t j)) → GatheredOf cell (λ k. eqb k t) g h
one_row cell t {g} {h} e = record {
  old = λ j v l x. ap (bit v) (e j l) ∙ bit-or v (get_or g j 0) (2 ^ cell t j) ∙ or_l (bit v (get_or g j 0)) (bit v (2 ^ cell t j)) x;
  new = λ j k l x.
      let z = eqb-true k t x in
      rw (z, e j l, bit-or (cell t j) (get_or g j 0) (2 ^ cell t j)) (or_r (bit (cell t j) (get_or g j 0)) (bit (cell t j) (2 ^ cell t j)) (bit_pow (cell t j)));
  sound = λ j v l x. go j v (or_e (bit v (get_or g j 0)) (bit v (2 ^ cell t j)) (sym (bit-or v (get_or g j 0) (2 ^ cell t j)) ∙ ap (bit v) (sym (e j l)) ∙ x));
}
  where
    go : (j v : ℕ) → (bit v (get_or g j 0) ≡ true) ⊎ (bit v (2 ^ cell t j) ≡ true) → (bit v (get_or g j 0) ≡ true) ⊎ ((k : ℕ) × (eqb k t ≡ true) × (cell k j ≡ v))
    go j v (inl x) = inl x
    go j v (inr x) = inr (t, eq-eqb t t refl, sym (bit_pow_only (cell t j) v x))

-- the values of a row, place by place: the first n are added, and the sets of the other places are as they were
pub record AddedTo (n : ℕ) (b : List ℕ) (at : ℕ) (f g : List ℕ) : Type 0 where
  pub small : SmallSets g
  pub done : (j : ℕ) → j < n → get_or g j 0 ≡ bit_or (get_or f j 0) (2 ^ (byte_at b (at + j) % 32))
  pub left : (j : ℕ) → n ≤ j → get_or g j 0 ≡ get_or f j 0

pub none_added : (b : List ℕ) (at : ℕ) {f : List ℕ} → SmallSets f → AddedTo 0 b at f f
none_added b at s = record { small = s; done = λ j l. absurd (omega arith); left = λ j l. refl }

pub place_added : {n : ℕ} {b : List ℕ} {at : ℕ} {f g : List ℕ} → AddedTo n b at f g → n < 4 → {v : ℕ} → v < 2 ^ 32 → v ≡ 2 ^ (byte_at b (at + n) % 32)
    → AddedTo (n + 1) b at f (set g n (bit_or (get_or g n 0) v))
place_added {n} {b} {at} {f} {g} h l {v} fits e = record {
  small = record {
    size = length-set g n _ ∙ h.small.size;
    fits = λ j. split j n (λ z. rw (z, same) (or_lt 32 (get_or g n 0) v (h.small.fits n) fits)) (λ z. rw (other j z) (h.small.fits j));
  };
  done = λ j m. split j n (λ z. rw (z, same) (rw (e, h.left n (omega arith)) refl)) (λ z. other j z ∙ h.done j (omega (arith, z)));
  left = λ j m. other j (λ z. omega arith) ∙ h.left j (omega arith);
}
  where
    same : get_or (set g n (bit_or (get_or g n 0) v)) n 0 ≡ bit_or (get_or g n 0) v
    same = get_or-set_same g n _ 0 (omega (arith, h.small.size))

    other : (j : ℕ) → (j ≡ n → ⊥) → get_or (set g n (bit_or (get_or g n 0) v)) j 0 ≡ get_or g j 0
    other j z = get_or-set_other g n j _ 0 z

module _ (cell : ℕ → ℕ → ℕ) {f : List ℕ} where
  pub of_none : (passes : ℕ → Bool) → ((k : ℕ) → passes k ≡ false) → GatheredOf cell passes f f
  of_none passes n = record { old = λ j v l e. e; new = λ j k l e. absurd (false≢true (sym (n k) ∙ e)); sound = λ j v l e. inl e }

  pub of_same : {passes passes' : ℕ → Bool} {g : List ℕ} → ((k : ℕ) → passes k ≡ passes' k) → GatheredOf cell passes f g → GatheredOf cell passes' f g
  of_same {passes} {passes'} {g} e h = record {
    old = h.old;
    new = λ j k l p. h.new j k l (e k ∙ p);
    sound = λ j v l p. go j v (h.sound j v l p);
  }
    where
      go : (j v : ℕ) → (bit v (get_or f j 0) ≡ true) ⊎ ((k : ℕ) × (passes k ≡ true) × (cell k j ≡ v))
          → (bit v (get_or f j 0) ≡ true) ⊎ ((k : ℕ) × (passes' k ≡ true) × (cell k j ≡ v))
      go j v (inl p) = inl p
      go j v (inr (k, p, q)) = inr (k, sym (e k) ∙ p, q)

  pub of_cells : (cell' : ℕ → ℕ → ℕ) {passes : ℕ → Bool} {g : List ℕ} → ((k j : ℕ) → passes k ≡ true → cell k j ≡ cell' k j)
      → GatheredOf cell passes f g → GatheredOf cell' passes f g
  of_cells cell' {passes} {g} e h = record {
    old = h.old;
    new = λ j k l p. rw (← e k j p) (h.new j k l p);
    sound = λ j v l p. go j v (h.sound j v l p);
  }
    where
      go : (j v : ℕ) → (bit v (get_or f j 0) ≡ true) ⊎ ((k : ℕ) × (passes k ≡ true) × (cell k j ≡ v))
          → (bit v (get_or f j 0) ≡ true) ⊎ ((k : ℕ) × (passes k ≡ true) × (cell' k j ≡ v))
      go j v (inl p) = inl p
      go j v (inr (k, p, q)) = inr (k, p, sym (e k j p) ∙ q)

  -- one part of the rows, and then the other
  pub of_join : {passes more all : ℕ → Bool} {g h : List ℕ} → ((k : ℕ) → all k ≡ (passes k || more k))
      → GatheredOf cell passes f g → GatheredOf cell more g h → GatheredOf cell all f h
  of_join {passes} {more} {all} {g} {h} e p q = record {
    old = λ j v l x. q.old j v l (p.old j v l x);
    new = λ j k l x. new j k l (or_e (passes k) (more k) (sym (e k) ∙ x));
    sound = λ j v l x. second j v l (q.sound j v l x);
  }
    where
      new : (j k : ℕ) → j < 4 → (passes k ≡ true) ⊎ (more k ≡ true) → bit (cell k j) (get_or h j 0) ≡ true
      new j k l (inl x) = q.old j (cell k j) l (p.new j k l x)
      new j k l (inr x) = q.new j k l x

      begin : (j v : ℕ) → (bit v (get_or f j 0) ≡ true) ⊎ ((k : ℕ) × (passes k ≡ true) × (cell k j ≡ v))
          → (bit v (get_or f j 0) ≡ true) ⊎ ((k : ℕ) × (all k ≡ true) × (cell k j ≡ v))
      begin j v (inl x) = inl x
      begin j v (inr (k, x, y)) = inr (k, e k ∙ or_l (passes k) (more k) x, y)

      second : (j v : ℕ) → j < 4 → (bit v (get_or g j 0) ≡ true) ⊎ ((k : ℕ) × (more k ≡ true) × (cell k j ≡ v))
          → (bit v (get_or f j 0) ≡ true) ⊎ ((k : ℕ) × (all k ≡ true) × (cell k j ≡ v))
      second j v l (inl x) = begin j v (p.sound j v l x)
      second j v l (inr (k, x, y)) = inr (k, e k ∙ or_r (passes k) (more k) x, y)

  -- one row more
  pub of_row : {passes all : ℕ → Bool} (t : ℕ) {g h : List ℕ} → ((k : ℕ) → all k ≡ (passes k || eqb k t))
      → GatheredOf cell passes f g → ((j : ℕ) → j < 4 → get_or h j 0 ≡ bit_or (get_or g j 0) (2 ^ cell t j)) → GatheredOf cell all f h
  of_row t e p q = of_join e p (one_row cell t q)

-- the rows of the word that are no longer left
unfoldable pub passed : ℕ → ℕ → ℕ → Bool
passed word left k = bit k word && not (bit k left)

pub passed_start : (word k : ℕ) → passed word word k ≡ false
unfolding passed
passed_start word k = go (bit k word)
  where
    go : (x : Bool) → (x && not x) ≡ false
    go true = refl
    go false = refl

pub passed_end : (word k : ℕ) → passed word 0 k ≡ bit k word
unfolding passed
passed_end word k = rw bit_of_zero (and_true (bit k word))

pub passed_turn : {word left rest t : ℕ} → Part left word → Cleared left rest t → (k : ℕ) → passed word rest k ≡ (passed word left k || eqb k t)
unfolding passed
passed_turn {word} {left} {rest} {t} p c k =
    split k t
    (λ z. rw (z, c.gone, c.here, p.at t c.here, eq-eqb t t refl) refl)
    (λ n. rw (c.rest k n, ne_eqb k t n) (sym (or-false (bit k word && not (bit k left)))))

-- the lowest row that is left, gathered
pub of_turn : (cell : ℕ → ℕ → ℕ) {f g h : List ℕ} {word left rest t : ℕ} → Part left word → Cleared left rest t → GatheredOf cell (passed word left) f g
    → ((j : ℕ) → j < 4 → get_or h j 0 ≡ bit_or (get_or g j 0) (2 ^ cell t j)) → GatheredOf cell (passed word rest) f h × Part rest word
of_turn cell {t = t} p c q e = (of_row cell t (passed_turn p c) q e, part_cleared c p)

-- none is left: every row of the word was
pub of_all : (cell : ℕ → ℕ → ℕ) {f g : List ℕ} (word : ℕ) {left : ℕ} → left ≡ 0 → GatheredOf cell (passed word left) f g → GatheredOf cell (λ k. bit k word) f g
of_all cell word e h = of_same cell (λ i. ap (λ (m : ℕ). passed word m i) e ∙ passed_end word i) h

-- the first n rows
pub run_none : (k : ℕ) → ltb k 0 ≡ false
run_none k = le-ltb k 0 (omega arith)

pub run_more : (n k : ℕ) → ltb k (n + 1) ≡ (ltb k n || eqb k n)
run_more n k = go (below k n) (either (eqb k n))
  where
    go : (k < n) ⊎ (n ≤ k) → (eqb k n ≡ true) ⊎ (eqb k n ≡ false) → ltb k (n + 1) ≡ (ltb k n || eqb k n)
    go (inl l) e = rw (lt-ltb k n l) (lt-ltb k (n + 1) (omega arith))
    go (inr l) (inl e) = rw (le-ltb k n l, e) (lt-ltb k (n + 1) (let z = eqb-true k n e in omega arith))
    go (inr l) (inr e) = rw (le-ltb k n l, e) (le-ltb k (n + 1) (let z : n < k = lt_of_le-ne l (λ q. eqb-false k n e (sym q)) in omega arith))

-- a run, and the rows past it
pub run_joined : {word n rest : ℕ} → RunOf word n → PastRows word n rest → (k : ℕ) → bit k word ≡ (ltb k n || bit k rest)
run_joined {word} {n} {rest} r p k = go (below k n)
  where
    go : (k < n) ⊎ (n ≤ k) → bit k word ≡ (ltb k n || bit k rest)
    go (inl l) = rw (lt-ltb k n l) (r.at k l)
    go (inr l) = rw (p.at k, le-ltb k n l) (sym (and_true (bit k word)))

pub run_of : (word n : ℕ) → word < 2 ^ 64 → n ≡ count_trailing_zeros 64 (ones64 - word) → (n ≤ 64) × RunOf word n
run_of word n l e = (most, record { at = λ k m. not-false (bit k word) (clear k (rw e at m) (omega (arith, most))) })
  where
    most : n ≤ 64
    most = rw e (trailing_le 64 (ones64 - word))

    clear : (k : ℕ) → k < count_trailing_zeros 64 (ones64 - word) → k < 64 → not (bit k word) ≡ false
    clear k m q = sym (complement 64 word k l q) ∙ lowest_under 64 (ones64 - word) k m
