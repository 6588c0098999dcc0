-- Laws of counting: the ones of a mask, counts by blocks, and rows that every choice needs. Assumes nothing.
use mathlib.Core.Path.{◌∙◌, ◌≡◌, ap, ap₂, refl, sym}
use mathlib.Core.Bool.{Bool, ◌&&◌, cond, false, not, true, true≢false}
use mathlib.Core.Logic.{◌⊎◌, inl, inr}
use mathlib.Core.List.{List, [], ◌∷◌}
use Prim.Native.Nat.{◌%◌, ◌*◌, ◌+◌, ◌/◌, ◌<◌, ◌^◌, ◌≤◌, suc, zero, ℕ}
use native.Mathlib.Nat.{add-mul, le_of_suc-le-suc, not-suc-le-zero, one-mul, pow-succ', zero-lt-suc, zero-mul}
use native.Mathlib.Omega.{arith}
use lib.Count.{ones, ones_step, ones_in}
use lib.Dec.{eqb, ltb}
use lib.ListN.{get_or, length, set}
use borrow.Author.Tests.{eq-eqb, eqb-false, eqb-true, le-ltb, lt-ltb, ne_eqb, not-true}
use Rattle.model.specs.Tests.{all_below, any_below, count, one_if, sum}
use Rattle.model.specs.Masks.{bit, size}
use Rattle.model.specs.Stores.{has}
use Rattle.model.specs.Choices.{Distinct, Listed, Pigeonhole, Takes, space, space_but}
use Rattle.model.proofs.Tests.{all_below_e, all_below_i, and_i, and_l, and_r, any_below_e, any_below_i, below, either, none_count, one_count, one_if_le, some_count, sum_last, sum_le, sum_same}
use Rattle.model.proofs.Masks.{bit_below, bit_pow, bit_pow_only, bit_suc, bit_zero}
use Rattle.model.proofs.Choices.{Small, takes_cons, takes_nil}

-- ---- counts
pub count_last : (n : ℕ) (f : ℕ → Bool) → count (suc n) f ≡ count n f + one_if (f n)
unfolding count
count_last n f = sum_last n (λ i. one_if (f i))

pub count_same : (n : ℕ) (f g : ℕ → Bool) → ((i : ℕ) → i < n → f i ≡ g i) → count n f ≡ count n g
unfolding count
count_same n f g h = sum_same n (λ i. one_if (f i)) (λ i. one_if (g i)) (λ i l. ap one_if (h i l))

pub count_le : (n : ℕ) (f g : ℕ → Bool) → ((i : ℕ) → i < n → f i ≡ true → g i ≡ true) → count n f ≤ count n g
unfolding count
count_le n f g h = sum_le n (λ i. one_if (f i)) (λ i. one_if (g i)) (λ i l. one_if_le (f i) (g i) (h i l))

pub count_most : (n : ℕ) (f : ℕ → Bool) → count n f ≤ n
unfolding count sum
count_most zero f = omega arith
count_most (suc n) f = omega (arith, one_if_le (f 0) true (λ e. refl), count_most n (λ i. f (suc i)))

-- n numbers more
pub count_more : (m n : ℕ) (f : ℕ → Bool) → count (m + n) f ≡ count m f + count n (λ i. f (m + i))
unfolding count sum
count_more m zero f = let e : m + 0 ≡ m = omega arith in rw e (omega arith)
count_more m (suc n) f =
    let e : m + suc n ≡ suc (m + n) = omega arith in
    rw e (omega (arith, count_last (m + n) f, count_last n (λ i. f (m + i)), count_more m n f))

-- those that pass a second test, and those that do not
count_parts : (n : ℕ) (f t : ℕ → Bool) → count n f ≡ count n (λ i. f i && t i) + count n (λ i. f i && not (t i))
unfolding count sum
count_parts zero f t = refl
count_parts (suc n) f t = omega (arith, here (f 0) (t 0), count_parts n (λ i. f (suc i)) (λ i. t (suc i)))
  where
    here : (a b : Bool) → one_if a ≡ one_if (a && b) + one_if (a && not b)
    here true true = refl
    here true false = refl
    here false b = refl

-- ---- the places of a mask are its ones
digit : (m : ℕ) → one_if (eqb (m % 2) 1) ≡ m % 2
digit m = go (either (eqb (m % 2) 1))
  where
    go : (eqb (m % 2) 1 ≡ true) ⊎ (eqb (m % 2) 1 ≡ false) → one_if (eqb (m % 2) 1) ≡ m % 2
    go (inl e) = ap one_if e ∙ sym (eqb-true (m % 2) 1 e)
    go (inr e) = let ne : m % 2 ≡ 1 → ⊥ = eqb-false (m % 2) 1 e in ap one_if e ∙ omega arith

pub count_ones : (k m : ℕ) → m < 2 ^ k → count k (λ v. bit v m) ≡ ones m
unfolding count sum ones ones_in
count_ones zero m h = let e : m ≡ 0 = omega arith in rw e
count_ones (suc k) m h =
    ap₂ ◌+◌ (ap one_if (bit_zero m) ∙ digit m)
    (count_same k (λ v. bit (suc v) m) (λ v. bit v (m / 2)) (λ v l. bit_suc v m) ∙ count_ones k (m / 2) (omega (arith, pow-succ' 2 k)))
    ∙ sym (ones_step m)

-- ---- rows that every choice needs
-- k numbers v, and for each that passes at least c rows with g r ≡ v: a row has one v at most, so none counts twice
shares : (k c n : ℕ) (p f : ℕ → Bool) (g : ℕ → ℕ) → ((v : ℕ) → v < k → p v ≡ true → c ≤ count n (λ r. f r && eqb (g r) v)) → count k p * c ≤ count n f
unfolding count sum
shares zero c n p f g h = rw zero-mul (omega arith)
shares (suc k) c n p f g h =
    rw (count_last k p, add-mul)
    (omega (
      arith,
      shares k c n p (λ r. f r && not (eqb (g r) k)) g rest,
      here (p k) (h k (omega arith)),
      count_parts n f (λ r. eqb (g r) k),
    ))
  where
    here : (b : Bool) → (b ≡ true → c ≤ count n (λ r. f r && eqb (g r) k)) → one_if b * c ≤ count n (λ r. f r && eqb (g r) k)
    here true q = rw one-mul (q refl)
    here false q = rw zero-mul (omega arith)

    rest : (v : ℕ) → v < k → p v ≡ true → c ≤ count n (λ r. (f r && not (eqb (g r) k)) && eqb (g r) v)
    rest v l e = omega (arith, h v (omega arith) e, count_le n (λ r. f r && eqb (g r) v) (λ r. (f r && not (eqb (g r) k)) && eqb (g r) v) other)
      where
        other : (r : ℕ) → r < n → (f r && eqb (g r) v) ≡ true → ((f r && not (eqb (g r) k)) && eqb (g r) v) ≡ true
        other r m t =
            let s : eqb (g r) v ≡ true = and_r (f r) _ t in
            let z : g r ≡ v = eqb-true (g r) v s in
            and_i (and_i (and_l (f r) _ t) (ap not (ne_eqb (g r) k (λ y. omega arith)))) s

-- where every choice from B is a row that passes, as many rows pass as there are choices
pub crowded : (B : List ℕ) (n : ℕ) (passes : ℕ → Bool) (cell : ℕ → ℕ → ℕ)
    → ((t : List ℕ) → Takes B t → (r : ℕ) × (r < n) × (passes r ≡ true) × ((j : ℕ) → j < length B → cell r j ≡ get_or t j 0))
    → space B ≤ count n passes
unfolding space
crowded [] n passes cell h = let q = h [] takes_nil in some_count n passes q.0 q.1 q.2
crowded (m ∷ B) n passes cell h =
    shares 32 (space B) n (λ v. bit v m) passes (λ r. cell r 0)
    (λ v l e. crowded B n (λ r. passes r && eqb (cell r 0) v) (λ r j. cell r (suc j)) (λ t q. with_first v t (h (v ∷ t) (takes_cons e q))))
  where
    with_first : (v : ℕ) (t : List ℕ)
        → (r : ℕ) × (r < n) × (passes r ≡ true) × ((j : ℕ) → j < suc (length B) → cell r j ≡ get_or (v ∷ t) j 0)
        → (r : ℕ) × (r < n) × ((passes r && eqb (cell r 0) v) ≡ true) × ((j : ℕ) → j < length B → cell r (suc j) ≡ get_or t j 0)
    with_first v t q =
        (q.0, q.1, and_i q.2 (eq-eqb (cell q.0 0) v (q.3 0 (zero-lt-suc (length B)))), λ j l. q.3 (suc j) (omega arith))

-- ---- rows without repeats are no more than the choices
-- where each number that passes has a v below k that passes, and each such v has c of them at most
fits : (k c n : ℕ) (p f : ℕ → Bool) (g : ℕ → ℕ) → ((r : ℕ) → r < n → f r ≡ true → (g r < k) × (p (g r) ≡ true))
    → ((v : ℕ) → v < k → p v ≡ true → count n (λ r. f r && eqb (g r) v) ≤ c) → count n f ≤ count k p * c
fits zero c n p f g h m = rw (none_count n f (λ r l. none r l (either (f r)))) (omega arith)
  where
    none : (r : ℕ) → r < n → (f r ≡ true) ⊎ (f r ≡ false) → f r ≡ false
    none r l (inl e) = absurd (not-suc-le-zero (h r l e).0)
    none r l (inr e) = e
fits (suc k) c n p f g h m =
    rw (count_last k p, add-mul)
    (omega (arith, fits k c n p (λ r. f r && not (eqb (g r) k)) g rest few, here (either (p k)), count_parts n f (λ r. eqb (g r) k)))
  where
    here : (p k ≡ true) ⊎ (p k ≡ false) → count n (λ r. f r && eqb (g r) k) ≤ one_if (p k) * c
    here (inl e) = rw (e, one-mul) (m k (omega arith) e)
    here (inr e) = rw (e, zero-mul) (omega (arith, none_count n (λ r. f r && eqb (g r) k) (λ r l. none r l (either (f r && eqb (g r) k)))))
      where
        none : (r : ℕ) → r < n → ((f r && eqb (g r) k) ≡ true) ⊎ ((f r && eqb (g r) k) ≡ false) → (f r && eqb (g r) k) ≡ false
        none r l (inl t) =
            absurd (true≢false (sym (h r l (and_l (f r) _ t)).1 ∙ ap p (eqb-true (g r) k (and_r (f r) _ t)) ∙ e))
        none r l (inr t) = t

    rest : (r : ℕ) → r < n → (f r && not (eqb (g r) k)) ≡ true → (g r < k) × (p (g r) ≡ true)
    rest r l t =
        let q = h r l (and_l (f r) _ t) in
        let ne : g r ≡ k → ⊥ = eqb-false (g r) k (not-true _ (and_r (f r) _ t)) in
        (omega (arith, q.0), q.1)

    few : (v : ℕ) → v < k → p v ≡ true → count n (λ r. (f r && not (eqb (g r) k)) && eqb (g r) v) ≤ c
    few v l e =
        omega (
          arith,
          m v (omega arith) e,
          count_le n (λ r. (f r && not (eqb (g r) k)) && eqb (g r) v) (λ r. f r && eqb (g r) v)
              (λ r q t. and_i (and_l (f r) _ (and_l (f r && not (eqb (g r) k)) _ t)) (and_r (f r && not (eqb (g r) k)) _ t)),
        )

-- numbers that pass and are all the same
one_most : (n : ℕ) (f : ℕ → Bool) → ((r q : ℕ) → r < n → q < n → f r ≡ true → f q ≡ true → r ≡ q) → count n f ≤ 1
unfolding count sum
one_most zero f h = omega arith
one_most (suc n) f h = rw (count_last n f) (go (either (f n)) (one_most n f (λ r q l m. h r q (omega arith) (omega arith))))
  where
    none : f n ≡ true → (r : ℕ) → r < n → (f r ≡ true) ⊎ (f r ≡ false) → f r ≡ false
    none e r l (inl t) = absurd (omega (arith, h r n (omega arith) (omega arith) t e))
    none e r l (inr t) = t

    go : (f n ≡ true) ⊎ (f n ≡ false) → count n f ≤ 1 → count n f + one_if (f n) ≤ 1
    go (inl e) k = rw e (omega (arith, none_count n f (λ r l. none e r l (either (f r)))))
    go (inr e) k = rw e (omega arith)

roomy : (B : List ℕ) → Small B → (n : ℕ) (passes : ℕ → Bool) (cell : ℕ → ℕ → ℕ) → Distinct B n passes cell → count n passes ≤ space B
unfolding space has
roomy [] h n passes cell d = one_most n passes (λ r q l m e f. d.differ r q l m e f (λ j k. absurd (not-suc-le-zero k)))
roomy (m ∷ B) h n passes cell d =
    fits 32 (space B) n (λ v. bit v m) passes (λ r. cell r 0)
    (λ r l e. let t = d.inside r l e 0 (zero-lt-suc (length B)) in (bit_below 32 m (cell r 0) (h 0) t, t))
    (λ v l e. roomy B (λ c. h (suc c)) n (λ r. passes r && eqb (cell r 0) v) (λ r j. cell r (suc j)) (with_first v))
  where
    with_first : (v : ℕ) → Distinct B n (λ r. passes r && eqb (cell r 0) v) (λ r j. cell r (suc j))
    with_first v =
        record {
          inside = λ r l e j k. d.inside r l (and_l (passes r) _ e) (suc j) (omega arith);
          differ = λ r q l k e f s. d.differ r q l k (and_l (passes r) _ e) (and_l (passes q) _ f) (same r q e f s);
        }
      where
        same : (r q : ℕ) → (passes r && eqb (cell r 0) v) ≡ true → (passes q && eqb (cell q 0) v) ≡ true
            → ((j : ℕ) → j < length B → cell r (suc j) ≡ cell q (suc j)) → (j : ℕ) → j < suc (length B) → cell r j ≡ cell q j
        same r q e f s zero k = eqb-true (cell r 0) v (and_r (passes r) _ e) ∙ sym (eqb-true (cell q 0) v (and_r (passes q) _ f))
        same r q e f s (suc j) k = s j (le_of_suc-le-suc k)

-- one more that is not listed
module _ (B : List ℕ) (h : Small B) (n : ℕ) (passes : ℕ → Bool) (cell : ℕ → ℕ → ℕ) (d : Distinct B n passes cell) (t : List ℕ) (k : Takes B t) where
  abbrev more : ℕ → Bool
  more r = cond (ltb r n) (passes r) true

  abbrev with_one : ℕ → ℕ → ℕ
  with_one r j = cond (ltb r n) (cell r j) (get_or t j 0)

  abbrev here : ℕ → Bool
  here r = passes r && all_below (length B) (λ j. eqb (cell r j) (get_or t j 0))

  is_listed : (r : ℕ) → r < n → here r ≡ true → Listed B n passes cell t
  is_listed r l e =
      record {
        number = r;
        inside = l;
        chosen = and_l (passes r) _ e;
        same = λ j m. eqb-true _ _ (all_below_e (length B) (λ j. eqb (cell r j) (get_or t j 0)) (and_r (passes r) _ e) j m);
      }

  -- a number below n is as before, and n stands for t
  old : (r : ℕ) → r < n → (more r ≡ passes r) × ((j : ℕ) → with_one r j ≡ cell r j)
  old r l = (rw (lt-ltb r n l), λ j. rw (lt-ltb r n l))

  new : (r : ℕ) → n ≤ r → (j : ℕ) → with_one r j ≡ get_or t j 0
  new r l j = rw (le-ltb r n l)

  one_more : (Listed B n passes cell t → ⊥) → Distinct B (suc n) more with_one
  one_more none = record { inside = λ r l e j m. inside r e j m (below r n); differ = λ r q l m e f s. differ r q l m e f s (below r n) (below q n) }
    where
      inside : (r : ℕ) → more r ≡ true → (j : ℕ) → j < length B → (r < n) ⊎ (n ≤ r) → has B j (with_one r j) ≡ true
      inside r e j m (inl l) = rw ((old r l).1 j) (d.inside r l (sym (old r l).0 ∙ e) j m)
      inside r e j m (inr l) = rw (new r l j) (k.each j m)

      listed : (r : ℕ) → r < n → more r ≡ true → ((j : ℕ) → j < length B → with_one r j ≡ get_or t j 0) → Listed B n passes cell t
      listed r l e s = record { number = r; inside = l; chosen = sym (old r l).0 ∙ e; same = λ j m. sym ((old r l).1 j) ∙ s j m }

      differ : (r q : ℕ) → r < suc n → q < suc n → more r ≡ true → more q ≡ true
          → ((j : ℕ) → j < length B → with_one r j ≡ with_one q j) → (r < n) ⊎ (n ≤ r) → (q < n) ⊎ (n ≤ q) → r ≡ q
      differ r q l m e f s (inl a) (inl b) =
          d.differ r q a b (sym (old r a).0 ∙ e) (sym (old q b).0 ∙ f) (λ j z. sym ((old r a).1 j) ∙ s j z ∙ (old q b).1 j)
      differ r q l m e f s (inl a) (inr b) = absurd (none (listed r a e (λ j z. s j z ∙ new q b j)))
      differ r q l m e f s (inr a) (inl b) = absurd (none (listed q b f (λ j z. sym (s j z) ∙ new r a j)))
      differ r q l m e f s (inr a) (inr b) = omega arith

  -- as many as the choices: t is one of them
  found : count n passes ≡ space B → Listed B n passes cell t
  found e = go (either (any_below n here))
    where
      go : (any_below n here ≡ true) ⊎ (any_below n here ≡ false) → Listed B n passes cell t
      go (inl p) = let r = any_below_e n here p in is_listed r.0 r.1 r.2
      go (inr p) =
          absurd
          (omega (
            arith,
            e,
            roomy B h (suc n) more with_one (one_more none),
            count_last n more,
            count_same n more passes (λ r l. (old r l).0),
            ap one_if (last (le-ltb n n (omega arith))),
          ))
        where
          last : ltb n n ≡ false → more n ≡ true
          last q = rw q

          none : Listed B n passes cell t → ⊥
          none q =
              true≢false
              (sym (any_below_i n here q.number q.inside
              (and_i q.chosen (all_below_i (length B) (λ j. eqb (cell q.number j) (get_or t j 0)) (λ j m. eq-eqb _ _ (q.same j m))))) ∙ p)

pub pigeonhole : (B : List ℕ) → Small B → (n : ℕ) (passes : ℕ → Bool) (cell : ℕ → ℕ → ℕ) → Distinct B n passes cell → Pigeonhole B n passes cell
pigeonhole B h n passes cell d =
    record {
      most = roomy B h n passes cell d;
      full = (
        λ e t k. found B h n passes cell d t k e,
        λ f. omega (
          arith,
          roomy B h n passes cell d,
          crowded B n passes cell (λ t k. let q = f t k in (q.number, q.inside, q.chosen, q.same)),
        ),
      );
    }

-- ---- the choices with one value at place i
pub size_pow : (v : ℕ) → v < 32 → size (2 ^ v) ≡ 1
size_pow v l = one_count 32 (λ u. bit u (2 ^ v)) v l (bit_pow v) (λ u e. bit_pow_only v u e)

pub space_single : (B : List ℕ) (i v : ℕ) → i < length B → v < 32 → space (set B i (2 ^ v)) ≡ space_but i B
unfolding space space_but
space_single [] i v l m = absurd (not-suc-le-zero l)
space_single (d ∷ B) zero v l m = ap (λ (n : ℕ). n * space B) (size_pow v m) ∙ one-mul (space B)
space_single (d ∷ B) (suc i) v l m = ap (λ (n : ℕ). size d * n) (space_single B i v (le_of_suc-le-suc l) m)
