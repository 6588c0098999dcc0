-- Laws of the tests over numbers and lists, of counts, and of `&&` and `||`. Assumes nothing.
use mathlib.Core.Path.{◌∙◌, ◌≡◌, ap, ap₂, refl, sym}
use mathlib.Core.Bool.{Bool, ◌&&◌, ◌||◌, false, false≢true, true}
use mathlib.Core.Logic.{◌⊎◌, inl, inr}
use mathlib.Core.List.{List, Memᴰ, [], ◌∷◌}
use Prim.Native.Nat.{◌+◌, ◌<◌, ◌≤◌, suc, zero, ℕ}
use native.Mathlib.Nat.{le_of_suc-le-suc, le_refl, not-suc-le-zero, zero-lt-suc}
use native.Mathlib.Omega.{arith}
use lib.Dec.{eqb, ltb}
use lib.ListN.{get_or-eq_default, get_or, get_or-replicate, length, length-replicate, replicate}
use borrow.Author.Tests.{eq-eqb, eqb-true, ltb-false, ltb-true}
use Rattle.model.specs.Tests.{all_below, all_in, any_below, any_in, count, eq_list, lowest, one_if, sum, tab}

-- ---- `&&`, `||`
pub and_l : (a b : Bool) → (a && b) ≡ true → a ≡ true
and_l true b e = refl
and_l false b e = absurd (false≢true e)

pub and_r : (a b : Bool) → (a && b) ≡ true → b ≡ true
and_r true b e = e
and_r false b e = absurd (false≢true e)

pub and_i : {a b : Bool} → a ≡ true → b ≡ true → (a && b) ≡ true
and_i p q = cc

pub or_e : (a b : Bool) → (a || b) ≡ true → (a ≡ true) ⊎ (b ≡ true)
or_e true b e = inl refl
or_e false b e = inr e

pub or_l : (a b : Bool) → a ≡ true → (a || b) ≡ true
or_l a b p = cc

pub or_r : (a b : Bool) → b ≡ true → (a || b) ≡ true
or_r true b p = refl
or_r false b p = p

-- weaker tests on both sides
pub or_mono : {a b c d : Bool} → (a ≡ true → c ≡ true) → (b ≡ true → d ≡ true) → (a || b) ≡ true → (c || d) ≡ true
or_mono {a} {b} {c} {d} f g e = go (or_e a b e)
  where
    go : (a ≡ true) ⊎ (b ≡ true) → (c || d) ≡ true
    go (inl p) = or_l c d (f p)
    go (inr q) = or_r c d (g q)

pub or_false_l : (a b : Bool) → (a || b) ≡ false → a ≡ false
or_false_l true b e = e
or_false_l false b e = refl

pub or_false_r : (a b : Bool) → (a || b) ≡ false → b ≡ false
or_false_r true b e = absurd (false≢true (sym e))
or_false_r false b e = e

-- two pairs of tests, one from each
pub or_swap : (a b c d : Bool) → ((a || b) || (c || d)) ≡ ((a || c) || (b || d))
or_swap true b c d = refl
or_swap false true true d = refl
or_swap false true false d = refl
or_swap false false true d = refl
or_swap false false false d = refl

pub and_true : (a : Bool) → (a && true) ≡ a
and_true true = refl
and_true false = refl

pub and_false : (a : Bool) → (a && false) ≡ false
and_false true = refl
and_false false = refl

pub and_assoc : (a b d : Bool) → (a && (b && d)) ≡ ((a && b) && d)
and_assoc true b d = refl
and_assoc false b d = refl

-- a test is true, or it is false
pub either : (b : Bool) → (b ≡ true) ⊎ (b ≡ false)
either true = inl refl
either false = inr refl

-- two tests that hold together are equal
pub same_test : (a b : Bool) → (a ≡ true → b ≡ true) → (b ≡ true → a ≡ true) → a ≡ b
same_test true b f g = sym (f refl)
same_test false true f g = g refl
same_test false false f g = refl

-- ---- every number, some number below a bound
pub all_below_e : (n : ℕ) (f : ℕ → Bool) → all_below n f ≡ true → (i : ℕ) → i < n → f i ≡ true
unfolding all_below
all_below_e zero f e i h = absurd (not-suc-le-zero h)
all_below_e (suc n) f e zero h = and_l (f 0) _ e
all_below_e (suc n) f e (suc i) h = all_below_e n (λ j. f (suc j)) (and_r (f 0) _ e) i (le_of_suc-le-suc h)

pub all_below_i : (n : ℕ) (f : ℕ → Bool) → ((i : ℕ) → i < n → f i ≡ true) → all_below n f ≡ true
unfolding all_below
all_below_i zero f h = refl
all_below_i (suc n) f h = and_i (h 0 (zero-lt-suc n)) (all_below_i n (λ j. f (suc j)) (λ i l. h (suc i) (omega arith)))

pub all_below_same : (n : ℕ) (f g : ℕ → Bool) → ((i : ℕ) → i < n → f i ≡ g i) → all_below n f ≡ all_below n g
unfolding all_below
all_below_same zero f g h = refl
all_below_same (suc n) f g h = ap₂ ◌&&◌ (h 0 (zero-lt-suc n)) (all_below_same n (λ i. f (suc i)) (λ i. g (suc i)) (λ i l. h (suc i) (omega arith)))

pub all_below_last : (n : ℕ) (f : ℕ → Bool) → all_below (suc n) f ≡ (all_below n f && f n)
unfolding all_below
all_below_last zero f = and_true (f 0)
all_below_last (suc n) f =
    ap (λ (t : Bool). f 0 && t) (all_below_last n (λ i. f (suc i))) ∙ and_assoc (f 0) (all_below n (λ i. f (suc i))) (f (suc n))

pub any_below_e : (n : ℕ) (f : ℕ → Bool) → any_below n f ≡ true → (i : ℕ) × (i < n) × (f i ≡ true)
unfolding any_below
any_below_e zero f e = absurd (false≢true e)
any_below_e (suc n) f e = go (or_e (f 0) _ e) (λ d. any_below_e n (λ j. f (suc j)) d)
  where
    go : (f 0 ≡ true) ⊎ (any_below n (λ j. f (suc j)) ≡ true)
        → (any_below n (λ j. f (suc j)) ≡ true → (i : ℕ) × (i < n) × (f (suc i) ≡ true))
        → (i : ℕ) × (i < suc n) × (f i ≡ true)
    go (inl p) k = (0, zero-lt-suc n, p)
    go (inr q) k = let r = k q in (suc r.0, omega arith, r.2)

pub any_below_i : (n : ℕ) (f : ℕ → Bool) (i : ℕ) → i < n → f i ≡ true → any_below n f ≡ true
unfolding any_below
any_below_i zero f i h e = absurd (not-suc-le-zero h)
any_below_i (suc n) f zero h e = or_l (f 0) _ e
any_below_i (suc n) f (suc i) h e = or_r (f 0) _ (any_below_i n (λ j. f (suc j)) i (le_of_suc-le-suc h) e)

pub any_below_none : (n : ℕ) (f : ℕ → Bool) → ((i : ℕ) → i < n → f i ≡ false) → any_below n f ≡ false
unfolding any_below
any_below_none zero f h = refl
any_below_none (suc n) f h =
    ap (λ (t : Bool). t || any_below n (λ i. f (suc i))) (h 0 (zero-lt-suc n)) ∙ any_below_none n (λ i. f (suc i)) (λ i l. h (suc i) (omega arith))

-- ---- every element, some element of a list
module _ {A : Type 0} where
  pub all_in_mono : (l : List A) (f g : A → Bool) → ((x : A) → f x ≡ true → g x ≡ true) → all_in l f ≡ true → all_in l g ≡ true
  unfolding all_in
  all_in_mono [] f g h e = refl
  all_in_mono (x ∷ xs) f g h e = and_i (h x (and_l (f x) _ e)) (all_in_mono xs f g h (and_r (f x) _ e))

  pub all_in_e : (l : List A) (f : A → Bool) → all_in l f ≡ true → (x : A) → Memᴰ x l → f x ≡ true
  unfolding all_in
  all_in_e [] f e y m = elim m [ ]
  all_in_e (x ∷ xs) f e y (Memᴰ.head p) = ap f p ∙ and_l (f x) _ e
  all_in_e (x ∷ xs) f e y (Memᴰ.tail m) = all_in_e xs f (and_r (f x) _ e) y m

  pub all_in_i : (l : List A) (f : A → Bool) → ((x : A) → Memᴰ x l → f x ≡ true) → all_in l f ≡ true
  unfolding all_in
  all_in_i [] f h = refl
  all_in_i (x ∷ xs) f h = and_i (h x (Memᴰ.head refl)) (all_in_i xs f (λ y m. h y (Memᴰ.tail m)))

  -- two lists that pass alike, place by place
  pub all_in_same : (d : A) (l m : List A) (f : A → Bool) → length l ≡ length m → ((i : ℕ) → i < length l → f (get_or l i d) ≡ f (get_or m i d))
      → all_in l f ≡ all_in m f
  unfolding all_in
  all_in_same d [] [] f e h = refl
  all_in_same d [] (y ∷ m) f e h = absurd (omega arith)
  all_in_same d (x ∷ l) [] f e h = absurd (omega arith)
  all_in_same d (x ∷ l) (y ∷ m) f e h = ap₂ ◌&&◌ (h 0 (zero-lt-suc (length l))) (all_in_same d l m f (omega arith) (λ i k. h (suc i) (omega arith)))

  pub any_in_e : (l : List A) (f : A → Bool) → any_in l f ≡ true → (x : A) × Memᴰ x l × (f x ≡ true)
  unfolding any_in
  any_in_e [] f e = absurd (false≢true e)
  any_in_e (x ∷ xs) f e = go (or_e (f x) _ e) (any_in_e xs f)
    where
      go : (f x ≡ true) ⊎ (any_in xs f ≡ true) → (any_in xs f ≡ true → (y : A) × Memᴰ y xs × (f y ≡ true))
          → (y : A) × Memᴰ y (x ∷ xs) × (f y ≡ true)
      go (inl p) k = (x, Memᴰ.head refl, p)
      go (inr q) k = let r = k q in (r.0, Memᴰ.tail r.1, r.2)

  pub any_in_i : (l : List A) (f : A → Bool) (x : A) → Memᴰ x l → f x ≡ true → any_in l f ≡ true
  unfolding any_in
  any_in_i [] f y m e = elim m [ ]
  any_in_i (x ∷ xs) f y (Memᴰ.head p) e = or_l (f x) _ (ap f (sym p) ∙ e)
  any_in_i (x ∷ xs) f y (Memᴰ.tail m) e = or_r (f x) _ (any_in_i xs f y m e)

-- ---- the sum of a function over the numbers below a bound; how many of them pass a test
pub sum_le : (n : ℕ) (f g : ℕ → ℕ) → ((i : ℕ) → i < n → f i ≤ g i) → sum n f ≤ sum n g
unfolding sum
sum_le zero f g h = omega arith
sum_le (suc n) f g h =
    omega (arith, h 0 (zero-lt-suc n), sum_le n (λ j. f (suc j)) (λ j. g (suc j)) (λ i l. h (suc i) (omega arith)))

-- one term more, at the end
pub sum_last : (n : ℕ) (f : ℕ → ℕ) → sum (suc n) f ≡ sum n f + f n
unfolding sum
sum_last zero f = omega arith
sum_last (suc n) f = omega (arith, sum_last n (λ j. f (suc j)))

pub sum_same : (n : ℕ) (f g : ℕ → ℕ) → ((i : ℕ) → i < n → f i ≡ g i) → sum n f ≡ sum n g
unfolding sum
sum_same zero f g h = refl
sum_same (suc n) f g h = omega (arith, h 0 (zero-lt-suc n), sum_same n (λ j. f (suc j)) (λ j. g (suc j)) (λ i l. h (suc i) (omega arith)))

-- a sum that did not fall has every term as it was
pub sum_eq : (n : ℕ) (f g : ℕ → ℕ) → ((i : ℕ) → i < n → f i ≤ g i) → sum n f ≡ sum n g → (i : ℕ) → i < n → f i ≡ g i
unfolding sum
sum_eq zero f g h e i l = absurd (not-suc-le-zero l)
sum_eq (suc n) f g h e zero l =
    omega (arith, h 0 l, sum_le n (λ j. f (suc j)) (λ j. g (suc j)) (λ k m. h (suc k) (omega arith)))
sum_eq (suc n) f g h e (suc i) l =
    sum_eq n (λ j. f (suc j)) (λ j. g (suc j)) (λ k m. h (suc k) (omega arith))
    (omega (arith, h 0 (zero-lt-suc n), sum_le n (λ j. f (suc j)) (λ j. g (suc j)) (λ k m. h (suc k) (omega arith)))) i (le_of_suc-le-suc l)

pub one_if_le : (a b : Bool) → (a ≡ true → b ≡ true) → one_if a ≤ one_if b
one_if_le true b h = rw (h refl) (le_refl 1)
one_if_le false b h = omega arith

pub one_if_eq : (a b : Bool) → one_if a ≡ one_if b → a ≡ b
one_if_eq true true e = refl
one_if_eq false false e = refl
one_if_eq true false e = absurd (omega arith)
one_if_eq false true e = absurd (omega arith)

-- ---- equal lists of numbers
pub eq_list_e : (l m : List ℕ) → eq_list l m ≡ true → l ≡ m
unfolding eq_list
eq_list_e [] [] e = refl
eq_list_e [] (y ∷ ys) e = absurd (false≢true e)
eq_list_e (x ∷ xs) [] e = absurd (false≢true e)
eq_list_e (x ∷ xs) (y ∷ ys) e =
    let p : x ≡ y = eqb-true x y (and_l (eqb x y) _ e) in
    let q : xs ≡ ys = eq_list_e xs ys (and_r (eqb x y) _ e) in
    cc

pub eq_list_refl : (l : List ℕ) → eq_list l l ≡ true
unfolding eq_list
eq_list_refl [] = refl
eq_list_refl (x ∷ xs) = and_i (eq-eqb x x refl) (eq_list_refl xs)

-- ---- the lowest number below a bound that passes a test, or the bound
pub lowest_e : (n : ℕ) (f : ℕ → Bool) → lowest n f < n → f (lowest n f) ≡ true
unfolding lowest
lowest_e zero f h = absurd (not-suc-le-zero h)
lowest_e (suc n) f h = go (either (f 0)) (lowest_e n (λ i. f (suc i)))
  where
    go : (f 0 ≡ true) ⊎ (f 0 ≡ false) → (lowest n (λ i. f (suc i)) < n → f (suc (lowest n (λ i. f (suc i)))) ≡ true) → f (lowest (suc n) f) ≡ true
    go (inl p) r = let k : lowest (suc n) f ≡ 0 = rw p in rw k p
    go (inr q) r = let k : lowest (suc n) f ≡ suc (lowest n (λ i. f (suc i))) = rw q in rw k (r (omega arith))

pub lowest_before : (n : ℕ) (f : ℕ → Bool) (i : ℕ) → i < lowest n f → f i ≡ false
unfolding lowest
lowest_before zero f i h = absurd (not-suc-le-zero h)
lowest_before (suc n) f i h = go i h (either (f 0)) (lowest_before n (λ i. f (suc i)))
  where
    go : (i : ℕ) → i < lowest (suc n) f → (f 0 ≡ true) ⊎ (f 0 ≡ false)
        → ((j : ℕ) → j < lowest n (λ i. f (suc i)) → f (suc j) ≡ false) → f i ≡ false
    go i l (inl p) r = let k : lowest (suc n) f ≡ 0 = rw p in absurd (omega arith)
    go zero l (inr q) r = q
    go (suc i) l (inr q) r = let k : lowest (suc n) f ≡ suc (lowest n (λ i. f (suc i))) = rw q in r i (omega arith)

pub lowest_le : (n : ℕ) (f : ℕ → Bool) → lowest n f ≤ n
unfolding lowest
lowest_le zero f = omega arith
lowest_le (suc n) f = go (either (f 0)) (lowest_le n (λ i. f (suc i)))
  where
    go : (f 0 ≡ true) ⊎ (f 0 ≡ false) → lowest n (λ i. f (suc i)) ≤ n → lowest (suc n) f ≤ suc n
    go (inl p) l = let k : lowest (suc n) f ≡ 0 = rw p in omega arith
    go (inr q) l = let k : lowest (suc n) f ≡ suc (lowest n (λ i. f (suc i))) = rw q in omega arith

-- ---- exactly one
sum_zero : (n : ℕ) (f : ℕ → ℕ) → sum n f ≡ 0 → (i : ℕ) → i < n → f i ≡ 0
unfolding sum
sum_zero zero f e i l = absurd (not-suc-le-zero l)
sum_zero (suc n) f e zero l = omega arith
sum_zero (suc n) f e (suc i) l = sum_zero n (λ j. f (suc j)) (omega arith) i (le_of_suc-le-suc l)

zero_sum : (n : ℕ) (f : ℕ → ℕ) → ((i : ℕ) → i < n → f i ≡ 0) → sum n f ≡ 0
unfolding sum
zero_sum zero f h = refl
zero_sum (suc n) f h = omega (arith, h 0 (zero-lt-suc n), zero_sum n (λ j. f (suc j)) (λ i l. h (suc i) (omega arith)))

one_if_true : (a : Bool) → a ≡ true → one_if a ≡ 1
one_if_true a e = ap one_if e

one_if_false : (a : Bool) → (a ≡ true → ⊥) → one_if a ≡ 0
one_if_false true h = absurd (h refl)
one_if_false false h = refl

-- where one passes, any two that pass are the same
pub one_same : (n : ℕ) (f : ℕ → Bool) → count n f ≡ 1 → (i j : ℕ) → i < n → j < n → f i ≡ true → f j ≡ true → i ≡ j
unfolding count sum
one_same zero f e i j li lj p q = absurd (not-suc-le-zero li)
one_same (suc n) f e zero zero li lj p q = refl
one_same (suc n) f e zero (suc j) li lj p q =
    absurd (omega (arith, one_if_true _ p, one_if_true _ q, sum_zero n (λ k. one_if (f (suc k))) (omega (arith, one_if_true _ p)) j (le_of_suc-le-suc lj)))
one_same (suc n) f e (suc i) zero li lj p q =
    absurd (omega (arith, one_if_true _ p, one_if_true _ q, sum_zero n (λ k. one_if (f (suc k))) (omega (arith, one_if_true _ q)) i (le_of_suc-le-suc li)))
one_same (suc n) f e (suc i) (suc j) li lj p q = go (either (f 0)) (one_same n (λ k. f (suc k)))
  where
    go : (f 0 ≡ true) ⊎ (f 0 ≡ false)
        → (count n (λ k. f (suc k)) ≡ 1 → (i j : ℕ) → i < n → j < n → f (suc i) ≡ true → f (suc j) ≡ true → i ≡ j) → suc i ≡ suc j
    go (inl a) r = absurd (omega (arith, one_if_true _ a, one_if_true _ p, sum_zero n (λ k. one_if (f (suc k))) (omega (arith, one_if_true _ a)) i (le_of_suc-le-suc li)))
    go (inr a) r = ap suc (r (omega (arith, ap one_if a)) i j (le_of_suc-le-suc li) (le_of_suc-le-suc lj) p q)

-- one passes, where one does and no other
pub one_count : (n : ℕ) (f : ℕ → Bool) (i : ℕ) → i < n → f i ≡ true → ((j : ℕ) → f j ≡ true → j ≡ i) → count n f ≡ 1
unfolding count sum
one_count zero f i l p h = absurd (not-suc-le-zero l)
one_count (suc n) f zero l p h =
    omega
    (arith, one_if_true _ p, zero_sum n (λ k. one_if (f (suc k))) (λ j m. one_if_false (f (suc j)) (λ e. let z : suc j ≡ 0 = h (suc j) e in omega arith)))
one_count (suc n) f (suc i) l p h =
    omega (
      arith,
      one_if_false (f 0) (λ e. let z : 0 ≡ suc i = h 0 e in omega arith),
      one_count n (λ k. f (suc k)) i (le_of_suc-le-suc l) p (λ j e. let z : suc j ≡ suc i = h (suc j) e in omega arith),
    )

-- as many as none, where none passes
pub none_count : (n : ℕ) (f : ℕ → Bool) → ((i : ℕ) → i < n → f i ≡ false) → count n f ≡ 0
unfolding count
none_count n f h = zero_sum n (λ k. one_if (f k)) (λ i l. ap one_if (h i l))

-- some, where one passes
pub some_count : (n : ℕ) (f : ℕ → Bool) (i : ℕ) → i < n → f i ≡ true → 0 < count n f
unfolding count
some_count n f i l p = go (count n f) refl
  where
    go : (k : ℕ) → count n f ≡ k → 0 < count n f
    go zero e = absurd (omega (arith, one_if_true _ p, sum_zero n (λ k. one_if (f k)) e i l))
    go (suc k) e = omega arith

-- more than one, where two do
pub two_count : (n : ℕ) (f : ℕ → Bool) (i j : ℕ) → i < n → j < n → f i ≡ true → f j ≡ true → (i ≡ j → ⊥) → 1 < count n f
two_count n f i j li lj p q ne = go (count n f) refl (some_count n f i li p)
  where
    go : (k : ℕ) → count n f ≡ k → 0 < count n f → 1 < count n f
    go zero e s = absurd (omega arith)
    go (suc zero) e s = absurd (ne (one_same n f e i j li lj p q))
    go (suc (suc k)) e s = omega arith

-- ---- a table
pub length-tab : {A : Type 0} (n : ℕ) (f : ℕ → A) → length (tab n f) ≡ n
unfolding tab
length-tab zero f = refl
length-tab (suc n) f = ap suc (length-tab n (λ i. f (suc i)))

pub get_or-tab : {A : Type 0} (d : A) (n : ℕ) (f : ℕ → A) (i : ℕ) → i < n → get_or (tab n f) i d ≡ f i
unfolding tab
get_or-tab d zero f i h = absurd (not-suc-le-zero h)
get_or-tab d (suc n) f zero h = refl
get_or-tab d (suc n) f (suc i) h = get_or-tab d n (λ j. f (suc j)) i (le_of_suc-le-suc h)

pub get_or-tab_out : (n : ℕ) (f : ℕ → ℕ) (i : ℕ) → n ≤ i → get_or (tab n f) i 0 ≡ 0
get_or-tab_out n f i h = get_or-eq_default (tab n f) 0 (omega (arith, length-tab n f))

pub tab_same : {A : Type 0} (n : ℕ) (f g : ℕ → A) → ((i : ℕ) → i < n → f i ≡ g i) → tab n f ≡ tab n g
unfolding tab
tab_same zero f g h = refl
tab_same {A} (suc n) f g h =
    ap₂ (λ (x : A) (l : List A). x ∷ l) (h 0 (omega arith)) (tab_same n (λ i. f (suc i)) (λ i. g (suc i)) (λ i l. h (suc i) (omega arith)))

-- ---- order
pub positive : (x : ℕ) → (x ≡ 0 → ⊥) → 0 < x
positive zero f = absurd (f refl)
positive (suc x) f = omega arith

-- a number is below another, or not
pub below : (a b : ℕ) → (a < b) ⊎ (b ≤ a)
below a b = go (either (ltb a b))
  where
    go : (ltb a b ≡ true) ⊎ (ltb a b ≡ false) → (a < b) ⊎ (b ≤ a)
    go (inl p) = inl (ltb-true a b p)
    go (inr q) = inr (ltb-false a b q)

-- a list of zeros
pub zeros_at : (n c : ℕ) → ◌≡◌ {A = ℕ} (get_or (replicate n 0) c 0) 0
zeros_at n c = go (below c n)
  where
    go : (c < n) ⊎ (n ≤ c) → ◌≡◌ {A = ℕ} (get_or (replicate n 0) c 0) 0
    go (inl l) = get_or-replicate n c 0 0 l
    go (inr l) = get_or-eq_default (replicate n 0) 0 (omega (arith, length-replicate {A = ℕ} n 0))

-- the same as a table: the masks of no solution
pub tab_zeros : (n c : ℕ) → ◌≡◌ {A = ℕ} (get_or (tab n (λ i. 0)) c 0) 0
tab_zeros n c = go (below c n)
  where
    go : (c < n) ⊎ (n ≤ c) → ◌≡◌ {A = ℕ} (get_or (tab n (λ i. 0)) c 0) 0
    go (inl l) = get_or-tab {A = ℕ} 0 n (λ i. 0) c l
    go (inr l) = get_or-tab_out n (λ i. 0) c l
