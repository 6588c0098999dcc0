-- Laws of masks: the places that are set. Assumes nothing.
use mathlib.Core.Path.{◌∙◌, ◌≡◌, ap, ap₂, refl, subst⁻¹, sym}
use mathlib.Core.Bool.{Bool, ◌&&◌, ◌||◌, false, false≢true, not, true, true≢false}
use mathlib.Core.Logic.{◌⊎◌, inl, inr}
use Prim.Native.Nat.{◌%◌, ◌*◌, ◌+◌, ◌-◌, ◌/◌, ◌<◌, ◌^◌, ◌≤◌, max, min, suc, zero, ℕ}
use native.Mathlib.Nat.{div-div-eq-div-mul, div-eq_of_lt, div-one, le_of_suc-le-suc, lt_of_le_of_lt, lt_of_lt_of_le, not-suc-le-zero, pow-succ', zero-div, zero-lt-suc}
use native.Mathlib.Omega.{arith}
use lib.Bits.{and_le_l, and_self, and_step, bit_and, bit_or, or_step}
use lib.Count.{count_trailing_zeros, under}
use lib.Dec.{eqb, ltb}
use lib.Pow.{pow_mono}
use borrow.Author.Tests.{eq-eqb, eqb-false, eqb-true, le-ltb, lt-ltb, ne_eqb}
use Rattle.model.specs.Masks.{Cleared, bit, mask_of, size}
use Rattle.model.specs.Tests.{one_if}
use Rattle.model.proofs.Tests.{below, either, none_count, one_count, positive, two_count}

-- every place below 32, 60 or 64
abbrev pub ones32 : ℕ
ones32 = 4294967295

abbrev pub ones60 : ℕ
ones60 = 1152921504606846975

abbrev pub ones64 : ℕ
ones64 = 18446744073709551615

pub bit_zero : (m : ℕ) → bit 0 m ≡ eqb (m % 2) 1
unfolding bit
bit_zero m = rw div-one

pub bit_suc : (v m : ℕ) → bit (suc v) m ≡ bit v (m / 2)
unfolding bit
bit_suc v m = rw (pow-succ', ← div-div-eq-div-mul m 2 (2 ^ v))

low : (b : Bool) (m : ℕ) → bit 0 (one_if b + 2 * m) ≡ b
low true m = bit_zero (1 + 2 * m) ∙ eq-eqb ((1 + 2 * m) % 2) 1 (omega arith)
low false m = bit_zero (0 + 2 * m) ∙ ne_eqb ((0 + 2 * m) % 2) 1 (λ e. omega arith)

half : (b : Bool) (m : ℕ) → (one_if b + 2 * m) / 2 ≡ m
half true m = omega arith
half false m = omega arith

one_if_le_1 : (b : Bool) → one_if b ≤ 1
one_if_le_1 true = omega arith
one_if_le_1 false = omega arith

pub bit_of_zero : (v : ℕ) → bit v 0 ≡ false
unfolding bit
bit_of_zero v = rw zero-div

pub bit-mask_of : (k : ℕ) (f : ℕ → Bool) (v : ℕ) → v < k → bit v (mask_of k f) ≡ f v
unfolding mask_of
bit-mask_of zero f v h = absurd (not-suc-le-zero h)
bit-mask_of (suc k) f zero h = low (f 0) _
bit-mask_of (suc k) f (suc v) h =
    bit_suc v _ ∙ ap (bit v) (half (f 0) _) ∙ bit-mask_of k (λ j. f (suc j)) v (le_of_suc-le-suc h)

pub mask_of_lt : (k : ℕ) (f : ℕ → Bool) → mask_of k f < 2 ^ k
unfolding mask_of
mask_of_lt zero f = omega arith
mask_of_lt (suc k) f = omega (arith, mask_of_lt k (λ j. f (suc j)), one_if_le_1 (f 0))

pub mask_of_same : (k : ℕ) (f g : ℕ → Bool) → ((v : ℕ) → v < k → f v ≡ g v) → mask_of k f ≡ mask_of k g
unfolding mask_of
mask_of_same zero f g h = refl
mask_of_same (suc k) f g h =
    ap₂ (λ (b : Bool) (m : ℕ). one_if b + 2 * m) (h 0 (zero-lt-suc k)) (mask_of_same k (λ j. f (suc j)) (λ j. g (suc j)) (λ v l. h (suc v) (omega arith)))

-- two digits are equal where they are 1 together
digit : (a b : ℕ) → a < 2 → b < 2 → eqb a 1 ≡ eqb b 1 → a ≡ b
digit a b ha hb e = go (either (eqb a 1))
  where
    go : (eqb a 1 ≡ true) ⊎ (eqb a 1 ≡ false) → a ≡ b
    go (inl p) = eqb-true a 1 p ∙ sym (eqb-true b 1 (sym e ∙ p))
    go (inr q) = let x : a ≡ 1 → ⊥ = eqb-false a 1 q in let y : b ≡ 1 → ⊥ = eqb-false b 1 (sym e ∙ q) in omega arith

-- masks below 2 ^ k with the same places set are equal
pub mask_ext : (k m n : ℕ) → m < 2 ^ k → n < 2 ^ k → ((v : ℕ) → v < k → bit v m ≡ bit v n) → m ≡ n
mask_ext zero m n hm hn h = omega arith
mask_ext (suc k) m n hm hn h =
    let d : m % 2 ≡ n % 2 = digit (m % 2) (n % 2) (omega arith) (omega arith) (sym (bit_zero m) ∙ h 0 (zero-lt-suc k) ∙ bit_zero n) in
    let r : m / 2 ≡ n / 2 = mask_ext k (m / 2) (n / 2) (omega arith) (omega arith) (λ v l. sym (bit_suc v m) ∙ h (suc v) (omega arith) ∙ bit_suc v n) in
    omega arith

-- a mask that is not 0 has a place
pub some_bit : (k m : ℕ) → m < 2 ^ k → 0 < m → (v : ℕ) × (v < k) × (bit v m ≡ true)
some_bit zero m h p = absurd (omega arith)
some_bit (suc k) m h p = go (either (eqb (m % 2) 1)) (some_bit k (m / 2) (omega arith))
  where
    go : (eqb (m % 2) 1 ≡ true) ⊎ (eqb (m % 2) 1 ≡ false) → (0 < m / 2 → (v : ℕ) × (v < k) × (bit v (m / 2) ≡ true))
        → (v : ℕ) × (v < suc k) × (bit v m ≡ true)
    go (inl e) r = (0, zero-lt-suc k, bit_zero m ∙ e)
    go (inr e) r =
        let q : m % 2 ≡ 1 → ⊥ = eqb-false (m % 2) 1 e in
        let s = r (omega arith) in (suc s.0, omega arith, bit_suc s.0 m ∙ s.2)

-- so every number but 0 has a place
pub lt_own_pow : (n : ℕ) → n < 2 ^ n
lt_own_pow zero = omega arith
lt_own_pow (suc n) = let h = lt_own_pow n in rw pow-succ' (omega arith)

-- ---- `&` and `|`: any operation that works digit by digit works place by place
module _ (op digits : ℕ → ℕ → ℕ) (both : Bool → Bool → Bool)
    (op-step : (a b : ℕ) → op a b ≡ op (a / 2) (b / 2) * 2 + digits (a % 2) (b % 2))
    (digits_lt : (x y : ℕ) → x < 2 → y < 2 → digits x y < 2)
    (digits-both : (x y : ℕ) → x < 2 → y < 2 → eqb (digits x y) 1 ≡ both (eqb x 1) (eqb y 1)) where
  pub bit_op : (v a b : ℕ) → bit v (op a b) ≡ both (bit v a) (bit v b)
  bit_op zero a b =
      let low : op a b % 2 ≡ digits (a % 2) (b % 2) = omega (arith, op-step a b, digits_lt (a % 2) (b % 2) (omega arith) (omega arith)) in
      bit_zero (op a b)
      ∙ ap (λ (x : ℕ). eqb x 1) low
      ∙ digits-both (a % 2) (b % 2) (omega arith) (omega arith)
      ∙ ap₂ both (sym (bit_zero a)) (sym (bit_zero b))
  bit_op (suc v) a b =
      let high : op a b / 2 ≡ op (a / 2) (b / 2) = omega (arith, op-step a b, digits_lt (a % 2) (b % 2) (omega arith) (omega arith)) in
      bit_suc v (op a b)
      ∙ ap (bit v) high
      ∙ bit_op v (a / 2) (b / 2)
      ∙ ap₂ both (sym (bit_suc v a)) (sym (bit_suc v b))

-- two digits, case by case
digit_cases : (P : ℕ → ℕ → Type 0) → P 0 0 → P 0 1 → P 1 0 → P 1 1 → (x y : ℕ) → x < 2 → y < 2 → P x y
digit_cases P p q r s zero zero h k = p
digit_cases P p q r s zero (suc zero) h k = q
digit_cases P p q r s (suc zero) zero h k = r
digit_cases P p q r s (suc zero) (suc zero) h k = s
digit_cases P p q r s (suc (suc x)) y h k = absurd (omega arith)
digit_cases P p q r s zero (suc (suc y)) h k = absurd (omega arith)
digit_cases P p q r s (suc zero) (suc (suc y)) h k = absurd (omega arith)

-- the places of `a & b` are those of both
pub bit-and : (v a b : ℕ) → bit v (bit_and a b) ≡ (bit v a && bit v b)
bit-and =
    bit_op bit_and min ◌&&◌ and_step (λ x y h k. omega arith)
    (digit_cases (λ x y. eqb (min x y) 1 ≡ (eqb x 1 && eqb y 1)) refl refl refl refl)

-- the places of `a | b` are those of either
pub bit-or : (v a b : ℕ) → bit v (bit_or a b) ≡ (bit v a || bit v b)
bit-or =
    bit_op bit_or max ◌||◌ or_step (λ x y h k. omega arith)
    (digit_cases (λ x y. eqb (max x y) 1 ≡ (eqb x 1 || eqb y 1)) refl refl refl refl)

-- a mask below 2 ^ k has no place from k on
pub bit_high : (k m v : ℕ) → m < 2 ^ k → k ≤ v → bit v m ≡ false
unfolding bit
bit_high k m v h l = rw (div-eq_of_lt (lt_of_lt_of_le h (pow_mono l)))

pub bit-mask_of_out : (k : ℕ) (f : ℕ → Bool) (v : ℕ) → k ≤ v → bit v (mask_of k f) ≡ false
bit-mask_of_out k f v l = bit_high k (mask_of k f) v (mask_of_lt k f) l

pub bit_below : (k m v : ℕ) → m < 2 ^ k → bit v m ≡ true → v < k
bit_below k m v h e = go (below v k)
  where
    go : (v < k) ⊎ (k ≤ v) → v < k
    go (inl p) = p
    go (inr q) = absurd (false≢true (sym (bit_high k m v h q) ∙ e))

-- ---- one place
twice_low : (m : ℕ) → bit 0 (2 * m) ≡ false
twice_low m = bit_zero (2 * m) ∙ ne_eqb (2 * m % 2) 1 (λ e. omega arith)

twice_high : (v m : ℕ) → bit (suc v) (2 * m) ≡ bit v m
twice_high v m = let e : 2 * m / 2 ≡ m = omega arith in bit_suc v (2 * m) ∙ ap (bit v) e

-- 2 ^ v has the place v and no other
pub bit_pow : (v : ℕ) → bit v (2 ^ v) ≡ true
bit_pow zero = bit_zero 1
bit_pow (suc v) = rw pow-succ' (twice_high v (2 ^ v) ∙ bit_pow v)

pub bit_pow_other : (v u : ℕ) → (u ≡ v → ⊥) → bit u (2 ^ v) ≡ false
bit_pow_other zero zero n = absurd (n refl)
bit_pow_other zero (suc u) n = bit_suc u 1 ∙ bit_of_zero u
bit_pow_other (suc v) zero n = rw pow-succ' (twice_low (2 ^ v))
bit_pow_other (suc v) (suc u) n = rw pow-succ' (twice_high u (2 ^ v) ∙ bit_pow_other v u (λ e. n (ap suc e)))

pub bit_pow_only : (v u : ℕ) → bit u (2 ^ v) ≡ true → u ≡ v
bit_pow_only v u e = go (either (eqb u v))
  where
    go : (eqb u v ≡ true) ⊎ (eqb u v ≡ false) → u ≡ v
    go (inl p) = eqb-true u v p
    go (inr q) = absurd (false≢true (sym (bit_pow_other v u (eqb-false u v q)) ∙ e))

-- ---- the lowest place: `x & (x - 1)` is x without it
under_lt : (d t k : ℕ) → (d ≡ 0 → t < k) → under d t < suc k
under_lt zero t k f = let h = f refl in omega arith
under_lt (suc d) t k f = omega arith

-- a mask that is not 0 has a lowest place
pub lowest_lt : (k m : ℕ) → 0 < m → m < 2 ^ k → count_trailing_zeros k m < k
unfolding count_trailing_zeros
lowest_lt zero m p h = absurd (omega arith)
lowest_lt (suc k) m p h = under_lt (m % 2) (count_trailing_zeros k (m / 2)) k (λ e. lowest_lt k (m / 2) (omega arith) (omega (arith, pow-succ' 2 k)))

-- no place below it is set
pub lowest_under : (k m u : ℕ) → u < count_trailing_zeros k m → bit u m ≡ false
unfolding count_trailing_zeros
lowest_under zero m u l = absurd (omega arith)
lowest_under (suc k) m u l = go (m % 2) refl u l (λ v q. lowest_under k (m / 2) v q)
  where
    go : (d : ℕ) → m % 2 ≡ d → (u : ℕ) → u < under d (count_trailing_zeros k (m / 2)) → ((v : ℕ) → v < count_trailing_zeros k (m / 2) → bit v (m / 2) ≡ false)
        → bit u m ≡ false
    go zero e zero l r = bit_zero m ∙ rw e
    go zero e (suc u) l r = bit_suc u m ∙ r u (omega arith)
    go (suc d) e u l r = absurd (omega arith)

odd_cleared : (x y : ℕ) → x % 2 ≡ 1 → y ≡ 2 * (x / 2) → Cleared x y 0
odd_cleared x y o e = record { here = bit_zero x ∙ rw o; gone = rw e (twice_low (x / 2)); rest = other }
  where
    other : (i : ℕ) → (i ≡ 0 → ⊥) → bit i y ≡ bit i x
    other zero n = absurd (n refl)
    other (suc i) n = rw e (twice_high i (x / 2) ∙ sym (bit_suc i x))

even_cleared : (x y z t : ℕ) → x % 2 ≡ 0 → y ≡ 2 * z → Cleared (x / 2) z t → Cleared x y (suc t)
even_cleared x y z t o e c =
    record { here = bit_suc t x ∙ c.here; gone = rw e (twice_high t z ∙ c.gone); rest = other }
  where
    other : (i : ℕ) → (i ≡ suc t → ⊥) → bit i y ≡ bit i x
    other zero n = rw e (twice_low z ∙ sym (bit_zero x ∙ rw o))
    other (suc i) n = rw e (twice_high i z ∙ c.rest i (λ q. n (ap suc q)) ∙ sym (bit_suc i x))

clear_step : (x d t : ℕ) → x % 2 ≡ d → d < 2 → 0 < x
    → (0 < x / 2 → Cleared (x / 2) (bit_and (x / 2) (x / 2 - 1)) t) → Cleared x (bit_and x (x - 1)) (under d t)
clear_step x zero t e l p f =
    let q : (x - 1) / 2 ≡ x / 2 - 1 = omega arith in
    let r : (x - 1) % 2 ≡ 1 = omega arith in
    even_cleared x (bit_and x (x - 1)) (bit_and (x / 2) (x / 2 - 1)) t e (and_step x (x - 1) ∙ rw (q, r, e) (omega arith)) (f (omega arith))
clear_step x (suc zero) t e l p f =
    let q : (x - 1) / 2 ≡ x / 2 = omega arith in
    let r : (x - 1) % 2 ≡ 0 = omega arith in
    odd_cleared x (bit_and x (x - 1)) e (and_step x (x - 1) ∙ rw (q, r, e, and_self) (omega arith))
clear_step x (suc (suc d)) t e l p f = absurd (omega arith)

pub cleared : (k x : ℕ) → 0 < x → x < 2 ^ k → Cleared x (bit_and x (x - 1)) (count_trailing_zeros k x)
unfolding count_trailing_zeros
cleared zero x p h = absurd (omega arith)
cleared (suc k) x p h =
    clear_step x (x % 2) (count_trailing_zeros k (x / 2)) refl (omega arith) p (λ g. cleared k (x / 2) g (omega (arith, pow-succ' 2 k)))

-- ---- how many places
pub size_zero : size 0 ≡ 0
size_zero = none_count 32 (λ v. bit v 0) (λ v l. bit_of_zero v)

-- more than one, exactly when something is left without the lowest
pub size_many : (x : ℕ) → 0 < x → x < 2 ^ 32 → ltb 1 (size x) ≡ not (eqb (bit_and x (x - 1)) 0)
size_many x p h = go (cleared 32 x p h) (lowest_lt 32 x p h) (either (eqb (bit_and x (x - 1)) 0))
  where
    go : Cleared x (bit_and x (x - 1)) (count_trailing_zeros 32 x) → count_trailing_zeros 32 x < 32
        → (eqb (bit_and x (x - 1)) 0 ≡ true) ⊎ (eqb (bit_and x (x - 1)) 0 ≡ false) → ltb 1 (size x) ≡ not (eqb (bit_and x (x - 1)) 0)
    go f l (inl e) =
        le-ltb 1 (size x) (omega (arith, one_count 32 (λ v. bit v x) (count_trailing_zeros 32 x) l f.here alone)) ∙ sym (ap not e)
      where
        alone : (v : ℕ) → bit v x ≡ true → v ≡ count_trailing_zeros 32 x
        alone v q = at (either (eqb v (count_trailing_zeros 32 x)))
          where
            at : (eqb v (count_trailing_zeros 32 x) ≡ true) ⊎ (eqb v (count_trailing_zeros 32 x) ≡ false) → v ≡ count_trailing_zeros 32 x
            at (inl y) = eqb-true v (count_trailing_zeros 32 x) y
            at (inr n) =
                absurd
                (false≢true
                (sym (bit_of_zero v)
                ∙ ap (bit v) (sym (eqb-true (bit_and x (x - 1)) 0 e))
                ∙ f.rest v (eqb-false v (count_trailing_zeros 32 x) n)
                ∙ q))
    go f l (inr e) =
        let y = bit_and x (x - 1) in
        let s = some_bit 32 y (lt_of_le_of_lt (and_le_l x (x - 1)) h) (positive y (eqb-false y 0 e)) in
        let ne : s.0 ≡ count_trailing_zeros 32 x → ⊥ = λ q. true≢false (sym s.2 ∙ ap (λ (v : ℕ). bit v (bit_and x (x - 1))) q ∙ f.gone) in
        lt-ltb 1 (size x) (two_count 32 (λ v. bit v x) s.0 (count_trailing_zeros 32 x) s.1 l (sym (f.rest s.0 ne) ∙ s.2) f.here ne) ∙ sym (ap not e)

-- the place that was cleared, by another name
pub cleared_at : {x y s t : ℕ} → s ≡ t → Cleared x y t → Cleared x y s
cleared_at {x} {y} e c = subst⁻¹ (Cleared x y) e c
