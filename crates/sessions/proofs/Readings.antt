-- Laws of reading an order. Assumes nothing.
use mathlib.Core.Path.{◌≡◌, refl, sym}
use mathlib.Core.Bool.{Bool, ◌&&◌, cond, false, true, true≢false}
use mathlib.Core.Logic.{◌⊎◌, inl, inr}
use mathlib.Core.List.{List, ◌∷◌}
use Prim.Native.Nat.{◌<◌, ◌≤◌, ℕ}
use native.Mathlib.Omega.{arith}
use lib.Dec.{eqb, leb, ltb}
use borrow.Author.Tests.{eq-eqb, le-leb, le-ltb, lt-leb, lt-ltb, ne_eqb}
use Rattle.book.specs.Decoding.{book_of}
use Rattle.engine.proofs.Propagation.{columns_count}
use Rattle.heads.specs.Heads.{columns_of}
use Rattle.heads.specs.Limits.{set_at}
use Rattle.model.specs.Books.{column_count}
use Rattle.model.specs.Masks.{bit}
use Rattle.model.specs.Orders.{Cause, argument, back_causes, finish_causes, first_cause, kind, mark_causes, mask, narrow_causes, outside, refusal, refuse◌if◌, some_wrong, try_limit, wrong_place, zero_places}
use Rattle.model.specs.Tests.{Finds, all_below, one_if}
use Rattle.model.proofs.Refusals.{refusal_other}
use Rattle.model.proofs.Tests.{all_below_e, and_false, any_below_i, any_below_none, below}
use Rattle.sessions.specs.Holds.{RefusesAt}
use Rattle.sessions.specs.Readings.{order_is, refusal_with, refused_in, refused_number}
use Rattle.sessions.specs.declared.orders.Order.{Order}
use Rattle.sessions.specs.declared.orders.Refused.{Refused}
use Rattle.sessions.specs.declared.orders.Refused.TheVariants as refused
use Rattle.std.specs.Prelude.{Err, IfOk, Ok, Result}

-- ---- the bytes that must be zero
-- these places are those from a on and below e
abbrev places_are : ℕ → ℕ → ℕ → Bool
places_are places a e = all_below 8 (λ i. eqb (one_if (bit i places)) (one_if (leb a i && ltb i e)))

same_bit : (x y : Bool) → eqb (one_if x) (one_if y) ≡ true → x ≡ y
same_bit true true e = refl
same_bit false false e = refl
same_bit true false e = absurd (true≢false (sym e))
same_bit false true e = absurd (true≢false (sym e))

-- so a look at the bytes from a on and below e tells whether one at these places isn't zero
zeros : (places a e : ℕ) (o : List ℕ) {t : Bool} → places_are places a e ≡ true → e ≤ 8 → Finds (set_at o) a e t → some_wrong places o ≡ t
unfolding some_wrong wrong_place
zeros places a e o {t} p l h = go t h
  where
    at : (i : ℕ) → i < 8 → bit i places ≡ (leb a i && ltb i e)
    at i k = same_bit (bit i places) (leb a i && ltb i e) (all_below_e 8 _ p i k)

    none : Finds (set_at o) a e false → (i : ℕ) → i < 8 → (i < a) ⊎ (a ≤ i) → (i < e) ⊎ (e ≤ i) → wrong_place places o i ≡ false
    none h i k (inl q) r = rw (at i k, lt-leb a i q) refl
    none h i k (inr q) (inr r) = rw (at i k, le-leb a i q, le-ltb i e r) refl
    none h i k (inr q) (inl r) = rw ((h.none refl).at i q r) (and_false (bit i places))

    go : (t : Bool) → Finds (set_at o) a e t → some_wrong places o ≡ t
    go true h =
        let s = h.some refl in
        let k : s.0 < 8 = omega (arith, s.2) in
        any_below_i 8 (wrong_place places o) s.0 k (rw (at s.0 k, le-leb a s.0 s.1, lt-ltb s.0 e s.2) s.3)
    go false h = any_below_none 8 (wrong_place places o) (λ i k. none h i k (below i a) (below i e))

-- of each kind
module _ (o : List ℕ) {t : Bool} where
  pub zeros-narrow : kind o ≡ 1 → Finds (set_at o) 2 4 t → some_wrong (zero_places (kind o)) o ≡ t
  unfolding all_below bit
  zeros-narrow k h = rw k (zeros 12 2 4 o refl (omega arith) h)

  pub zeros_mark : kind o ≡ 2 → Finds (set_at o) 1 8 t → some_wrong (zero_places (kind o)) o ≡ t
  unfolding all_below bit
  zeros_mark k h = rw k (zeros 254 1 8 o refl (omega arith) h)

  pub zeros_back : kind o ≡ 3 → Finds (set_at o) 2 8 t → some_wrong (zero_places (kind o)) o ≡ t
  unfolding all_below bit
  zeros_back k h = rw k (zeros 252 2 8 o refl (omega arith) h)

  pub zeros_finish : kind o ≡ 4 → Finds (set_at o) 1 4 t → some_wrong (zero_places (kind o)) o ≡ t
  unfolding all_below bit
  zeros_finish k h = rw k (zeros 14 1 4 o refl (omega arith) h)

-- ---- causes in their order
-- the bytes are looked at first
pub bytes_wrong : {w : Bool} (cs : List Cause) → w ≡ true → 25 ≡ first_cause ((refuse 25 if w) ∷ cs)
unfolding first_cause
bytes_wrong cs e = rw e

pub bytes_right : {w : Bool} (cs : List Cause) {r : ℕ} → w ≡ false → r ≡ first_cause cs → r ≡ first_cause ((refuse 25 if w) ∷ cs)
unfolding first_cause
bytes_right cs e f = rw e f

-- then the kind's own
module _ {d : ℕ} where
  pub mark_refused : d ≡ 16 → 23 ≡ first_cause (mark_causes d)
  unfolding first_cause
  mark_refused e = rw (eq-eqb d 16 e)

  pub mark_accepted : (d ≡ 16 → ⊥) → 0 ≡ first_cause (mark_causes d)
  unfolding first_cause
  mark_accepted n = rw (ne_eqb d 16 n)

module _ (o : List ℕ) where
  module _ {m : ℕ} (d : ℕ) (e : m ≡ argument o) where
    pub back_refused : (m ≡ 0) ⊎ ((m ≡ 0 → ⊥) × (d < m)) → 24 ≡ first_cause (back_causes d o)
    unfolding first_cause
    back_refused (inl z) = rw (← e, eq-eqb m 0 z)
    back_refused (inr (n, l)) = rw (← e, ne_eqb m 0 n, lt-ltb d m l)

    pub back_accepted : (m ≡ 0 → ⊥) → m ≤ d → 0 ≡ first_cause (back_causes d o)
    unfolding first_cause
    back_accepted n l = rw (← e, ne_eqb m 0 n, le-ltb d m l)

  module _ {n : ℕ} (e : n ≡ try_limit o) where
    pub finish_refused : 65535 < n → 27 ≡ first_cause (finish_causes o)
    unfolding first_cause
    finish_refused l = rw (← e, lt-ltb 65535 n l)

    pub finish_accepted : n ≤ 65535 → 0 ≡ first_cause (finish_causes o)
    unfolding first_cause
    finish_accepted l = rw (← e, le-ltb 65535 n l)

  module _ (b : List ℕ) {k c : ℕ} (f : k ≡ columns_of b) (e : c ≡ argument o) where
    pub narrow_column : k ≤ c → 21 ≡ first_cause (narrow_causes (book_of b) o)
    unfolding first_cause
    narrow_column l = let q : column_count (book_of b) ≤ argument o = omega (arith, columns_count b, f, e) in rw (le-leb _ _ q)

    -- the first cause is passed over: what the last one says decides
    pub narrow_mask : {m : ℕ} {t u : Bool} → c < k → m ≡ mask o → t ≡ outside (book_of b) c m → t ≡ u → cond u 22 0 ≡ first_cause (narrow_causes (book_of b) o)
    unfolding first_cause
    narrow_mask {m} l g h r =
        let q : argument o < column_count (book_of b) = omega (arith, columns_count b, f, e) in
        rw (lt-leb _ _ q, ← e, ← g, ← h, r)

-- ---- the refusal at a depth, by the kind
module _ (b o : List ℕ) (d : ℕ) {r : ℕ} where
  pub reads_narrow : kind o ≡ 1 → r ≡ refusal_with o (narrow_causes (book_of b) o) → RefusesAt b d o r
  unfolding refusal
  reads_narrow k e s q L h = rw k (rw k at e)

  pub reads_mark : kind o ≡ 2 → r ≡ refusal_with o (mark_causes d) → RefusesAt b d o r
  unfolding refusal
  reads_mark k e s q L h = rw (k, ← h.deep, q) (rw k at e)

  pub reads_back : kind o ≡ 3 → r ≡ refusal_with o (back_causes d o) → RefusesAt b d o r
  unfolding refusal
  reads_back k e s q L h = rw (k, ← h.deep, q) (rw k at e)

  pub reads_finish : kind o ≡ 4 → r ≡ refusal_with o (finish_causes o) → RefusesAt b d o r
  unfolding refusal
  reads_finish k e s q L h = rw k (rw k at e)

pub reads_other : (b o : List ℕ) (d : ℕ) → (kind o ≡ 1 → ⊥) → (kind o ≡ 2 → ⊥) → (kind o ≡ 3 → ⊥) → (kind o ≡ 4 → ⊥) → RefusesAt b d o 20
reads_other b o d k l m n s q L h = sym (refusal_other (book_of b) L o k l m n)

-- ---- what was read
-- the bytes of an order that is accepted say what was read
pub read_as : {x : Result Order Refused} {y z : Order} (o : List ℕ) → x ≡ Ok y → y ≡ z → IfOk x (order_is o) → order_is o z
read_as o e f p = rw f at (rw e at p)

-- a refusal is not 0
pub refused_some : (r : Refused) → refused_number r ≡ 0 → ⊥
refused_some refused.Kind e = omega arith
refused_some refused.Column e = omega arith
refused_some refused.Mask e = omega arith
refused_some refused.Marks e = omega arith
refused_some refused.Back e = omega arith
refused_some refused.Bytes e = omega arith
refused_some refused.Limit e = omega arith

pub read_refused : {x : Result Order Refused} {r : Refused} → x ≡ Err r → refused_in x ≡ 0 → ⊥
read_refused {x} {r} e z = refused_some r (rw e at z)

pub read_accepted : {x : Result Order Refused} {y : Order} → x ≡ Ok y → refused_in x ≡ 0
read_accepted e = rw e refl
