-- Laws of rows as 32-bit numbers: their highest bits, joined by `|`, raised by a slack and turned, beside the bounds of their bytes. Assumes nothing.
use Rattle.std.proofs.Common.{◌≡◌, ℕ, zero, suc, ◌+◌, ◌-◌, ◌*◌, ◌/◌, ◌%◌, ◌^◌, ◌<◌, ◌≤◌, Bool, true, false, not, cond, ◌&&◌, ◌||◌, eqb, ltb, leb, ◌⊎◌, sym, refl, ap, ◌∙◌, ap₂, inl, inr, le_refl, add-zero, add-one, arith, ltb-true, le-ltb, lt-ltb, eq-eqb, ne_eqb, le-leb, leb-false, leb-true}
use lib.Bits.{bit_and, bit_or, bit_xor, and_block, and_high, and_le_l, and_le_r, and_mask, or_add_and, or_lt, xor_block, xor_comm, xor_shifted, xor_zero_r}
use borrow.Author.Tests.{lt-leb}
use Rattle.model.specs.Masks.{bit}
use Rattle.model.specs.Tests.{Finds, one_if}
use Rattle.model.proofs.Firsts.{finds_empty, finds_more, finds_same}
use Rattle.model.proofs.Masks.{bit-or}
use Rattle.model.proofs.Tests.{and_assoc, and_false, and_l, and_r, and_true, below, either, or_false_l, or_false_r, or_l, or_mono, or_r, or_swap}
use Rattle.rows.specs.Rows.{over_at}
use Rattle.rows.specs.Bounds.{any_high, below_bounds, joined, Joins, slack_of, turn_of, turned, SmallTurn}

-- ---- the highest bits of the four bytes of a number
-- the last digit of m / 2 ^ v is the highest bit of the byte p: then bit v of m tells whether p is 128 or more
high : (v m p t : ℕ) → m / 2 ^ v ≡ t * 2 + p / 128 → p < 256 → bit v m ≡ leb 128 p
unfolding bit
high v m p t h l = go (below p 128)
  where
    go : (p < 128) ⊎ (128 ≤ p) → eqb (m / 2 ^ v % 2) 1 ≡ leb 128 p
    go (inl k) = let e : m / 2 ^ v % 2 ≡ 0 = omega arith in rw (e, lt-leb 128 p k)
    go (inr k) = let e : m / 2 ^ v % 2 ≡ 1 = omega arith in rw (e, le-leb 128 p k)

module _ (p q r s : ℕ) (hp : p < 256) (hq : q < 256) (hr : r < 256) (hs : s < 256) where
  abbrev four_bytes : ℕ
  four_bytes = p + q * 256 + r * 65536 + s * 16777216

  pub high_each : (bit 7 four_bytes ≡ leb 128 p) × (bit 15 four_bytes ≡ leb 128 q) × (bit 23 four_bytes ≡ leb 128 r) × (bit 31 four_bytes ≡ leb 128 s)
  high_each = (
    high 7 four_bytes p (q + r * 256 + s * 65536) (omega arith) hp,
    high 15 four_bytes q (r + s * 256) (omega arith) hq,
    high 23 four_bytes r s (omega arith) hr,
    high 31 four_bytes s 0 (omega arith) hs,
  )

  pub high_bytes : any_high four_bytes ≡ (leb 128 p || (leb 128 q || (leb 128 r || leb 128 s)))
  unfolding any_high
  high_bytes = let h = high_each in rw (h.0, h.1, h.2, h.3)

pub high_zero : any_high 0 ≡ false
unfolding any_high bit
high_zero = refl

pub high_or : (x y : ℕ) → any_high (bit_or x y) ≡ (any_high x || any_high y)
unfolding any_high
high_or x y =
    rw (bit-or 7 x y, bit-or 15 x y, bit-or 23 x y, bit-or 31 x y)
    (rw (or_swap (bit 23 x) (bit 23 y) (bit 31 x) (bit 31 y), or_swap (bit 15 x) (bit 15 y) (bit 23 x || bit 31 x) (bit 23 y || bit 31 y))
    (or_swap (bit 7 x) (bit 7 y) (bit 15 x || (bit 23 x || bit 31 x)) (bit 15 y || (bit 23 y || bit 31 y))))

-- ---- numbers of four bytes
the_bytes : (a b c d : ℕ) → a < 256 → b < 256 → c < 256
    → ((a + b * 256 + c * 65536 + d * 16777216) % 256 ≡ a) × ((a + b * 256 + c * 65536 + d * 16777216) / 256 % 256 ≡ b)
    × ((a + b * 256 + c * 65536 + d * 16777216) / 65536 % 256 ≡ c) × ((a + b * 256 + c * 65536 + d * 16777216) / 16777216 ≡ d)
the_bytes a b c d ha hb hc =
    let v = a + b * 256 + c * 65536 + d * 16777216 in
    let e1 : v / 256 ≡ b + c * 256 + d * 65536 = omega arith in
    let e2 : v / 65536 ≡ c + d * 256 = omega arith in
    (omega arith, rw e1 (omega arith), rw e2 (omega arith), omega arith)

-- an operation that works on runs of digits works byte by byte
module _ (op : ℕ → ℕ → ℕ) (runs : (k a b r s : ℕ) → r < 2 ^ k → s < 2 ^ k → op (a * 2 ^ k + r) (b * 2 ^ k + s) ≡ op a b * 2 ^ k + op r s) where
  pub by_bytes : (a b c d p q r s : ℕ) → a < 256 → b < 256 → c < 256 → p < 256 → q < 256 → r < 256
      → op (a + b * 256 + c * 65536 + d * 16777216) (p + q * 256 + r * 65536 + s * 16777216) ≡ op a p + op b q * 256 + op c r * 65536 + op d s * 16777216
  by_bytes a b c d p q r s ha hb hc hp hq hr =
      let u : a + b * 256 + c * 65536 + d * 16777216 ≡ ((d * 2 ^ 8 + c) * 2 ^ 8 + b) * 2 ^ 8 + a = omega arith in
      let v : p + q * 256 + r * 65536 + s * 16777216 ≡ ((s * 2 ^ 8 + r) * 2 ^ 8 + q) * 2 ^ 8 + p = omega arith in
      ap₂ op u v
      ∙ runs 8 ((d * 2 ^ 8 + c) * 2 ^ 8 + b) ((s * 2 ^ 8 + r) * 2 ^ 8 + q) a p ha hp
      ∙ omega (arith, runs 8 (d * 2 ^ 8 + c) (s * 2 ^ 8 + r) b q hb hq, runs 8 d s c r hc hr)

-- a byte's highest bit, by a mask
high_byte : (p : ℕ) → p < 256 → (p < 128 → bit_and p 128 ≡ 0) × (128 ≤ p → bit_and p 128 ≡ 128)
high_byte p l = (λ k. and_high p 1 7 ∙ omega arith, λ k. and_high p 1 7 ∙ omega arith)

-- the highest bits of four bytes
pub high_mask : (v m : ℕ) → m ≡ 2155905152 → v < 2 ^ 32 → not (eqb (bit_and v m) 0) ≡ any_high v
high_mask v m h l =
    let a = v % 256 in
    let b = v / 256 % 256 in
    let c = v / 65536 % 256 in
    let d = v / 16777216 in
    let e : v ≡ a + b * 256 + c * 65536 + d * 16777216 = omega arith in
    let mask : bit_and v m ≡ bit_and a 128 + bit_and b 128 * 256 + bit_and c 128 * 65536 + bit_and d 128 * 16777216 =
    ap₂ bit_and e h ∙ by_bytes bit_and and_block a b c d 128 128 128 128 (omega arith) (omega arith) (omega arith) (omega arith) (omega arith) (omega arith) in
    rw mask (four a b c d (omega arith) (omega arith) (omega arith) (omega arith) ∙ ap any_high (sym e))
  where
    four : (a b c d : ℕ) → a < 256 → b < 256 → c < 256 → d < 256
        → not (eqb (bit_and a 128 + bit_and b 128 * 256 + bit_and c 128 * 65536 + bit_and d 128 * 16777216) 0) ≡ any_high (a + b * 256 + c * 65536 + d * 16777216)
    four a b c d ha hb hc hd = go (below a 128) (below b 128) (below c 128) (below d 128) ∙ sym (high_bytes a b c d ha hb hc hd)
      where
        some : {n : ℕ} → 0 < n → not (eqb n 0) ≡ true
        some {n} l = ap not (ne_eqb n 0 (λ z. omega arith))

        go : (a < 128) ⊎ (128 ≤ a) → (b < 128) ⊎ (128 ≤ b) → (c < 128) ⊎ (128 ≤ c) → (d < 128) ⊎ (128 ≤ d)
            → not (eqb (bit_and a 128 + bit_and b 128 * 256 + bit_and c 128 * 65536 + bit_and d 128 * 16777216) 0) ≡ (leb 128 a || (leb 128 b || (leb 128 c || leb 128 d)))
        go (inr p) q r s = rw (le-leb 128 a p) (some (omega (arith, (high_byte a ha).1 p)))
        go (inl p) (inr q) r s = rw (lt-leb 128 a p, le-leb 128 b q) (some (omega (arith, (high_byte b hb).1 q)))
        go (inl p) (inl q) (inr r) s = rw (lt-leb 128 a p, lt-leb 128 b q, le-leb 128 c r) (some (omega (arith, (high_byte c hc).1 r)))
        go (inl p) (inl q) (inl r) (inr s) = rw (lt-leb 128 a p, lt-leb 128 b q, lt-leb 128 c r, le-leb 128 d s) (some (omega (arith, (high_byte d hd).1 s)))
        go (inl p) (inl q) (inl r) (inl s) =
            rw (lt-leb 128 a p, lt-leb 128 b q, lt-leb 128 c r, lt-leb 128 d s, (high_byte a ha).0 p, (high_byte b hb).0 q, (high_byte c hc).0 r, (high_byte d hd).0 s)

-- bytes taken from bytes that are no lower
pub minus_bytes : (a b c d p q r s t u v w : ℕ) → a ≡ t + p → b ≡ u + q → c ≡ v + r → d ≡ w + s
    → a + b * 256 + c * 65536 + d * 16777216 - (p + q * 256 + r * 65536 + s * 16777216) ≡ t + u * 256 + v * 65536 + w * 16777216
minus_bytes a b c d p q r s t u v w ha hb hc hd = omega arith

-- ---- numbers joined by `|`
le_or_l : (u v : ℕ) → u ≤ bit_or u v
le_or_l u v = omega (arith, or_add_and u v, and_le_r u v)

le_or_r : (u v : ℕ) → v ≤ bit_or u v
le_or_r u v = omega (arith, or_add_and u v, and_le_l u v)

-- joined numbers are no lower than any of them
pub joined_le : (f : ℕ → ℕ) (n r : ℕ) → r < n → f r ≤ joined f n
unfolding joined
joined_le f zero r p = absurd (omega arith)
joined_le f (suc n) r p = go (below r n) (joined_le f n r)
  where
    go : (r < n) ⊎ (n ≤ r) → (r < n → f r ≤ joined f n) → f r ≤ bit_or (joined f n) (f n)
    go (inl l) h = omega (arith, h l, le_or_l (joined f n) (f n))
    go (inr l) h = let e : r ≡ n = omega arith in omega (arith, ap f e, le_or_r (joined f n) (f n))

-- nor do they lack a bit of one
pub joined-bit : (f : ℕ → ℕ) (v n r : ℕ) → r < n → bit v (f r) ≡ true → bit v (joined f n) ≡ true
unfolding joined
joined-bit f v zero r p e = absurd (omega arith)
joined-bit f v (suc n) r p e = bit-or v (joined f n) (f n) ∙ go (below r n) (joined-bit f v n r)
  where
    go : (r < n) ⊎ (n ≤ r) → (r < n → bit v (f r) ≡ true → bit v (joined f n) ≡ true) → (bit v (joined f n) || bit v (f n)) ≡ true
    go (inl l) h = or_l (bit v (joined f n)) _ (h l e)
    go (inr l) h = let k : n ≡ r = omega arith in or_r (bit v (joined f n)) _ (ap (λ (m : ℕ). bit v (f m)) k ∙ e)

-- the same numbers are joined to the same
joined_same : (f g : ℕ → ℕ) (n : ℕ) → ((r : ℕ) → r < n → f r ≡ g r) → joined f n ≡ joined g n
unfolding joined
joined_same f g zero h = refl
joined_same f g (suc n) h = ap₂ bit_or (joined_same f g n (λ r p. h r (omega arith))) (h n (omega arith))

-- a byte of joined numbers is 128 or more exactly when one of a number is
pub joined_high : (f : ℕ → ℕ) (n : ℕ) → Finds (λ r. any_high (f r)) 0 n (any_high (joined f n))
unfolding joined
joined_high f zero = rw high_zero (finds_empty (le_refl 0))
joined_high f (suc n) = rw (high_or (joined f n) (f n)) (rw add-one at (finds_more (any_high (joined f n)) (omega arith) (joined_high f n)))

module _ {P : ℕ → ℕ → Type 0} where
  pub joins_none : Joins P 0 0
  unfolding joined
  joins_none = record { each = λ r. 0; passes = λ r p. absurd (omega arith); all = refl }

  -- one number more
  pub joins_more : {n seen v : ℕ} → Joins P n seen → P n v → Joins P (n + 1) (bit_or seen v)
  unfolding joined
  joins_more {n} {seen} {v} h p = record { each = next; passes = λ r l. go r l (below r n); all = ap₂ bit_or (h.all ∙ joined_same h.each next n (λ r l. sym (before r l))) (sym last) ∙ rw add-one refl }
    where
      next : ℕ → ℕ
      next r = cond (ltb r n) (h.each r) v

      before : (r : ℕ) → r < n → next r ≡ h.each r
      before r l = rw (lt-ltb r n l)

      last : next n ≡ v
      last = rw (le-ltb n n (le_refl n))

      go : (r : ℕ) → r < n + 1 → (r < n) ⊎ (n ≤ r) → P r (next r)
      go r l (inl k) = rw (before r k) (h.passes r k)
      go r l (inr k) = let e : r ≡ n = omega arith in rw (e, last) p

  -- where each of them is a known number, these are joined
  pub joins_joined : {n v : ℕ} (f : ℕ → ℕ) → ((r y : ℕ) → r < n → P r y → y ≡ f r) → Joins P n v → v ≡ joined f n
  joins_joined {n} f e h = h.all ∙ joined_same h.each f n (λ r l. e r (h.each r) l (h.passes r l))

  -- a byte of them is 128 or more exactly when one of a number is
  pub joins_high : {n v : ℕ} (t : ℕ → Bool) → ((r y : ℕ) → r < n → P r y → any_high y ≡ t r) → Joins P n v → Finds t 0 n (any_high v)
  joins_high {n} t e h = rw h.all (finds_same (λ r l p. e r (h.each r) p (h.passes r p)) (joined_high h.each n))

-- joined bytes are a byte
pub joined_lt : (f : ℕ → ℕ) (n : ℕ) → ((r : ℕ) → f r < 256) → joined f n < 256
unfolding joined
joined_lt f zero h = omega arith
joined_lt f (suc n) h = or_lt 8 (joined f n) (f n) (joined_lt f n h) (h n)

-- ---- a row beside its bounds
-- the slack brings a byte to 128 or more exactly when it is not below its bound
reach : (w p : ℕ) → w ≤ 128 → leb 128 (p + (128 - w)) ≡ leb w p
reach w p h = go (below p w)
  where
    go : (p < w) ⊎ (w ≤ p) → leb 128 (p + (128 - w)) ≡ leb w p
    go (inl l) = lt-leb 128 (p + (128 - w)) (omega arith) ∙ sym (lt-leb w p l)
    go (inr l) = le-leb 128 (p + (128 - w)) (omega arith) ∙ sym (le-leb w p l)

module _ (w x y z p q r s : ℕ) (few : (w ≤ 128) × (x ≤ 128) × (y ≤ 128) × (z ≤ 128)) where
  -- no byte is 128 or more: none carries into the next
  pub raised_bytes : p < 128 → q < 128 → r < 128 → s < 128
      → any_high ((p + q * 256 + r * 65536 + s * 16777216 + slack_of w x y z) % 2 ^ 32) ≡ (leb w p || (leb x q || (leb y r || leb z s)))
  raised_bytes lp lq lr ls =
      let e : (p + q * 256 + r * 65536 + s * 16777216 + slack_of w x y z) % 2 ^ 32
      ≡ p + (128 - w) + (q + (128 - x)) * 256 + (r + (128 - y)) * 65536 + (s + (128 - z)) * 16777216 = omega (arith, few.0, few.1, few.2, few.3) in
      ap any_high e
      ∙ high_bytes (p + (128 - w)) (q + (128 - x)) (r + (128 - y)) (s + (128 - z)) (omega arith) (omega arith) (omega arith) (omega arith)
      ∙ rw (reach w p few.0, reach x q few.1, reach y r few.2, reach z s few.3)

  -- a byte is 128 or more: it is not below its bound
  pub high_over : (leb 128 p || (leb 128 q || (leb 128 r || leb 128 s))) ≡ true → (leb w p || (leb x q || (leb y r || leb z s))) ≡ true
  high_over e = or_mono (up w p few.0) (or_mono (up x q few.1) (or_mono (up y r few.2) (up z s few.3))) e
    where
      up : (v u : ℕ) → v ≤ 128 → leb 128 u ≡ true → leb v u ≡ true
      up v u h k = le-leb v u (omega (arith, leb-true 128 u k))

  -- so both tests together are right of every byte
  pub either_bytes : p < 256 → q < 256 → r < 256 → s < 256
      → (any_high (p + q * 256 + r * 65536 + s * 16777216) || any_high ((p + q * 256 + r * 65536 + s * 16777216 + slack_of w x y z) % 2 ^ 32))
      ≡ (leb w p || (leb x q || (leb y r || leb z s)))
  either_bytes hp hq hr hs = rw (high_bytes p q r s hp hq hr hs) (go (either _))
    where
      go : ((leb 128 p || (leb 128 q || (leb 128 r || leb 128 s))) ≡ true) ⊎ ((leb 128 p || (leb 128 q || (leb 128 r || leb 128 s))) ≡ false)
          → ((leb 128 p || (leb 128 q || (leb 128 r || leb 128 s))) || any_high ((p + q * 256 + r * 65536 + s * 16777216 + slack_of w x y z) % 2 ^ 32))
          ≡ (leb w p || (leb x q || (leb y r || leb z s)))
      go (inl e) = rw (e, high_over e)
      go (inr e) =
          let e1 = or_false_r (leb 128 p) _ e in
          let e2 = or_false_r (leb 128 q) _ e1 in
          rw e
          (raised_bytes (leb-false 128 p (or_false_l _ _ e)) (leb-false 128 q (or_false_l _ _ e1)) (leb-false 128 r (or_false_l _ _ e2))
          (leb-false 128 s (or_false_r (leb 128 r) _ e2)))

-- a number below its bounds is so byte by byte
pub below_each : (w x y z a b c d : ℕ) → a < 256 → b < 256 → c < 256 → below_bounds w x y z (a + b * 256 + c * 65536 + d * 16777216) ≡ true
    → (a < w) × (b < x) × (c < y) × (d < z)
unfolding below_bounds
below_each w x y z a b c d ha hb hc e =
    let v = a + b * 256 + c * 65536 + d * 16777216 in
    let e1 = and_r (ltb (v % 256) w) _ e in
    let e2 = and_r (ltb (v / 256 % 256) x) _ e1 in (
      omega (arith, ltb-true (v % 256) w (and_l _ _ e)),
      omega (arith, ltb-true (v / 256 % 256) x (and_l _ _ e1)),
      omega (arith, ltb-true (v / 65536 % 256) y (and_l _ _ e2)),
      omega (arith, ltb-true (v / 16777216) z (and_r (ltb (v / 65536 % 256) y) _ e2)),
    )

-- the same of the four bytes one by one
pub below_all : (w x y z v : ℕ) → v < 2 ^ 32
    → (((ltb (v % 256) w && ltb (v / 256 % 256) x) && ltb (v / 65536 % 256) y) && ltb (v / 16777216 % 256) z) ≡ below_bounds w x y z v
unfolding below_bounds
below_all w x y z v l =
    let e : v / 16777216 % 256 ≡ v / 16777216 = omega arith in
    rw e (sym (and_assoc (ltb (v % 256) w) (ltb (v / 256 % 256) x) (ltb (v / 65536 % 256) y && ltb (v / 16777216) z)
    ∙ and_assoc (ltb (v % 256) w && ltb (v / 256 % 256) x) (ltb (v / 65536 % 256) y) (ltb (v / 16777216) z)))

-- a byte that is no value, or not 255, is over its bound where it is not below it
pub plain_over : (j k m x : ℕ) → (k ≤ j) ⊎ (x ≡ 255 → ⊥) → over_at (ltb j k) m x ≡ leb m x
plain_over j k m x (inl l) = rw (le-ltb j k l) (and_true (leb m x))
plain_over j k m x (inr n) = rw (ne_eqb x 255 n, and_false (ltb j k)) (and_true (leb m x))

-- ---- a row turned
-- a turned value is not below its turned bound exactly when it is over its bound
pub turn_over : (value : Bool) (m x : ℕ) → x < 256 → leb (m + one_if value) ((x + one_if value) % 256) ≡ over_at value m x
turn_over false m x h = let e : (x + 0) % 256 ≡ x = omega arith in rw (e, and_true (leb m x), add-zero m)
turn_over true m x h = go (below x 255)
  where
    go : (x < 255) ⊎ (255 ≤ x) → leb (m + 1) ((x + 1) % 256) ≡ (leb m x && not (eqb x 255))
    go (inl l) =
        let e : (x + 1) % 256 ≡ x + 1 = omega arith in
        rw (e, ne_eqb x 255 (λ k. omega arith), and_true (leb m x)) (same (below x m))
      where
        same : (x < m) ⊎ (m ≤ x) → leb (m + 1) (x + 1) ≡ leb m x
        same (inl k) = lt-leb (m + 1) (x + 1) (omega arith) ∙ sym (lt-leb m x k)
        same (inr k) = le-leb (m + 1) (x + 1) (omega arith) ∙ sym (le-leb m x k)
    go (inr l) =
        let e : (x + 1) % 256 ≡ 0 = omega arith in
        rw (e, eq-eqb x 255 (omega arith), and_false (leb m x)) (lt-leb (m + 1) 0 (omega arith))

-- one byte, as the code turns it
turn_byte : (x o : ℕ) → x < 256 → o ≤ 1 → bit_xor (bit_and x 127 + o) (bit_and x 128) ≡ (x + o) % 256
turn_byte x o hx ho = rw (low, top) (go (below x 128) (below (x % 128 + o) 128))
  where
    low : bit_and x 127 ≡ x % 128
    low = and_mask x 7

    top : bit_and x 128 ≡ (x / 128 % 2) * 128
    top = and_high x 1 7

    go : (x < 128) ⊎ (128 ≤ x) → (x % 128 + o < 128) ⊎ (128 ≤ x % 128 + o) → bit_xor (x % 128 + o) ((x / 128 % 2) * 128) ≡ (x + o) % 256
    go (inl l) k =
        let e : (x / 128 % 2) * 128 ≡ 0 = omega arith in
        rw e (xor_zero_r (x % 128 + o) ∙ omega arith)
    go (inr l) (inl k) =
        let e : (x / 128 % 2) * 128 ≡ 1 * 2 ^ 7 = omega arith in
        rw e (xor_comm (x % 128 + o) (1 * 2 ^ 7) ∙ xor_shifted 1 7 (x % 128 + o) k ∙ omega arith)
    go (inr l) (inr k) =
        let e : (x / 128 % 2) * 128 ≡ 128 = omega arith in
        let f : x % 128 + o ≡ 128 = omega arith in
        let g : (x + o) % 256 ≡ 0 = omega arith in
        rw (e, f, g)

-- four of them
pub turn_word : (v o sevens highs : ℕ) → sevens ≡ 2139062143 → highs ≡ 2155905152 → v < 2 ^ 32 → SmallTurn o
    → bit_xor (bit_and v sevens + o) (bit_and v highs) ≡ turned o v
unfolding turned
turn_word v o sevens highs es eh hv t =
    let a = v % 256 in
    let b = v / 256 % 256 in
    let c = v / 65536 % 256 in
    let d = v / 16777216 in
    let p = o % 256 in
    let q = o / 256 % 256 in
    let r = o / 65536 % 256 in
    let s = o / 16777216 in
    let e : v ≡ a + b * 256 + c * 65536 + d * 16777216 = omega arith in
    let low : bit_and v 2139062143 ≡ bit_and a 127 + bit_and b 127 * 256 + bit_and c 127 * 65536 + bit_and d 127 * 16777216 =
    ap (λ (x : ℕ). bit_and x 2139062143) e ∙ by_bytes bit_and and_block a b c d 127 127 127 127 (omega arith) (omega arith) (omega arith) (omega arith) (omega arith) (omega arith) in
    let top : bit_and v 2155905152 ≡ bit_and a 128 + bit_and b 128 * 256 + bit_and c 128 * 65536 + bit_and d 128 * 16777216 =
    ap (λ (x : ℕ). bit_and x 2155905152) e ∙ by_bytes bit_and and_block a b c d 128 128 128 128 (omega arith) (omega arith) (omega arith) (omega arith) (omega arith) (omega arith) in
    let sum : bit_and v 2139062143 + o ≡ bit_and a 127 + p + (bit_and b 127 + q) * 256 + (bit_and c 127 + r) * 65536 + (bit_and d 127 + s) * 16777216 =
    omega (arith, low) in
    rw (es, eh)
    (ap₂ bit_xor sum top
    ∙ by_bytes bit_xor xor_block (bit_and a 127 + p) (bit_and b 127 + q) (bit_and c 127 + r) (bit_and d 127 + s) (bit_and a 128) (bit_and b 128) (bit_and c 128) (bit_and d 128)
    (small a p t.first) (small b q t.second) (small c r t.third) (less a) (less b) (less c)
    ∙ rw (
      turn_byte a p (omega arith) t.first,
      turn_byte b q (omega arith) t.second,
      turn_byte c r (omega arith) t.third,
      turn_byte d s (omega arith) t.last,
    ))
  where
    small : (x p : ℕ) → p ≤ 1 → bit_and x 127 + p < 256
    small x p h = omega (arith, and_le_r x 127)

    less : (x : ℕ) → bit_and x 128 < 256
    less x = omega (arith, and_le_r x 128)

-- the bytes of what is turned
pub turned_bytes : (a b c d p q r s : ℕ) → a < 256 → b < 256 → c < 256 → p ≤ 1 → q ≤ 1 → r ≤ 1
    → turned (p + q * 256 + r * 65536 + s * 16777216) (a + b * 256 + c * 65536 + d * 16777216)
    ≡ (a + p) % 256 + (b + q) % 256 * 256 + (c + r) % 256 * 65536 + (d + s) % 256 * 16777216
unfolding turned
turned_bytes a b c d p q r s ha hb hc hp hq hr =
    let v = the_bytes a b c d ha hb hc in
    let o = the_bytes p q r s (omega arith) (omega arith) (omega arith) in
    rw (v.0, v.1, v.2, v.3, o.0, o.1, o.2, o.3)

pub one_small : (t : Bool) → one_if t ≤ 1
one_small true = omega arith
one_small false = omega arith

pub turn_small : (k : ℕ) → SmallTurn (turn_of k)
turn_small k =
    let a = one_small (ltb 0 k) in
    let b = one_small (ltb 1 k) in
    let c = one_small (ltb 2 k) in
    let d = one_small (ltb 3 k) in
    record { first = omega (arith, a, b, c, d); second = omega (arith, a, b, c, d); third = omega (arith, a, b, c, d); last = omega (arith, a, b, c, d) }

-- the slack has room for it
pub turn_fits : (w x y z k : ℕ) → (w ≤ 127) × (x ≤ 127) × (y ≤ 127) × (z ≤ 127) → turn_of k ≤ slack_of w x y z
turn_fits w x y z k few =
    omega (arith, few.0, few.1, few.2, few.3, one_small (ltb 0 k), one_small (ltb 1 k), one_small (ltb 2 k), one_small (ltb 3 k))
