-- Laws of a look at a block: what is found in its rows beside the bounds of their bytes. Assumes nothing.
use Rattle.std.proofs.Common.{◌≡◌, ℕ, zero, suc, ◌+◌, ◌-◌, ◌*◌, ◌/◌, ◌%◌, ◌^◌, ◌<◌, ◌≤◌, Bool, true, false, ◌||◌, ltb, leb, ◌⊎◌, List, Option, None, Some, unwrap_or, length, sym, refl, ap, ◌∙◌, inl, inr, le_refl, add-zero, mod-lt, arith, ltb-false, ltb-true, le-ltb, lt-ltb, eqb-true, le-leb, leb-false}
use mathlib.Core.Bool.{false≢true}
use lib.Bits.{bit_or, or_block}
use borrow.Author.Tests.{lt-leb, not-false}
use Rattle.fields.specs.Bytes.{byte_at}
use Rattle.model.specs.Books.{is_any}
use Rattle.model.specs.Masks.{bit}
use Rattle.model.specs.Tests.{Finds, FirstIn, FirstOf, NoneIn, any_below, one_if}
use Rattle.model.proofs.Firsts.{any_none, finds_same, finds_any, finds_fours, first_in_same, first_of_same, none_any}
use Rattle.model.proofs.Tests.{and_true, any_below_e, below, either, or_false_l, or_false_r}
use Rattle.heads.specs.Blocks.{word, block_at}
use Rattle.rows.specs.Bounds.{any_high, below_bounds, joined, over_bounds, raised_row, slack_of, turn_of, turned, turned_row, BoundedSheet, RowBounds, SheetThere, over_block, SmallBounds, fourth, place_bound, used_rows, wrong_in}
use Rattle.heads.specs.Limits.{set_at}
use Rattle.heads.specs.Heads.{rows_of}
use Rattle.rows.specs.Rows.{any_places, blocks_of, bound_of, first_block, is_value, is_wrong, row_place, wrong_block, wrong_byte, over_at}
use Rattle.heads.proofs.Blocks.{block_byte}
use Rattle.heads.proofs.Limits.{set_leb}
use Rattle.rows.proofs.Words.{below_each, by_bytes, either_bytes, high_bytes, high_each, high_or, high_over, joined-bit, joined_high, joined_le, joined_lt, minus_bytes, one_small, plain_over, raised_bytes, turn_over, turned_bytes}

-- ---- the rows of a block
-- a row turned, joined with the same once the slack is added
pub turned_high : (block : List ℕ) (o slack i v y : ℕ) → v ≡ word block i → y ≡ bit_or (turned o v) ((turned o v + slack) % 2 ^ 32)
    → any_high y ≡ turned_row o slack block i
unfolding turned_row
turned_high block o slack i v y hv hy = rw (hy, high_or (turned o v) ((turned o v + slack) % 2 ^ 32), hv)

-- what lies before the first that is found, or before the end
before_first : {f : ℕ → Bool} (n : ℕ) (o : Option ℕ) → FirstOf f 0 n o → (unwrap_or o n ≤ n) × NoneIn f 0 (unwrap_or o n)
before_first n None h = (le_refl n, h)
before_first n (Some r) h = (h.1.to, h.1.none)

module _ (block : List ℕ) (bytes : (i : ℕ) → byte_at block i < 256) where
  -- the bytes at each place of the rows
  abbrev at0 : ℕ → ℕ
  at0 r = byte_at block (4 * r)

  abbrev at1 : ℕ → ℕ
  at1 r = byte_at block (4 * r + 1)

  abbrev at2 : ℕ → ℕ
  at2 r = byte_at block (4 * r + 2)

  abbrev at3 : ℕ → ℕ
  at3 r = byte_at block (4 * r + 3)

  -- joined rows are their bytes joined, place by place
  joined_word : (n : ℕ) → joined (word block) n ≡ joined at0 n + joined at1 n * 256 + joined at2 n * 65536 + joined at3 n * 16777216
  unfolding joined
  joined_word zero = refl
  joined_word (suc n) =
      rw (joined_word n)
      (by_bytes bit_or or_block (joined at0 n) (joined at1 n) (joined at2 n) (joined at3 n) (at0 n) (at1 n) (at2 n) (at3 n)
      (joined_lt at0 n (λ r. bytes _)) (joined_lt at1 n (λ r. bytes _)) (joined_lt at2 n (λ r. bytes _)) (bytes _) (bytes _) (bytes _))

  -- the joined rows are below the bounds: so is every row
  pub joined_below : (w x y z k n : ℕ) → below_bounds w x y z (joined (word block) n) ≡ true → NoneIn (over_bounds w x y z k block) 0 n
  unfolding over_bounds
  joined_below w x y z k n e =
      let h =
      below_each w x y z (joined at0 n) (joined at1 n) (joined at2 n) (joined at3 n)
      (joined_lt at0 n (λ r. bytes _)) (joined_lt at1 n (λ r. bytes _)) (joined_lt at2 n (λ r. bytes _)) (rw (joined_word n) at e) in
      record {
        at = λ r l p.
            rw (
              lt-leb w (at0 r) (omega (arith, h.0, joined_le at0 n r p)),
              lt-leb x (at1 r) (omega (arith, h.1, joined_le at1 n r p)),
              lt-leb y (at2 r) (omega (arith, h.2, joined_le at2 n r p)),
              lt-leb z (at3 r) (omega (arith, h.3, joined_le at3 n r p)),
            );
      }

  row_bytes : (r : ℕ) → any_high (word block r) ≡ (leb 128 (at0 r) || (leb 128 (at1 r) || (leb 128 (at2 r) || leb 128 (at3 r))))
  row_bytes r = high_bytes (at0 r) (at1 r) (at2 r) (at3 r) (bytes _) (bytes _) (bytes _) (bytes _)

  module _ (w x y z k n : ℕ) (few : (w ≤ 127) × (x ≤ 127) × (y ≤ 127) × (z ≤ 127)) where
    -- a byte of the joined rows is 128 or more: a row is over its bounds, where 255 is no value
    pub high_found : any_high (joined (word block) n) ≡ true → Finds (over_bounds w x y z 0 block) 0 n true
    unfolding over_bounds
    high_found e =
        let r = (joined_high (word block) n).some e in
        record {
          none = λ t. absurd (false≢true (sym t));
          some = λ t. (r.0, r.1, r.2, rw (strict w, strict x, strict y, strict z) (high_over w x y z _ _ _ _ (omega (arith, few.0), omega (arith, few.1), omega (arith, few.2), omega (arith, few.3)) (sym (row_bytes r.0) ∙ r.3)));
        }
      where
        strict : (m v : ℕ) → over_at false m v ≡ leb m v
        strict m v = and_true (leb m v)

    -- no byte of the joined rows is 128 or more: the slack shows whether a row is over its bounds
    pub raised_found : {t : Bool} → any_high (joined (word block) n) ≡ false → Finds (raised_row (slack_of w x y z) block) 0 n t
        → Finds (over_bounds w x y z k block) 0 n t
    unfolding over_bounds raised_row
    raised_found e h = finds_same (λ r l p. same r p) h
      where
        same : (r : ℕ) → r < n → raised_row (slack_of w x y z) block r ≡ over_bounds w x y z k block r
        same r p =
            let low = sym (row_bytes r) ∙ ((joined_high (word block) n).none e).at r (omega arith) p in
            let low1 = or_false_r (leb 128 (at0 r)) _ low in
            let low2 = or_false_r (leb 128 (at1 r)) _ low1 in
            let l0 = leb-false 128 _ (or_false_l _ _ low) in
            let l1 = leb-false 128 _ (or_false_l _ _ low1) in
            let l2 = leb-false 128 _ (or_false_l _ _ low2) in
            let l3 = leb-false 128 _ (or_false_r (leb 128 (at2 r)) _ low2) in
            raised_bytes w x y z (at0 r) (at1 r) (at2 r) (at3 r) (omega (arith, few.0), omega (arith, few.1), omega (arith, few.2), omega (arith, few.3)) l0 l1 l2 l3
            ∙ rw (
              plain_over 0 k w (at0 r) (inr (λ e. omega (arith, l0))),
              plain_over 1 k x (at1 r) (inr (λ e. omega (arith, l1))),
              plain_over 2 k y (at2 r) (inr (λ e. omega (arith, l2))),
              plain_over 3 k z (at3 r) (inr (λ e. omega (arith, l3))),
            )

    -- in any case a turned row and its slack do
    turned_row_lem : (r : ℕ) → turned_row (turn_of k) (slack_of w x y z - turn_of k) block r ≡ over_bounds w x y z k block r
    unfolding over_bounds turned_row
    turned_row_lem r =
        let a = one_if (ltb 0 k) in
        let b = one_if (ltb 1 k) in
        let c = one_if (ltb 2 k) in
        let d = one_if (ltb 3 k) in
        let ha = one_small (ltb 0 k) in
        let hb = one_small (ltb 1 k) in
        let hc = one_small (ltb 2 k) in
        let hd = one_small (ltb 3 k) in
        let e : slack_of w x y z - turn_of k ≡ slack_of (w + a) (x + b) (y + c) (z + d) =
        minus_bytes _ _ _ _ a b c d _ _ _ _ (omega (arith, few.0, ha)) (omega (arith, few.1, hb)) (omega (arith, few.2, hc)) (omega (arith, few.3, hd)) in
        rw (e, turned_bytes (at0 r) (at1 r) (at2 r) (at3 r) a b c d (bytes _) (bytes _) (bytes _) ha hb hc)
        (either_bytes (w + a) (x + b) (y + c) (z + d) _ _ _ _ (omega (arith, few.0, ha), omega (arith, few.1, hb), omega (arith, few.2, hc), omega (arith, few.3, hd))
        (mod-lt _ (omega arith)) (mod-lt _ (omega arith)) (mod-lt _ (omega arith)) (mod-lt _ (omega arith))
        ∙ rw (
          turn_over (ltb 0 k) w (at0 r) (bytes _),
          turn_over (ltb 1 k) x (at1 r) (bytes _),
          turn_over (ltb 2 k) y (at2 r) (bytes _),
          turn_over (ltb 3 k) z (at3 r) (bytes _),
        ))

    pub turned_found : {t : Bool} → Finds (turned_row (turn_of k) (slack_of w x y z - turn_of k) block) 0 n t → Finds (over_bounds w x y z k block) 0 n t
    turned_found h = finds_same (λ r l p. turned_row_lem r) h

    pub turned_before : (o : Option ℕ) → FirstOf (turned_row (turn_of k) (slack_of w x y z - turn_of k) block) 0 n o
        → (unwrap_or o n ≤ n) × NoneIn (over_bounds w x y z k block) 0 (unwrap_or o n)
    turned_before o h = before_first n o (first_of_same o (λ r l p. turned_row_lem r) h)

-- ---- a 255 shows in the joined rows of its block
-- the highest bit of byte j of row r
row_bit : (block : List ℕ) (r j : ℕ) → j < 4 → ((i : ℕ) → i < 4 → byte_at block (4 * r + i) < 256) → bit (8 * j + 7) (word block r) ≡ leb 128 (byte_at block (4 * r + j))
row_bit block r j l bytes = go j l
  where
    each : (bit 7 (word block r) ≡ leb 128 (byte_at block (4 * r))) × (bit 15 (word block r) ≡ leb 128 (byte_at block (4 * r + 1)))
        × (bit 23 (word block r) ≡ leb 128 (byte_at block (4 * r + 2))) × (bit 31 (word block r) ≡ leb 128 (byte_at block (4 * r + 3)))
    each = high_each _ _ _ _ (rw add-zero at (bytes 0 (omega arith))) (bytes 1 (omega arith)) (bytes 2 (omega arith)) (bytes 3 (omega arith))

    go : (j : ℕ) → j < 4 → bit (8 * j + 7) (word block r) ≡ leb 128 (byte_at block (4 * r + j))
    go zero p = rw add-zero each.0
    go (suc zero) p = each.1
    go (suc (suc zero)) p = each.2
    go (suc (suc (suc zero))) p = each.3
    go (suc (suc (suc (suc k)))) p = absurd (omega arith)

pub any_joined : (b : List ℕ) (s q i j : ℕ) → 512 * (first_block b s + q) + 512 ≤ length b → i < 127 → j < 4
    → ((m : ℕ) → m < 4 → byte_at b (row_place b s (127 * q + i) + m) < 256) → is_any (byte_at b (row_place b s (127 * q + i) + j)) ≡ true
    → bit (8 * j + 7) (joined (word (block_at b (first_block b s + q))) 127) ≡ true
unfolding row_place
any_joined b s q i j there p l bytes e =
    joined-bit (word (block_at b (first_block b s + q))) (8 * j + 7) 127 i p
    (row_bit (block_at b (first_block b s + q)) i j l (λ m k. rw (same m k) (bytes m k))
    ∙ le-leb 128 (byte_at (block_at b (first_block b s + q)) (4 * i + j)) (omega (arith, same j l, eqb-true (byte_at b (row_place b s (127 * q + i) + j)) 255 e)))
  where
    same : (m : ℕ) → m < 4 → byte_at (block_at b (first_block b s + q)) (4 * i + m) ≡ byte_at b (row_place b s (127 * q + i) + m)
    same m k =
        let n : 512 * (first_block b s + q) + (4 * i + m) ≡ row_place b s (127 * q + i) + m = omega arith in
        block_byte b (first_block b s + q) there (4 * i + m) (omega arith) ∙ ap (byte_at b) n

-- ---- a block
any_finds : (n : ℕ) (f : ℕ → Bool) → Finds f 0 n (any_below n f)
any_finds n f = record { none = any_none; some = λ e. let r = any_below_e n f e in (r.0, omega arith, r.1, r.2) }

-- a byte of the used rows, and one past them
pub in_used : (w x y z k n j i : ℕ) (block : List ℕ) → i < n → i % 4 ≡ j → wrong_in w x y z k block n i ≡ over_at (ltb j k) (fourth w x y z j) (byte_at block i)
unfolding wrong_in
in_used w x y z k n j i block p e = rw (lt-ltb i n p, e)

pub past_used : (w x y z k n i : ℕ) (block : List ℕ) → n ≤ i → wrong_in w x y z k block n i ≡ set_at block i
unfolding wrong_in
past_used w x y z k n i block p = rw (le-ltb i n p)

-- a row is over its bounds exactly when one of its bytes is wrong, if that goes for each of the four
row_four : (w x y z k n r : ℕ) (block : List ℕ) → over_at (ltb 0 k) w (byte_at block (4 * r)) ≡ wrong_in w x y z k block n (4 * r)
    → over_at (ltb 1 k) x (byte_at block (4 * r + 1)) ≡ wrong_in w x y z k block n (4 * r + 1)
    → over_at (ltb 2 k) y (byte_at block (4 * r + 2)) ≡ wrong_in w x y z k block n (4 * r + 2)
    → over_at (ltb 3 k) z (byte_at block (4 * r + 3)) ≡ wrong_in w x y z k block n (4 * r + 3)
    → over_bounds w x y z k block r
    ≡ (wrong_in w x y z k block n (4 * r)
    || (wrong_in w x y z k block n (4 * r + 1) || (wrong_in w x y z k block n (4 * r + 2) || wrong_in w x y z k block n (4 * r + 3))))
unfolding over_bounds
row_four w x y z k n r block e0 e1 e2 e3 = rw (e0, e1, e2, e3)

-- used rows that are not over their bounds have no wrong byte
pub rows_right : (w x y z k n r : ℕ) (block : List ℕ) → r ≤ n → NoneIn (over_bounds w x y z k block) 0 r → NoneIn (wrong_in w x y z k block (4 * n)) 0 (4 * r)
rows_right w x y z k n r block l h =
    (finds_fours {n = r}
    (λ i p. row_four w x y z k (4 * n) i block (used_byte 0 (4 * i) (omega arith) (omega arith)) (used_byte 1 (4 * i + 1) (omega arith) (omega arith))
    (used_byte 2 (4 * i + 2) (omega arith) (omega arith)) (used_byte 3 (4 * i + 3) (omega arith) (omega arith)))
    (record { none = λ e. h; some = λ e. absurd (false≢true e) })).none refl
  where
    used_byte : (j i : ℕ) → i < 4 * n → i % 4 ≡ j → over_at (ltb j k) (fourth w x y z j) (byte_at block i) ≡ wrong_in w x y z k block (4 * n) i
    used_byte j i p e = sym (in_used w x y z k (4 * n) j i block p e)

-- the unused rows are zero, so a wrong byte is one of a row that is over its bounds
module _ (w x y z k n : ℕ) (block : List ℕ) (s : SmallBounds w x y z) (zero_rest : NoneIn (set_at block) (4 * n) 508) where
  -- an unused byte
  unused : (v i : ℕ) → 1 ≤ v → 4 * n ≤ i → i < 508 → (leb v (byte_at block i) ≡ false) × (wrong_in w x y z k block (4 * n) i ≡ false)
  unused v i h p q =
      let e : set_at block i ≡ false = zero_rest.at i p q in
      let o : byte_at block i ≡ 0 = eqb-true (byte_at block i) 0 (not-false _ e) in
      (lt-leb v (byte_at block i) (omega arith), past_used w x y z k (4 * n) i block p ∙ e)

  byte_same : (j i : ℕ) → 1 ≤ fourth w x y z j → i % 4 ≡ j → i < 508 → over_at (ltb j k) (fourth w x y z j) (byte_at block i) ≡ wrong_in w x y z k block (4 * n) i
  byte_same j i h e p = go (below i (4 * n))
    where
      go : (i < 4 * n) ⊎ (4 * n ≤ i) → over_at (ltb j k) (fourth w x y z j) (byte_at block i) ≡ wrong_in w x y z k block (4 * n) i
      go (inl l) = sym (in_used w x y z k (4 * n) j i block l e)
      go (inr l) = let u = unused (fourth w x y z j) i h l p in rw u.0 (sym u.1)

  pub over_found : {t : Bool} → Finds (over_bounds w x y z k block) 0 127 t → Finds (wrong_in w x y z k block (4 * n)) 0 508 t
  over_found h =
      finds_fours
      (λ r p. row_four w x y z k (4 * n) r block (byte_same 0 (4 * r) s.some.0 (omega arith) (omega arith))
      (byte_same 1 (4 * r + 1) s.some.1 (omega arith) (omega arith)) (byte_same 2 (4 * r + 2) s.some.2 (omega arith) (omega arith))
      (byte_same 3 (4 * r + 3) s.some.3 (omega arith) (omega arith)))
      h

-- a byte that is not wrong where no place has a value is not wrong
doubt_wrong : (w x y z k n i : ℕ) (block : List ℕ) → wrong_in w x y z 0 block n i ≡ false → wrong_in w x y z k block n i ≡ false
unfolding wrong_in
doubt_wrong w x y z k n i block e = go (below i n)
  where
    go : (i < n) ⊎ (n ≤ i) → wrong_in w x y z k block n i ≡ false
    go (inl l) =
        let low = sym (plain_over (i % 4) 0 (fourth w x y z (i % 4)) (byte_at block i) (inl (omega arith))) ∙ (rw (lt-ltb i n l) at e) in
        rw (lt-ltb i n l, low)
    go (inr l) = rw (le-ltb i n l) (rw (le-ltb i n l) at e)

-- ---- block q of sheet s
-- a byte of a used row, and of one that is not
pub wrong_used : (b : List ℕ) (s r j x : ℕ) → r < rows_of b s → is_wrong b s r j x ≡ over_at (ltb j (any_places b s)) (place_bound b s j) x
unfolding is_wrong bound_of is_value place_bound
wrong_used b s r j x p = rw (lt-ltb r (rows_of b s) p)

wrong_unused : (b : List ℕ) (s r j x : ℕ) → rows_of b s ≤ r → is_wrong b s r j x ≡ leb 1 x
unfolding is_wrong bound_of is_value
wrong_unused b s r j x p = rw (le-ltb r (rows_of b s) p) (and_true (leb 1 x))

-- the four bounds of a row
fourth_bound : (b : List ℕ) (s j : ℕ) → j < 4
    → fourth (place_bound b s 0) (place_bound b s 1) (place_bound b s 2) (place_bound b s 3) j ≡ place_bound b s j
fourth_bound b s zero p = refl
fourth_bound b s (suc zero) p = refl
fourth_bound b s (suc (suc zero)) p = refl
fourth_bound b s (suc (suc (suc zero))) p = refl
fourth_bound b s (suc (suc (suc (suc j)))) p = absurd (omega arith)

module _ (b : List ℕ) (s q : ℕ) (there : 512 * (first_block b s + q) + 512 ≤ length b) (some : 127 * q < rows_of b s) where
  -- byte i belongs to a used row exactly when it is one of the first 4 for each used row of the block
  used : (i : ℕ) → i < 508 → ltb i (4 * used_rows (rows_of b s) q) ≡ ltb (127 * q + i / 4) (rows_of b s)
  used i p = go (below (rows_of b s - 127 * q) 127) (below i (4 * (rows_of b s - 127 * q)))
    where
      go : (rows_of b s - 127 * q < 127) ⊎ (127 ≤ rows_of b s - 127 * q) → (i < 4 * (rows_of b s - 127 * q)) ⊎ (4 * (rows_of b s - 127 * q) ≤ i)
          → ltb i (4 * used_rows (rows_of b s) q) ≡ ltb (127 * q + i / 4) (rows_of b s)
      go (inl d) (inl l) =
          rw (lt-ltb (rows_of b s - 127 * q) 127 d)
          (lt-ltb i (4 * (rows_of b s - 127 * q)) l ∙ sym (lt-ltb (127 * q + i / 4) (rows_of b s) (omega arith)))
      go (inl d) (inr l) =
          rw (lt-ltb (rows_of b s - 127 * q) 127 d)
          (le-ltb i (4 * (rows_of b s - 127 * q)) l ∙ sym (le-ltb (127 * q + i / 4) (rows_of b s) (omega arith)))
      go (inr d) l =
          rw (le-ltb (rows_of b s - 127 * q) 127 d) (lt-ltb i (4 * 127) (omega arith) ∙ sym (lt-ltb (127 * q + i / 4) (rows_of b s) (omega arith)))

  -- byte i is wrong, as the code looks at it
  abbrev seen_wrong : ℕ → Bool
  seen_wrong = wrong_in (place_bound b s 0) (place_bound b s 1) (place_bound b s 2) (place_bound b s 3) (any_places b s) (block_at b (first_block b s + q)) (4 * used_rows (rows_of b s) q)

  same_byte : (i : ℕ) → i < 508 → seen_wrong i ≡ wrong_byte b s q i
  unfolding wrong_in wrong_byte
  same_byte i p = go (either (ltb (127 * q + i / 4) (rows_of b s)))
    where
      byte : byte_at (block_at b (first_block b s + q)) i ≡ byte_at b (512 * (first_block b s + q) + i)
      byte = block_byte b (first_block b s + q) there i (omega arith)

      go : (ltb (127 * q + i / 4) (rows_of b s) ≡ true) ⊎ (ltb (127 * q + i / 4) (rows_of b s) ≡ false) → seen_wrong i ≡ wrong_byte b s q i
      go (inl e) = rw (used i p, e, fourth_bound b s (i % 4) (mod-lt i (omega arith)), byte, wrong_used b s (127 * q + i / 4) (i % 4) (byte_at b (512 * (first_block b s + q) + i)) (ltb-true _ _ e))
      go (inr e) = rw (used i p, e, byte, wrong_unused b s (127 * q + i / 4) (i % 4) (byte_at b (512 * (first_block b s + q) + i)) (ltb-false _ _ e)) (set_leb (byte_at b (512 * (first_block b s + q) + i)))

  -- so it is wrong exactly when the code sees a wrong byte
  block_same : any_below 508 seen_wrong ≡ wrong_block b s q
  unfolding wrong_block
  block_same = sym (finds_any (any_below 508 seen_wrong) (finds_same (λ i l p. same_byte i p) (any_finds 508 seen_wrong)))

-- a block of a sheet has a used row, n the sheet's rows
pub row_of_block : (b : List ℕ) (s q n : ℕ) → n ≡ rows_of b s → q < blocks_of b s → 127 * q < n
unfolding blocks_of
row_of_block b s q n e p = omega arith

-- a look at block q by any bounds, from what the code holds: where its sheet begins, the block's bytes, the sheet's rows and the used ones of the block
pub block_over : (b block : List ℕ) (s q start w x y z k n used : ℕ) (r : Bool)
    → start ≡ first_block b s → block ≡ block_at b (start + q) → n ≡ rows_of b s → used ≡ used_rows n q
    → Finds (wrong_in w x y z k block (4 * used)) 0 508 r → over_block b s w x y z k q ≡ r
unfolding over_block
block_over b block s q start w x y z k n used r hs hb hn hu h = finds_any r (rw (hb, hu, hn, hs) at h)

-- by the sheet's own bounds
pub over_wrong : (b : List ℕ) (s w x y z k q : ℕ) → SheetThere b s → RowBounds b s w x y z k → q < blocks_of b s
    → over_block b s w x y z k q ≡ wrong_block b s q
unfolding over_block blocks_of
over_wrong b s w x y z k q h u p =
    rw (u.first, u.second, u.third, u.last, u.values) (block_same b s q (omega (arith, h.blocks)) (omega arith))

-- a block that is not over where 255 passes nowhere is not over where it passes
pub over_none : (b : List ℕ) (s w x y z k q : ℕ) → over_block b s w x y z 0 q ≡ false → over_block b s w x y z k q ≡ false
unfolding over_block
over_none b s w x y z k q e = none_any (record { at = λ i l p. doubt_wrong w x y z k (4 * used_rows (rows_of b s) q) i (block_at b (first_block b s + q)) ((any_none e).at i l p) })

-- and where its first wrong byte is
pub block_first : (b block : List ℕ) (s q start w x y z k n used i : ℕ)
    → BoundedSheet b s start w x y z k → q < blocks_of b s → block ≡ block_at b (start + q) → n ≡ rows_of b s → used ≡ used_rows n q
    → FirstIn (wrong_in w x y z k block (4 * used)) 0 508 i → FirstIn (wrong_byte b s q) 0 508 i
unfolding blocks_of
block_first b block s q start w x y z k n used i m p hb hn hu h =
    let u = m.bounds in
    first_in_same (λ j l o. same_byte b s q (omega arith) (omega arith) j o) (rw (u.first, u.second, u.third, u.last, u.values, hb, hu, hn, m.starts) at h)
