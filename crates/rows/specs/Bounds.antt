-- What the inner functions of the check promise: how they look at a block. The promise of the check does not speak of these, so a reader of
-- it may pass over this page.
use Rattle.std.specs.Prelude.{◌≡◌, ℕ, zero, suc, ◌+◌, ◌-◌, ◌*◌, ◌/◌, ◌%◌, ◌^◌, ◌<◌, ◌≤◌, Bool, false, cond, ◌&&◌, ◌||◌, List, length, ◌==◌, bit_or, nat_lt}
use Rattle.model.specs.Masks.{bit}
use Rattle.model.specs.Tests.{NoneIn, any_below, one_if}
use Rattle.heads.specs.Blocks.{block_at, word}
use Rattle.fields.specs.Bytes.{byte_at}
use Rattle.heads.specs.Heads.{column_of, rows_of, values_of, width_of}
use Rattle.heads.specs.Limits.{set_at}
use Rattle.rows.specs.Rows.{any_places, blocks_of, first_block, over_at, row_place, string_at}

-- ---- a block and its bounds
-- what byte j of a used row of sheet s has to be below
unfoldable pub place_bound : List ℕ → ℕ → ℕ → ℕ
place_bound b s j = cond (nat_lt j (width_of b s)) (values_of b (column_of b s j)) 1

-- number j of w, x, y, z
abbrev pub fourth : ℕ → ℕ → ℕ → ℕ → ℕ → ℕ
fourth w x y z j = cond (j == 0) w (cond (j == 1) x (cond (j == 2) y z))

-- how many rows of block q are used where the sheet has n
abbrev pub used_rows : ℕ → ℕ → ℕ
used_rows n q = cond (nat_lt (n - 127 * q) 127) (n - 127 * q) 127

-- byte i of a block is wrong where its rows' bytes, at the first k of which 255 passes, have to be below w, x, y, z, and its first n bytes are those
-- of used rows. A first look takes 0 for k, so that 255 is wrong too
unfoldable pub wrong_in : ℕ → ℕ → ℕ → ℕ → ℕ → List ℕ → ℕ → ℕ → Bool
wrong_in w x y z k block n i = cond (nat_lt i n) (over_at (nat_lt (i % 4) k) (fourth w x y z (i % 4)) (byte_at block i)) (set_at block i)

-- row r of a block has a byte that is over its bound
unfoldable pub over_bounds : ℕ → ℕ → ℕ → ℕ → ℕ → List ℕ → ℕ → Bool
over_bounds w x y z k block r =
    over_at (nat_lt 0 k) w (byte_at block (4 * r))
    || (over_at (nat_lt 1 k) x (byte_at block (4 * r + 1)) || (over_at (nat_lt 2 k) y (byte_at block (4 * r + 2)) || over_at (nat_lt 3 k) z (byte_at block (4 * r + 3))))

-- w, x, y, z are the bounds of the bytes of a used row of sheet s, and 255 passes at the first k of these
pub record RowBounds (b : List ℕ) (s w x y z k : ℕ) : Type 0 where
  pub first : w ≡ place_bound b s 0
  pub second : x ≡ place_bound b s 1
  pub third : y ≡ place_bound b s 2
  pub last : z ≡ place_bound b s 3
  pub values : k ≡ any_places b s

-- none of them is 0, and none is above 127
pub record SmallBounds (w x y z : ℕ) : Type 0 where
  pub some : (1 ≤ w) × (1 ≤ x) × (1 ≤ y) × (1 ≤ z)
  pub few : (w ≤ 127) × (x ≤ 127) × (y ≤ 127) × (z ≤ 127)

-- the entry of sheet s and its blocks are there
pub record SheetThere (b : List ℕ) (s : ℕ) : Type 0 where
  pub head : 512 ≤ length b
  pub entry : s < 8
  pub blocks : 512 * (first_block b s + blocks_of b s) ≤ length b

-- the same, with the block where its rows begin and the bounds of their bytes
pub record BoundedSheet (b : List ℕ) (s start w x y z k : ℕ) : Type 0 where
  pub there : SheetThere b s
  pub starts : start ≡ first_block b s
  pub bounds : RowBounds b s w x y z k
  pub small : SmallBounds w x y z

-- block q of sheet s has a byte that is wrong by the bounds w, x, y, z, where 255 passes at the first k places of a used row
unfoldable pub over_block : List ℕ → ℕ → ℕ → ℕ → ℕ → ℕ → ℕ → ℕ → Bool
over_block b s w x y z k q = any_below 508 (wrong_in w x y z k (block_at b (first_block b s + q)) (4 * used_rows (rows_of b s) q))

-- a look that leaves a doubt where r is true: where it is false, f passes nowhere from a on and below e
pub record Clears (f : ℕ → Bool) (a e : ℕ) (r : Bool) : Type 0 where
  pub none : r ≡ false → NoneIn f a e

-- ---- a row as one 32-bit number
-- the numbers f 0, f 1, .. , n of them, joined by `|`: every bit that one of them has
unfoldable pub joined : (ℕ → ℕ) → ℕ → ℕ
joined f zero = 0
joined f (suc n) = bit_or (joined f n) (f n)

-- v is n numbers joined by `|`, of which number r passes P r: what a loop over the rows gives of a step that it is passed
pub record Joins (P : ℕ → ℕ → Type 0) (n v : ℕ) : Type 0 where
  pub each : ℕ → ℕ
  pub passes : (r : ℕ) → r < n → P r (each r)
  pub all : v ≡ joined each n

-- each byte of v is below its bound
unfoldable pub below_bounds : ℕ → ℕ → ℕ → ℕ → ℕ → Bool
below_bounds w x y z v = nat_lt (v % 256) w && (nat_lt (v / 256 % 256) x && (nat_lt (v / 65536 % 256) y && nat_lt (v / 16777216) z))

-- one of the four bytes of v is 128 or more
unfoldable pub any_high : ℕ → Bool
any_high v = bit 7 v || (bit 15 v || (bit 23 v || bit 31 v))

-- 128 less each bound: added to a row's bytes, which are below 128, it brings one to 128 or more exactly when it is not below its bound
abbrev pub slack_of : ℕ → ℕ → ℕ → ℕ → ℕ
slack_of w x y z = 128 - w + (128 - x) * 256 + (128 - y) * 65536 + (128 - z) * 16777216

-- row r of a block, with k added, has a byte that is 128 or more
unfoldable pub raised_row : ℕ → List ℕ → ℕ → Bool
raised_row k block r = any_high ((word block r + k) % 2 ^ 32)

-- ---- a row with its values turned: each one up, and 255 to 0. So 255 is below every bound that has gone up too, and nothing else changes sides
-- 1 in the byte of each of the k values, 0 in the others
abbrev pub turn_of : ℕ → ℕ
turn_of k = one_if (nat_lt 0 k) + one_if (nat_lt 1 k) * 256 + one_if (nat_lt 2 k) * 65536 + one_if (nat_lt 3 k) * 16777216

-- no byte of o is above 1
pub record SmallTurn (o : ℕ) : Type 0 where
  pub first : o % 256 ≤ 1
  pub second : o / 256 % 256 ≤ 1
  pub third : o / 65536 % 256 ≤ 1
  pub last : o / 16777216 ≤ 1

-- each byte of o added to that of v, without a carry
unfoldable pub turned : ℕ → ℕ → ℕ
turned o v =
    (v % 256 + o % 256) % 256 + (v / 256 % 256 + o / 256 % 256) % 256 * 256 + (v / 65536 % 256 + o / 65536 % 256) % 256 * 65536
    + (v / 16777216 + o / 16777216) % 256 * 16777216

-- row r of a block, turned by o, has a byte that is 128 or more, or has one once slack is added
unfoldable pub turned_row : ℕ → ℕ → List ℕ → ℕ → Bool
turned_row o slack block r = any_high (turned o (word block r)) || any_high ((turned o (word block r) + slack) % 2 ^ 32)

-- ---- rows that do not rise
-- one more than the row before row r of sheet s as a byte string, or 0 for the first: row r is above it exactly when one more than row r is
abbrev pub string_before : List ℕ → ℕ → ℕ → ℕ
string_before b s r = cond (r == 0) 0 (string_at b (row_place b s (r - 1)) + 1)
