-- Laws of walks that pages name and that no function needs any more: where k rows further on stands, and what is found in one block. Assumes nothing.
use mathlib.Core.Path.{◌∙◌, ◌≡◌, ap, sym}
use mathlib.Core.Bool.{Bool, true}
use mathlib.Core.List.{List}
use Prim.Native.Nat.{◌%◌, ◌*◌, ◌+◌, ◌-◌, ◌/◌, ◌<◌, ℕ}
use native.Mathlib.Omega.{arith}
use Rattle.fields.specs.Bytes.{byte_at}
use Rattle.model.specs.Masks.{bit}
use Rattle.model.specs.Tests.{Finds}
use Rattle.heads.specs.Blocks.{block_at}
use Rattle.heads.specs.Heads.{rows_of}
use Rattle.rows.specs.Bounds.{BoundedSheet, used_rows, wrong_in}
use Rattle.rows.specs.Rows.{blocks_of, wrong_block}
use Rattle.rows.proofs.Bounds.{block_over, over_wrong}
use Rattle.counters.specs.Counters.{cell_place}
use Rattle.cells.specs.Cells.{Readable}
use Rattle.cover.specs.Covers.{RowAt}

-- k rows after row r, which is in block `block`, and `more` blocks after that
pub place_moved : (begin r block k more : ℕ) {at q : ℕ} → at ≡ cell_place begin r 0 → block ≡ r / 127 → (r + k) / 127 ≡ block + more → q ≡ at + 4 * (k + more)
    → q ≡ cell_place begin (r + k) 0
place_moved begin r block k more e f g h = omega (arith, e, f, g, h)

-- in the same block
pub place_along : (begin r block k : ℕ) {at q : ℕ} → at ≡ cell_place begin r 0 → block ≡ r / 127 → (r + k) / 127 ≡ block → q ≡ at + 4 * k → q ≡ cell_place begin (r + k) 0
place_along begin r block k e f g h = omega (arith, e, f, g, h)

-- its row there
pub row_moved : (r block row k more : ℕ) {q : ℕ} → r ≡ 127 * block + row → (r + k) / 127 ≡ block + more → q ≡ row + k - 127 * more → q ≡ (r + k) % 127
row_moved r block row k more e f h = omega (arith, e, f, h)

pub row_along : (r block row k : ℕ) {q : ℕ} → r ≡ 127 * block + row → (r + k) / 127 ≡ block → q ≡ row + k → q ≡ (r + k) % 127
row_along r block row k e f h = omega (arith, e, f, h)

-- what a look at a block finds, whose bounds and used rows are those of its sheet
pub block_seen : (b block : List ℕ) (s q start w x y z k n used : ℕ) (r : Bool)
    → BoundedSheet b s start w x y z k → q < blocks_of b s → block ≡ block_at b (start + q) → n ≡ rows_of b s → used ≡ used_rows n q
    → Finds (wrong_in w x y z k block (4 * used)) 0 508 r → r ≡ wrong_block b s q
block_seen b block s q start w x y z k n used r m p hb hn hu h =
    sym (block_over b block s q start w x y z k n used r m.starts hb hn hu h) ∙ over_wrong b s w x y z k q m.there m.bounds p

-- the row that a walk comes to, at the byte that was found, can be put into a table
module _ (b : List ℕ) (begin from k : ℕ) {at : ℕ} (e : at ≡ cell_place begin (from + k) 0) where
  pub row_there : {word : ℕ} → Readable b begin from word → bit k word ≡ true → RowAt b at
  row_there h m = let first = ap (byte_at b) e in record { there = omega (arith, e, h.there k m); first = rw first (h.cell k 0 m (omega arith)) }
