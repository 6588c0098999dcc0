-- Laws of the walk over a word: its first stretch, the first 60 rows, which stand in one block, and the others; and the cells of a row. Assumes nothing.
use mathlib.Core.Path.{◌∙◌, ◌≡◌, ap, refl, sym}
use mathlib.Core.Bool.{Bool, ◌&&◌, ◌||◌, false, not, true}
use mathlib.Core.List.{List}
use Prim.Native.Nat.{◌%◌, ◌*◌, ◌+◌, ◌-◌, ◌<◌, ◌^◌, ◌≤◌, suc, zero, ℕ}
use native.Mathlib.Omega.{arith}
use lib.Bits.{bit_or}
use lib.Dec.{ltb}
use lib.ListN.{get_or, length}
use borrow.Author.Tests.{lt-ltb, ltb-true}
use Rattle.model.specs.Masks.{bit}
use Rattle.model.proofs.Masks.{bit_below}
use Rattle.model.proofs.Tests.{and_l, and_r}
use Rattle.fields.specs.Bytes.{byte_at}
use Rattle.counters.specs.Counters.{FirstRows, PastRows, cell_place, near_place}
use Rattle.counters.specs.Steps.{any_block, same_block}
use Rattle.counters.specs.declared.counter.Counters.{Counters}
use Rattle.cells.specs.Cells.{NearRows, Readable, RowAdded, RunOf, Stretch, cell_at}
use Rattle.cells.specs.Places.{Taken}
use Rattle.counters.proofs.Ones.{low_ones}
use Rattle.cells.proofs.Walks.{Part, TwoParts}

-- ---- the rows of a word below a number, and the others
pub rows_split : {word n x y : ℕ} → FirstRows word n x → PastRows word n y → TwoParts word x y
rows_split {word} {n} {x} {y} p q = record { at = λ k. rw (p.at k, q.at k) (cases (bit k word) (ltb k n)) }
  where
    cases : (s t : Bool) → s ≡ ((s && t) || (s && not t))
    cases true true = refl
    cases true false = refl
    cases false t = refl

pub first_part : {word n x : ℕ} → FirstRows word n x → Part x word
first_part {word} p = record { at = λ k e. and_l (bit k word) _ (sym (p.at k) ∙ e) }

pub past_part : {word n y : ℕ} → PastRows word n y → Part y word
past_part {word} q = record { at = λ k e. and_l (bit k word) _ (sym (q.at k) ∙ e) }

pub part_readable : {b : List ℕ} {begin from word x : ℕ} → Part x word → Readable b begin from word → Readable b begin from x
part_readable p h = record { there = λ k e. h.there k (p.at k e); cell = λ k j e. h.cell k j (p.at k e) }

pub first_near : {word x : ℕ} → FirstRows word 60 x → NearRows x
first_near {word} p = record { few = λ k e. ltb-true k 60 (and_r (bit k word) _ (sym (p.at k) ∙ e)) }

pub near_part : {word : ℕ} → NearRows word → Part word (2 ^ 60 - 1)
near_part p = record { at = λ k e. low_ones 60 k ∙ lt-ltb k 60 (p.few k e) }

-- ---- the stretch
pub part_stretch : {may : Counters → ℕ → Type 0} {b : List ℕ} {p : Counters} {rows x : ℕ} → Part x rows → Stretch may b p rows → Stretch may b p x
part_stretch q s = record {
  first = s.first;
  in_word = λ k e. s.in_word k (q.at k e);
  may_go = λ k e. s.may_go k (q.at k e);
  there = λ k e. s.there k (q.at k e);
}

-- rows of a word, in whatever block
pub far_stretch : {b : List ℕ} {p : Counters} {rows : ℕ} → p.bit ≡ 0 → rows < 2 ^ 64 → Readable b p.begin (64 * p.word) rows → Stretch any_block b p rows
far_stretch {rows = rows} z l h = record { first = z; in_word = λ k e. bit_below 64 rows k l e; may_go = λ k e. tt; there = h.there }

-- no word has its first 60 rows in two blocks
most_row : (w : ℕ) → w < 8 → 64 * w % 127 ≤ 67
most_row zero l = omega arith
most_row (suc zero) l = omega arith
most_row (suc (suc zero)) l = omega arith
most_row (suc (suc (suc zero))) l = omega arith
most_row (suc (suc (suc (suc zero)))) l = omega arith
most_row (suc (suc (suc (suc (suc zero))))) l = omega arith
most_row (suc (suc (suc (suc (suc (suc zero)))))) l = omega arith
most_row (suc (suc (suc (suc (suc (suc (suc zero))))))) l = omega arith
most_row (suc (suc (suc (suc (suc (suc (suc (suc w)))))))) l = absurd (omega arith)

pub near_stretch : {b : List ℕ} {p : Counters} → p.bit ≡ 0 → p.word < 8 → near_place p.begin p.word + 239 < length b → Stretch same_block b p (2 ^ 60 - 1)
near_stretch {p = p} z l there = record {
  first = z;
  in_word = λ k e. omega (arith, few k e);
  may_go = λ k e. omega (arith, few k e, rw z at p.stands.counters.row_is, most_row p.word l);
  there = λ k e. omega (arith, few k e, most_row p.word l, there);
}
  where
    few : (k : ℕ) → bit k (2 ^ 60 - 1) ≡ true → k < 60
    few k e = ltb-true k 60 (sym (low_ones 60 k) ∙ e)

-- rows that are set from the first on
pub run_stretch : {may : Counters → ℕ → Type 0} {b : List ℕ} {p : Counters} {rows n : ℕ} → RunOf rows n → Stretch may b p rows → Stretch may b p (2 ^ n - 1)
run_stretch {n = n} r s = part_stretch (record { at = λ k e. r.at k (ltb-true k n (sym (low_ones n k) ∙ e)) }) s

-- ---- a turn of a walk over the rows of a word
-- the walk may go on to a row that is set, and the row is there
pub set_row : {may : Counters → ℕ → Type 0} {b : List ℕ} {p : Counters} {rows : ℕ} → Stretch may b p rows → (i : ℕ) → bit i rows ≡ true
    → may p i × (p.bit + i < 64) × (cell_place p.begin (64 * p.word + p.bit + i) 3 < length b)
set_row s i e =
    let z = s.there i e in
    (s.may_go i e, omega (arith, s.first, s.in_word i e), omega (arith, s.first, z))

-- the lowest row that is left is set
pub turn_row : {may : Counters → ℕ → Type 0} {b : List ℕ} {p : Counters} {rows left i rest : ℕ} → Stretch may b p rows → Part left rows → Taken left i rest
    → may p i × (p.bit + i < 64) × (cell_place p.begin (64 * p.word + p.bit + i) 3 < length b)
turn_row {i = i} s q t = set_row s i (q.at i t.cleared.here)

-- it stands there once it went on
pub stands_at : (p q : Counters) (i : ℕ) → p.bit ≡ 0 → (q.begin ≡ p.begin) × (q.word ≡ p.word) × (q.bit ≡ p.bit + i) → q.at ≡ cell_place p.begin (64 * p.word + i) 0
stands_at p q i z e =
    let bit : q.bit ≡ i = omega (arith, z, e.2) in
    rw (e.0, e.1, bit) at q.stands.place

-- ---- the cells of a row, at the place that was found
pub row_cell : (b : List ℕ) (begin r j : ℕ) {at : ℕ} → at ≡ cell_place begin r 0 → byte_at b (at + j) ≡ cell_at b begin r j
row_cell b begin r j {at} e = let z : at + j ≡ cell_place begin r j = omega (arith, e) in ap (byte_at b) z

-- as pass 2 adds them to the sets
pub row_sets : {b : List ℕ} (begin r : ℕ) {at : ℕ} {f g : List ℕ} → at ≡ cell_place begin r 0 → RowAdded b at f g
    → (j : ℕ) → j < 4 → get_or g j 0 ≡ bit_or (get_or f j 0) (2 ^ (cell_at b begin r j % 32))
row_sets {b} begin r {f = f} e h j l = h.each j l ∙ ap (λ (x : ℕ). bit_or (get_or f j 0) (2 ^ (x % 32))) (row_cell b begin r j e)
