-- Laws of the refusals: for a wrong byte, of a value and of filler; for the first row that does not rise, of a sheet and of a book. Assumes nothing.
use mathlib.Core.Path.{◌≡◌, ap, refl, sym, ◌∙◌}
use mathlib.Core.Bool.{false, false≢true, true}
use mathlib.Core.Logic.{◌⊎◌, inl, inr}
use mathlib.Core.List.{List}
use Prim.Native.Nat.{◌%◌, ◌*◌, ◌+◌, ◌/◌, ◌<◌, ℕ}
use native.Mathlib.Omega.{arith}
use borrow.Author.Tests.{le-ltb, lt-ltb}
use Rattle.model.specs.Tests.{FirstIn, FirstOf, NoneIn}
use Rattle.model.proofs.Firsts.{first_in_end, first_in_found, first_in_lowest, first_in_none, none_any, none_lowest}
use Rattle.model.proofs.Tests.{any_below_i, either}
use Rattle.std.specs.Prelude.{IsSome, None, Option, Some}
use Rattle.heads.specs.Blocks.{block_at}
use Rattle.heads.specs.Heads.{columns_of, forbids_of, rows_of, sheets_of}
use Rattle.rows.specs.Rows.{blocks_of, fall_place, falls, falls_in, fault_at, fault_in_block, fault_in_sheet, first_block, first_fall, first_fault, is_value, kind_of, row_place, wrong_block, wrong_byte, wrong_sheet}
use Rattle.rows.specs.Bounds.{BoundedSheet, used_rows, wrong_in}
use Rattle.rows.proofs.Bounds.{block_first}
use Rattle.book.specs.Refusals.{fault_number, refusal_number, verdict_of}
use Rattle.book.specs.Verdicts.{accepted, bad_filler, bad_order, bad_value, number_of, order_verdict, row_verdict}
use Rattle.book.specs.declared.refused.Refusal.{Refusal}

-- ---- a wrong byte
module _ (b : List ℕ) (s q i : ℕ) where
  -- the place of byte i of block q of sheet s
  abbrev pub place_of : ℕ
  place_of = 128 * (first_block b s + q) + i / 4

  place : (512 * (first_block b s + q) + i) / 4 ≡ place_of
  place = omega arith

  -- of a value
  pub value_at : is_value b s (127 * q + i / 4) (i % 4) ≡ true → row_verdict b (fault_at b s q i) ≡ bad_value place_of
  unfolding fault_at kind_of
  value_at e = rw (e, place)

  -- of filler
  pub filler_at : is_value b s (127 * q + i / 4) (i % 4) ≡ false → row_verdict b (fault_at b s q i) ≡ bad_filler place_of
  unfolding fault_at kind_of
  filler_at e = rw (e, place)

  -- it is the first of its sheet
  pub fault_first : FirstIn (wrong_block b s) 0 (blocks_of b s) q → FirstIn (wrong_byte b s q) 0 508 i → fault_in_sheet b s ≡ fault_at b s q i
  unfolding fault_in_sheet fault_in_block
  fault_first g f = rw (first_in_lowest g, first_in_lowest f)

-- a wrong block has a first wrong byte
pub byte_found : (b : List ℕ) (s q : ℕ) (o : Option ℕ) → wrong_block b s q ≡ true → FirstOf (wrong_byte b s q) 0 508 o → IsSome o
unfolding wrong_block
byte_found b s q None e h = absurd (false≢true (sym (none_any h) ∙ e))
byte_found b s q (Some i) e h = refl

-- the first byte that is wrong by the bounds of its sheet is the first wrong one
pub block_first_of : (b block : List ℕ) (s q start w x y z k n used : ℕ) (o : Option ℕ)
    → BoundedSheet b s start w x y z k → q < blocks_of b s → block ≡ block_at b (start + q) → n ≡ rows_of b s → used ≡ used_rows n q
    → FirstOf (wrong_in w x y z k block (4 * used)) 0 508 o → FirstOf (wrong_byte b s q) 0 508 o
block_first_of b block s q start w x y z k n used None m p hb hn hu h =
    first_in_none (block_first b block s q start w x y z k n used 508 m p hb hn hu (first_in_end (omega arith) (omega arith) (omega arith) h)) (omega arith)
block_first_of b block s q start w x y z k n used (Some i) m p hb hn hu h =
    (h.0, block_first b block s q start w x y z k n used i m p hb hn hu h.1)

-- the first wrong sheet has the first fault of the rows
pub sheet_first : (b : List ℕ) (s : ℕ) → s < sheets_of b → NoneIn (wrong_sheet b) 0 s → wrong_sheet b s ≡ true → first_fault b ≡ fault_in_sheet b s
unfolding first_fault
sheet_first b s p h e = rw (first_in_lowest (first_in_found {f = wrong_sheet b} (omega arith) p h e), lt-ltb s (sheets_of b) p)

-- the refusal that stands for the fault of a sheet has its number, 5 or 6
pub fault_numbered : (b : List ℕ) (s : ℕ) (e : Refusal) → row_verdict b (fault_in_sheet b s) ≡ verdict_of e → refusal_number e ≡ fault_number (fault_in_sheet b s)
unfolding fault_in_sheet fault_in_block fault_at
fault_numbered b s e h = sym (ap number_of h)

-- ---- the first row of a sheet that does not rise
module _ (b : List ℕ) (s : ℕ) where
  pub sheet_falls : (r : ℕ) → forbids_of b s ≡ true → r < rows_of b s → falls b s r ≡ true → falls_in b s ≡ true
  unfolding falls_in
  sheet_falls r f l e = rw (f, any_below_i (rows_of b s) (falls b s) r l e)

  pub fall_stands : (r : ℕ) → FirstIn (falls b s) 0 (rows_of b s) r → fall_place b s / 4 ≡ 128 * first_block b s + r + r / 127
  unfolding fall_place row_place
  fall_stands r q = rw (first_in_lowest q) (omega arith)

  pub sheet_plain : forbids_of b s ≡ false → falls_in b s ≡ false
  unfolding falls_in
  sheet_plain e = rw e

  pub sheet_rises : NoneIn (falls b s) 0 (rows_of b s) → falls_in b s ≡ false
  unfolding falls_in
  sheet_rises h = go (either (forbids_of b s))
    where
      go : (forbids_of b s ≡ true) ⊎ (forbids_of b s ≡ false) → falls_in b s ≡ false
      go (inl e) = rw (e, none_any h)
      go (inr e) = rw e

-- ---- the first one of a book
module _ (b : List ℕ) where
  pub fall_found : (s : ℕ) → s < sheets_of b → NoneIn (falls_in b) 0 s → falls_in b s ≡ true → order_verdict b ≡ bad_order (fall_place b s / 4)
  unfolding order_verdict first_fall
  fall_found s p h e = rw (first_in_lowest (first_in_found {f = falls_in b} (omega arith) p h e), lt-ltb s (sheets_of b) p)

  pub fall_none : NoneIn (falls_in b) 0 (sheets_of b) → order_verdict b ≡ accepted (columns_of b) (sheets_of b)
  unfolding order_verdict first_fall
  fall_none h = rw (none_lowest h, le-ltb (sheets_of b) (sheets_of b) (omega arith))
