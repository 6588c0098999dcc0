-- Laws of the rows: where the sheets' blocks begin, that they are there, and the first fault. Assumes nothing.
use Rattle.std.proofs.Common.{◌≡◌, ℕ, zero, suc, ◌+◌, ◌*◌, ◌%◌, ◌<◌, ◌≤◌, true, not, eqb, ◌⊎◌, List, length, sym, refl, ap, ◌∙◌, inl, inr, le_refl, add-one, arith, le-ltb, lt-ltb, eqb-true}
use borrow.Author.Tests.{not-false}
use Rattle.model.specs.Tests.{FirstIn, NoneIn, lowest, sum}
use Rattle.model.proofs.Firsts.{first_in_found, first_in_lowest, first_in_most, first_in_none, lowest_first_in, none_lowest}
use Rattle.model.proofs.Tests.{any_below_e, any_below_i, below, or_false_l, or_false_r, sum_last}
use Rattle.heads.specs.Blocks.{RightLength, block_count, wrong_length}
use Rattle.heads.specs.Heads.{RightHead, sheets_of}
use Rattle.rows.specs.Rows.{RowFault, blocks_needed, blocks_of, clean, fault, fault_at, fault_in_block, fault_in_sheet, first_block, first_fault, wrong_block, wrong_byte, wrong_sheet}
use Rattle.rows.specs.Bounds.{SheetThere}
use Rattle.heads.proofs.Limits.{in_range}
use Rattle.heads.proofs.Heads.{rows_most, sheets_most}

-- ---- blocks
pub first_block_zero : (b : List ℕ) → first_block b 0 ≡ 1
unfolding first_block sum
first_block_zero b = refl

pub first_block_more : (b : List ℕ) (s : ℕ) → first_block b (s + 1) ≡ first_block b s + blocks_of b s
unfolding first_block
first_block_more b s = rw add-one (omega (arith, sum_last s (blocks_of b)))

first_block_suc : (b : List ℕ) (s : ℕ) → first_block b (suc s) ≡ first_block b s + blocks_of b s
first_block_suc b s = rw (← add-one) (first_block_more b s)

-- the blocks of a sheet lie before those of every later one
pub first_block_later : (b : List ℕ) (s n : ℕ) → s < n → first_block b s + blocks_of b s ≤ first_block b n
first_block_later b s zero h = absurd (omega arith)
first_block_later b s (suc n) h = go (below s n) (first_block_later b s n)
  where
    go : (s < n) ⊎ (n ≤ s) → (s < n → first_block b s + blocks_of b s ≤ first_block b n) → first_block b s + blocks_of b s ≤ first_block b (suc n)
    go (inl p) r = omega (arith, r p, first_block_suc b n)
    go (inr p) r = let e : s ≡ n = omega arith in omega (arith, first_block_suc b n, ap (first_block b) e, ap (blocks_of b) e)

-- a right head needs 33 blocks at most
pub blocks_most : (b : List ℕ) → RightHead b → blocks_needed b ≤ 33
unfolding blocks_needed blocks_of
blocks_most b h = omega (arith, few (sheets_of b) (le_refl _), sheets_most b h)
  where
    few : (s : ℕ) → s ≤ sheets_of b → first_block b s ≤ 1 + 4 * s
    few zero p = omega (arith, first_block_zero b)
    few (suc s) p = omega (arith, few s (omega arith), first_block_suc b s, rows_most b h s p)

-- ---- a length that is right
-- a right length is that of 1 to 33 blocks
pub right_length : (b : List ℕ) → RightLength b → (512 * block_count b ≡ length b) × (1 ≤ block_count b) × (block_count b ≤ 33)
unfolding wrong_length
right_length b e =
    let m : length b % 512 ≡ 0 = eqb-true (length b % 512) 0 (not-false _ (or_false_l _ _ e)) in
    let r = in_range 512 16896 (length b) (or_false_r (not (eqb (length b % 512) 0)) _ e) in
    (omega arith, omega (arith, r.0), omega (arith, r.1))

-- a right length is that of a head at least
pub head_there : (b : List ℕ) → RightLength b → 512 ≤ length b
head_there b e = let r = right_length b e in omega (arith, r.0, r.1)

-- where the blocks are those that the sheets need, those of a sheet are there, and few
module _ (b : List ℕ) (h : RightLength b) (n : blocks_needed b ≡ block_count b) (s : ℕ) (p : s < sheets_of b) where
  pub blocks_few : first_block b s + blocks_of b s ≤ 33
  unfolding blocks_needed
  blocks_few = omega (arith, first_block_later b s (sheets_of b) p, (right_length b h).2)

  pub blocks_there : RightHead b → SheetThere b s
  unfolding blocks_needed
  blocks_there r = record { head = head_there b h; entry = omega (arith, sheets_most b r); blocks = omega (arith, first_block_later b s (sheets_of b) p, (right_length b h).0) }

-- ---- the first fault
-- byte i of block q of sheet s is the first that is wrong
pub record FirstAt (b : List ℕ) (s q i : ℕ) : Type 0 where
  pub sheet : s < sheets_of b
  pub block : q < blocks_of b s
  pub byte : i < 508
  pub wrong : wrong_byte b s q i ≡ true
  pub sheets_before : NoneIn (wrong_sheet b) 0 s
  pub blocks_before : NoneIn (wrong_block b s) 0 q
  pub bytes_before : NoneIn (wrong_byte b s q) 0 i

-- there is such a byte, and it is the first fault
pub record Faulty (b : List ℕ) : Type 0 where
  pub sheet : ℕ
  pub block : ℕ
  pub byte : ℕ
  pub first : FirstAt b sheet block byte
  pub same : first_fault b ≡ fault_at b sheet block byte

module _ (b : List ℕ) where
  -- the first wrong block has it
  pub fault_found : (s q : ℕ) → s < sheets_of b → NoneIn (wrong_sheet b) 0 s → FirstIn (wrong_block b s) 0 (blocks_of b s) q → q < blocks_of b s
      → first_fault b ≡ fault_in_block b s q
  unfolding first_fault fault_in_sheet wrong_sheet
  fault_found s q p h f l = rw (sheet, lt-ltb s (sheets_of b) p, first_in_lowest f)
    where
      wrong : wrong_sheet b s ≡ true
      wrong = any_below_i (blocks_of b s) (wrong_block b s) q l (f.passes l)

      sheet : lowest (sheets_of b) (wrong_sheet b) ≡ s
      sheet = first_in_lowest (first_in_found (omega arith) p h wrong)

  -- there is none
  pub fault_none : NoneIn (wrong_sheet b) 0 (sheets_of b) → first_fault b ≡ clean
  unfolding first_fault
  fault_none h = rw (none_lowest h, le-ltb (sheets_of b) (sheets_of b) (le_refl _))

  -- one of the two
  pub fault_or_none : NoneIn (wrong_sheet b) 0 (sheets_of b) ⊎ Faulty b
  unfolding wrong_sheet wrong_block fault_in_block
  fault_or_none = go (below (lowest (sheets_of b) (wrong_sheet b)) (sheets_of b))
    where
      go : (lowest (sheets_of b) (wrong_sheet b) < sheets_of b) ⊎ (sheets_of b ≤ lowest (sheets_of b) (wrong_sheet b))
          → NoneIn (wrong_sheet b) 0 (sheets_of b) ⊎ Faulty b
      go (inl l) =
          let s = lowest (sheets_of b) (wrong_sheet b) in
          let q = lowest (blocks_of b s) (wrong_block b s) in
          let i = lowest 508 (wrong_byte b s q) in
          let f = lowest_first_in {f = wrong_sheet b} (sheets_of b) in
          let g = lowest_first_in {f = wrong_block b s} (blocks_of b s) in
          let h = lowest_first_in {f = wrong_byte b s q} 508 in
          let x = any_below_e (blocks_of b s) (wrong_block b s) (f.passes l) in
          let m : q < blocks_of b s = omega (arith, first_in_most x.0 g (omega arith) x.2, x.1) in
          let y = any_below_e 508 (wrong_byte b s q) (g.passes m) in
          let n : i < 508 = omega (arith, first_in_most y.0 h (omega arith) y.2, y.1) in
          inr (record {
            sheet = s;
            block = q;
            byte = i;
            first = record {
              sheet = l;
              block = m;
              byte = n;
              wrong = h.passes n;
              sheets_before = f.none;
              blocks_before = g.none;
              bytes_before = h.none;
            };
            same = fault_found s q l f.none g m;
          })
      go (inr l) = inl (first_in_none (lowest_first_in (sheets_of b)) l)

  -- how many faults that is
  abbrev faults : RowFault → ℕ
  faults clean = 0
  faults (fault offset kind) = 1

  -- no fault, so no wrong sheet
  pub clean_none : first_fault b ≡ clean → NoneIn (wrong_sheet b) 0 (sheets_of b)
  unfolding fault_at
  clean_none e = go fault_or_none
    where
      go : NoneIn (wrong_sheet b) 0 (sheets_of b) ⊎ Faulty b → NoneIn (wrong_sheet b) 0 (sheets_of b)
      go (inl h) = h
      go (inr x) = absurd (omega (arith, ap faults (sym e ∙ x.same)))
