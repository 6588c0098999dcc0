-- The verdict of a check, cause by cause. Assumes nothing.
use mathlib.Core.Path.{◌≡◌, ap, ◌∙◌}
use mathlib.Core.Bool.{true, false}
use mathlib.Core.Logic.{◌⊎◌, inl, inr}
use mathlib.Core.List.{List}
use Prim.Native.Nat.{ℕ, ◌*◌, ◌≤◌, ◌<◌}
use native.Mathlib.Omega.{arith}
use lib.Dec.{eqb, ltb}
use borrow.Author.Tests.{eqb-false, eqb-true, lt-ltb, le-ltb, eq-eqb, ne_eqb}
use Rattle.model.specs.Tests.{FirstIn, lowest}
use Rattle.model.proofs.Firsts.{first_in_lowest, lowest_first_in, lowest_none, none_lowest}
use Rattle.model.proofs.Tests.{either}
use Rattle.heads.specs.Blocks.{RightChecks, RightLength, block_count, first_wrong_check, wrong_check, wrong_length}
use Rattle.heads.specs.Heads.{RightHead, columns_of, first_wrong_field, sheets_of, wrong_field}
use Rattle.heads.proofs.Heads.{columns_range, sheets_most}
use Rattle.rows.specs.Rows.{blocks_needed, clean, first_fault}
use Rattle.book.specs.Verdicts.{Accepted, Verdict, accepted, bad_blocks, bad_check, bad_field, bad_length, check_result, number_of, order_verdict, refused, row_verdict, verdict}
use Rattle.rows.proofs.Rows.{blocks_most, right_length}

-- the number is the verdict's
pub numbered : (b : List ℕ) {v : Verdict} → verdict b ≡ v → check_result b ≡ number_of v
unfolding check_result
numbered b e = ap number_of e

module _ (b : List ℕ) where
  pub verdict_length : wrong_length b ≡ true → verdict b ≡ bad_length
  unfolding verdict
  verdict_length e = rw e

  module _ (h1 : RightLength b) where
    pub verdict_check : (n : ℕ) → FirstIn (wrong_check b) 0 (block_count b) n → n < block_count b → verdict b ≡ bad_check n
    unfolding verdict first_wrong_check
    verdict_check n f l = rw (h1, first_in_lowest f, lt-ltb n (block_count b) l)

    module _ (h2 : RightChecks b) where
      checks : ltb (first_wrong_check b) (block_count b) ≡ false
      unfolding first_wrong_check
      checks = let e = none_lowest h2 in le-ltb (lowest (block_count b) (wrong_check b)) (block_count b) (omega arith)

      pub verdict_field : (i : ℕ) → FirstIn (wrong_field b) 0 508 i → i < 508 → verdict b ≡ bad_field i
      unfolding verdict first_wrong_field
      verdict_field i f l = rw (h1, checks, first_in_lowest f, lt-ltb i 508 l)

      module _ (h3 : RightHead b) where
        fields : ltb (first_wrong_field b) 508 ≡ false
        unfolding first_wrong_field
        fields = let e = none_lowest h3 in le-ltb (lowest 508 (wrong_field b)) 508 (omega arith)

        pub verdict_blocks : (blocks_needed b ≡ block_count b → ⊥) → verdict b ≡ bad_blocks (blocks_needed b)
        unfolding verdict
        verdict_blocks h = rw (h1, checks, fields, ne_eqb _ _ h)

        module _ (h4 : blocks_needed b ≡ block_count b) where
          pub verdict_rows : verdict b ≡ row_verdict b (first_fault b)
          unfolding verdict
          verdict_rows = rw (h1, checks, fields, eq-eqb _ _ h4)

          pub verdict_fault : {v : Verdict} → row_verdict b (first_fault b) ≡ v → verdict b ≡ v
          verdict_fault e = verdict_rows ∙ e

          pub verdict_order : first_fault b ≡ clean → {v : Verdict} → order_verdict b ≡ v → verdict b ≡ v
          verdict_order h5 e = verdict_rows ∙ rw h5 e

          pub order_accepted : first_fault b ≡ clean → order_verdict b ≡ accepted (columns_of b) (sheets_of b) → Accepted b
          order_accepted h5 h6 = omega (arith, numbered b (verdict_order h5 h6), (columns_range b h3).1, sheets_most b h3)

-- ---- a number that is none of refusals 1 to 4: all but the rows is right, and it goes by them
module _ (b : List ℕ) (later : (check_result b < 65536) ⊎ (5 * 65536 ≤ check_result b)) where
  not_refused : (n place : ℕ) → 1 ≤ n → n ≤ 4 → place < 65536 → check_result b ≡ refused n place → ⊥
  not_refused n place p q r e = go later
    where
      go : (check_result b < 65536) ⊎ (5 * 65536 ≤ check_result b) → ⊥
      go (inl l) = omega arith
      go (inr l) = omega arith

  pub later_length : RightLength b
  later_length = go (either (wrong_length b))
    where
      go : (wrong_length b ≡ true) ⊎ (wrong_length b ≡ false) → wrong_length b ≡ false
      go (inl e) = absurd (not_refused 1 0 (omega arith) (omega arith) (omega arith) (numbered b (verdict_length b e)))
      go (inr e) = e

  pub later_checks : RightChecks b
  later_checks =
      lowest_none (block_count b)
      (λ l. not_refused 2 _ (omega arith) (omega arith) (omega (arith, (right_length b later_length).2)) (numbered b (verdict_check b later_length _ (lowest_first_in (block_count b)) l)))

  pub later_head : RightHead b
  later_head = lowest_none 508 (λ l. not_refused 3 _ (omega arith) (omega arith) (omega arith) (numbered b (verdict_field b later_length later_checks _ (lowest_first_in 508) l)))

  pub later_blocks : blocks_needed b ≡ block_count b
  later_blocks = go (either (eqb (blocks_needed b) (block_count b)))
    where
      go : (eqb (blocks_needed b) (block_count b) ≡ true) ⊎ (eqb (blocks_needed b) (block_count b) ≡ false) → blocks_needed b ≡ block_count b
      go (inl e) = eqb-true (blocks_needed b) (block_count b) e
      go (inr e) =
          absurd (not_refused 4 _ (omega arith) (omega arith) (omega (arith, blocks_most b later_head)) (numbered b (verdict_blocks b later_length later_checks later_head (eqb-false (blocks_needed b) (block_count b) e))))

  pub later_rows : check_result b ≡ number_of (row_verdict b (first_fault b))
  later_rows = numbered b (verdict_rows b later_length later_checks later_head later_blocks)
