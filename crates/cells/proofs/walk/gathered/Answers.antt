use native.Mathlib.Omega.{arith}
use borrow.Author.Rules.{rules}
use Rattle.cells.proofs.Collects.{of_join}
use Rattle.cells.proofs.Stretches.{far_stretch, first_near, near_part, near_stretch, part_readable, part_stretch, past_part, rows_split}
use Rattle.cells.proofs.walk.gathered.Goals as goal

pub at_word-p-requires : goal.at_word-p-requires
at_word-p-requires c = let z = c.requires.2 in (c.requires.0, search (rules, z))

pub gathered_near-requires : goal.gathered_near-requires
gathered_near-requires c = let p = c.at_word-p.ensures in
    (part_stretch (near_part (first_near c.first_rows.ensures)) (near_stretch p.2 (rw p.1 c.requires.0) (rw (p.0, p.1) c.requires.2)), c.requires.3)

pub gathered_set-requires : goal.gathered_set-requires
gathered_set-requires c = let p = c.at_word-p.ensures in
    (far_stretch p.2 (omega (arith, c.past_rows.type_inv)) (rw (p.0, p.1) (part_readable (past_part c.past_rows.ensures) c.requires.1)), c.gathered_near.ensures.1)

pub returns : goal.returns
returns c = let p = c.at_word-p.ensures in
    (of_join _ (rows_split c.first_rows.ensures c.past_rows.ensures).at (rw (p.0, p.1) at c.gathered_near.ensures.0) (rw (p.0, p.1) at c.gathered_set.ensures.0), c.gathered_set.ensures.1)
