use native.Mathlib.Omega.{arith}
use borrow.Author.Rules.{rules}
use Rattle.cells.proofs.Stretches.{far_stretch, first_near, near_stretch, part_readable, past_part, rows_split}
use Rattle.cells.proofs.Walks.{kept_join}
use Rattle.cells.proofs.walk.kept_by.Goals as goal

pub at_word-p-requires : goal.at_word-p-requires
at_word-p-requires c = let z = c.requires.3 in (c.requires.0, search (rules, z))

pub kept_set-far-requires : goal.kept_set-far-requires
kept_set-far-requires c = let p = c.at_word-p.ensures in
    (c.requires.1, far_stretch p.2 (omega (arith, c.past_rows.type_inv)) (rw (p.0, p.1) (part_readable (past_part c.past_rows.ensures) c.requires.2)))

pub kept_near-requires : goal.kept_near-requires
kept_near-requires c = let p = c.at_word-p.ensures in
    (c.requires.1, near_stretch p.2 (rw p.1 c.requires.0) (rw (p.0, p.1) c.requires.3), first_near c.first_rows.ensures)

pub returns : goal.returns
returns c = let p = c.at_word-p.ensures in
    kept_join (rows_split c.first_rows.ensures c.past_rows.ensures) (rw (p.0, p.1) at c.kept_near.ensures) (rw (p.0, p.1) at c.kept_set-far.ensures)
