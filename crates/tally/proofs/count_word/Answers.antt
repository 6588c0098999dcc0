use native.Mathlib.Omega.{arith}
use Rattle.cells.proofs.Stretches.{far_stretch, part_readable, past_part}
use Rattle.tally.proofs.Tallies.{counted_join, counted_most}
use Rattle.tally.proofs.count_word.Goals as goal

pub count_set-requires-2 : goal.count_set-requires-2
count_set-requires-2 g c = let p = c.at_word-p.ensures in
    let r = part_readable (past_part c.past_rows.ensures) c.requires.1 in
    (far_stretch p.2 (omega (arith, c.past_rows.type_inv)) (rw (p.0, p.1) r), rw (p.0, p.1) r, counted_most c.requires.3 c.count_set.ensures, c.requires.4, c.requires.5)

pub returns : goal.returns
returns g c = let p = c.at_word-p.ensures in
    counted_join c.first_rows.ensures c.past_rows.ensures (rw (p.0, p.1) at c.count_set.ensures) (rw (p.0, p.1) at c.count_set-2.ensures)
