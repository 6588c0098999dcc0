use native.Mathlib.Omega.{arith}
use Rattle.cells.proofs.Stretches.{far_stretch, part_readable, past_part}
use Rattle.cover.proofs.table.put_word.Goals as goal

pub put_set-requires : goal.put_set-requires
put_set-requires c = let p = c.at_word-p.ensures in
    let r = part_readable (past_part c.past_rows.ensures) c.requires.1 in
    (far_stretch p.2 (omega (arith, c.past_rows.type_inv)) (rw (p.0, p.1) r), rw (p.0, p.1) r)
