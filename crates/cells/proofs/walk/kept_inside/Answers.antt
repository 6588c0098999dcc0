use Rattle.cells.proofs.Stretches.{far_stretch}
use Rattle.cells.proofs.walk.kept_inside.Goals as goal

pub inside_rows-requires : goal.inside_rows-requires
inside_rows-requires c = let p = c.at_word.ensures in
    far_stretch p.2 c.ranges.word.fits (rw (p.0, p.1) c.requires.1)

pub returns : goal.returns
returns c = let p = c.at_word.ensures in
    rw (p.0, p.1) at c.inside_rows.ensures
