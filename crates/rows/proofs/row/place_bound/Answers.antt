use Rattle.std.proofs.Common.{◌<◌, refl, arith, lt-ltb}
use Rattle.heads.specs.Heads.{width_of}
use Rattle.rows.specs.Bounds.{place_bound}
use Rattle.heads.proofs.Heads.{column_inside, values_range}
use Rattle.rows.proofs.row.place_bound.Goals as goal

pub returns-then-j-width : goal.returns-then-j-width
unfolding place_bound
returns-then-j-width c = let b = c.args.h.now.bytes.now in
    let p : c.args.j < width_of b c.args.s = omega arith in
    let v = values_range b c.requires.0 _ (column_inside b c.requires.0 c.args.s c.requires.1 _ p) in
    rw (lt-ltb _ _ p, c.column.ensures.0) (refl, v.0, omega (arith, v.1))
