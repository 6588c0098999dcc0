use mathlib.Core.Path.{ap}
use native.Mathlib.Omega.{arith}
use lib.Bits.{bit_or}
use Rattle.cells.proofs.Halves.{place_in, place_out}
use Rattle.cells.proofs.walk.with_place.Goals as goal

pub returns-then-d-only-eq0 : goal.returns-then-d-only-eq0
returns-then-d-only-eq0 c = rw (place_out c.args.d c.args.v (rw c.only.ensures at c.if-d-only-eq0.true))

pub returns : goal.returns
returns c = rw (place_in c.args.d c.args.v (omega (arith, c.ranges.d)) (rw c.only.ensures at c.if-d-only-eq0.false))
    (ap (bit_or c.args.keep) c.only-2.ensures)
