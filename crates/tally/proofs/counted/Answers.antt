use native.Mathlib.Omega.{arith}
use Rattle.tally.proofs.Tallies.{all_places, counted_width, few_places}
use Rattle.tally.proofs.counted.Goals as goal

pub returns-in-0-to-2 : goal.returns-in-0-to-2
returns-in-0-to-2 c = counted_width (few_places c.args.k (omega (arith, c.in-0-to-2))) c.count_word-in-0-to-2.ensures

pub returns-in_default : goal.returns-in_default
returns-in_default c = counted_width (all_places c.args.k (omega (arith, c.in_default))) c.count_word-in_default.ensures
