use Rattle.looks.specs.Strikes.{StruckTo}
use Rattle.looks.proofs.strike.strike_to.Given as goal

abbrev pub invariant-loop-j : goal.invariant-loop-j
invariant-loop-j l = StruckTo l.sheet.book.now l.sheet.number l.j l.y l.initial.dom l.dom l.lost
