use mathlib.Core.Path.{◌≡◌}
use Rattle.status.specs.Status.{open_places}
use Rattle.status.proofs.open_places.Given as goal

abbrev pub invariant-loop-j : goal.invariant-loop-j
invariant-loop-j l = l.open ≡ open_places l.sheet.book.now l.sheet.number l.sizes l.j
