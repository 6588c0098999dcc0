use mathlib.Core.Path.{◌≡◌}
use Rattle.cover.specs.Covers.{plain_in}
use Rattle.cover.proofs.few.plain_choices.Given as goal

abbrev pub invariant-loop-j : goal.invariant-loop-j
invariant-loop-j l = l.n ≡ plain_in l.book l.s l.shorts l.sizes l.j
