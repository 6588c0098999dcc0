use mathlib.Core.Path.{◌≡◌}
use Rattle.model.specs.Answers.{domain_bytes}
use Rattle.fields.specs.Bytes.{over}
use Rattle.answers.proofs.put_domains.Given as goal

abbrev pub invariant-loop-c : goal.invariant-loop-c
invariant-loop-c l = l.out ≡ over l.initial.out 8 (domain_bytes l.shown l.c)
