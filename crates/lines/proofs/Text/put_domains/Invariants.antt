use Rattle.std.proofs.Common.{◌*◌}
use Rattle.lines.specs.Texts.{domain_fields}
use Rattle.lines.specs.Written.{Written}
use Rattle.lines.proofs.Text.put_domains.Given as goal

abbrev pub invariant-loop-c : goal.invariant-loop-c
invariant-loop-c l = Written (11 * l.c) l.initial.self l.self (domain_fields l.answer l.c)
