use Rattle.std.proofs.Common.{◌*◌}
use Rattle.lines.specs.Texts.{answer_lines}
use Rattle.lines.specs.Written.{Written}
use Rattle.lines.proofs.Text.put_lines.Given as goal

abbrev pub invariant-loop-i : goal.invariant-loop-i
invariant-loop-i l = Written (217 * l.i) l.initial.self l.self (answer_lines l.columns l.answers l.i)
