use Rattle.std.proofs.Common.{arith, rules}
use Rattle.lines.specs.Texts.{refused_line}
use Rattle.lines.proofs.Written.{written_field, written_most, written_then}
use Rattle.lines.proofs.Text.put_refused.Goals as goal

pub returns : goal.returns
unfolding refused_line
returns c = written_most
    (written_then
    (written_then (written_then c.put.ensures (written_field _ (search rules) c.put_field.ensures)) (written_field _ (search rules) c.put_field-2.ensures))
    c.put_byte.ensures)
    (omega arith)
