use Rattle.std.proofs.Common.{rules}
use Rattle.lines.specs.Texts.{answer_head}
use Rattle.lines.proofs.Written.{written_as, written_field, written_then}
use Rattle.lines.proofs.Texts.{decimal_number}
use Rattle.lines.proofs.Text.put_head.Goals as goal

pub returns : goal.returns
unfolding answer_head
returns c = written_then
    (written_then
    (written_then
    (written_then
    (written_then (written_as (decimal_number c.args.i c.ranges.i.fits) c.put_number.ensures) (written_field _ (search rules) c.put_field.ensures))
    (written_field _ (search rules) c.put_field-2.ensures))
    (written_field _ (search rules) c.put_field-3.ensures))
    (written_field _ (search rules) c.put_field-4.ensures))
    (written_field _ (search rules) c.put_field-5.ensures)
