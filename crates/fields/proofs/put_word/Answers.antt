use Rattle.std.proofs.Common.{refl, ◌∙◌}
use Rattle.fields.proofs.Bytes.{over_same, part_over}
use Rattle.fields.proofs.put_word.Goals as goal

pub returns : goal.returns
returns c = part_over _ _ _ _ c.copy_from_slice.ensures.len ∙ over_same _ refl (c.copy_from_slice.ensures.after ∙ c.to_le_bytes.ensures)
