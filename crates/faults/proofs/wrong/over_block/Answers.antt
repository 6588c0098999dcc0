use Rattle.rows.proofs.Bounds.{row_of_block}
use Rattle.faults.proofs.wrong.over_block.Goals as goal

pub used_rows-requires : goal.used_rows-requires
used_rows-requires c = row_of_block _ _ _ _ c.rows.ensures c.requires
