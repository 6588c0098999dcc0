use Rattle.cells.proofs.Stretches.{near_part, part_stretch}
use Rattle.cells.proofs.Walks.{kept_part}
use Rattle.cells.proofs.walk.kept_near.Goals as goal

pub returns-then-many : goal.returns-then-many
returns-then-many c = kept_part (near_part c.requires.2) c.kept_all.ensures

pub kept_set-requires : goal.kept_set-requires
kept_set-requires c = (c.requires.0, part_stretch (near_part c.requires.2) c.requires.1)
