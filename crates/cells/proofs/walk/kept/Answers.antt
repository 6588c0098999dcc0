use Rattle.cells.proofs.Walks.{kept_with}
use Rattle.cells.proofs.walk.kept.Goals as goal

pub returns : goal.returns
returns c = let p = c.requires in kept_with p.2 p.1 c.with_any.ensures c.kept_by.ensures
