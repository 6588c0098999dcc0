use Rattle.cells.proofs.Walks.{kept_any}
use Rattle.cells.proofs.walk.kept_any.Goals as goal

pub returns : goal.returns
returns c = let p = c.requires in kept_any p.2 p.1 c.kept_by.ensures
