use Rattle.shown.proofs.Shows.{opens_with}
use Rattle.shown.proofs.show_opening.Goals as goal

pub returns : goal.returns
returns c = opens_with _ c.summarise-told.ensures c.show.ensures
