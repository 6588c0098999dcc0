use Rattle.cells.proofs.Walks.{shifted_one}
use Rattle.cells.proofs.bits.only.Goals as goal

pub returns : goal.returns
returns c = shifted_one 32 c.args.v c.requires
