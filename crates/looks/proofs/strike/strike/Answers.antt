use Rattle.looks.proofs.Strikes.{struck_all_places}
use Rattle.looks.proofs.strike.strike.Goals as goal

pub returns : goal.returns
returns c = struck_all_places c.args.laid.now.sheet.at (record { columns = c.told-dom; bits = c.fits-dom }) c.wanted-x.ensures c.requires.1 c.supported-y.ensures c.strike_to.ensures
