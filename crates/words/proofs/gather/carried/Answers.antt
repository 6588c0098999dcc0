use Rattle.words.proofs.Gathers.{carried_supported, supported_plain}
use Rattle.words.proofs.gather.carried.Goals as goal

pub returns-in-Break : goal.returns-in-Break
returns-in-Break c = carried_supported c.args.laid.now.sheet.at c.requires.1 c.in-Break.ensures

pub returns-in-Continue : goal.returns-in-Continue
returns-in-Continue c = let l = c.args.laid.now in
    carried_supported l.sheet.at c.requires.1 (supported_plain l.sheet.at c.requires.0 c.if-laid-eq0.true l.any c.in-Continue.ensures)

pub returns-in-Continue-2 : goal.returns-in-Continue-2
returns-in-Continue-2 c = carried_supported c.args.laid.now.sheet.at c.requires.1 c.widen_places.ensures
