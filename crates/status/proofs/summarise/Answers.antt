use mathlib.Core.Path.{refl}
use Rattle.status.proofs.Summaries.{failed_summary, is_open, open_summary}
use Rattle.status.proofs.summarise.Goals as goal

pub returns-then-state-eq0 : goal.returns-then-state-eq0
returns-then-state-eq0 c = λ L h. failed_summary c.args.sheets.now.laid.accepted h c.if-state-eq0.true _ refl refl

pub done_sheets-requires : goal.done_sheets-requires
done_sheets-requires c = (c.count_values-sizes.ensures, is_open c.args.sheets.now.laid.accepted c.requires.is c.if-state-eq0.false)

pub returns : goal.returns
returns c = λ L h.
    open_summary c.args.sheets.now.laid.accepted h c.if-state-eq0.false c.count_values-sizes.ensures _ c.open_status.ensures c.done_sheets.ensures
