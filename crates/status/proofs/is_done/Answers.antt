use mathlib.Core.Path.{◌∙◌, sym}
use native.Mathlib.Omega.{arith}
use borrow.Author.Tests.{le-leb}
use Rattle.status.proofs.Summaries.{few_open, settled_sheet, sheet_words}
use Rattle.status.proofs.is_done.Goals as goal

pub covered-requires : goal.covered-requires
covered-requires c =
    let a = c.args.laid.now.sheet.at in
    (sheet_words a.accepted c.requires.1 a, c.requires.0, settled_sheet a.accepted c.requires.1 a)

pub returns-then-open_places-le1 : goal.returns-then-open_places-le1
returns-then-open_places-le1 c =
    let a = c.args.laid.now.sheet.at in
    le-leb _ 1 c.if-open_places-le1.true ∙ sym (few_open a.accepted c.requires.1 a c.requires.0 (omega (arith, c.open_places.ensures)))
