use mathlib.Core.Path.{◌∙◌, sym}
use Rattle.words.proofs.Places.{eight, is_sheet}
use Rattle.cover.proofs.Fewer.{sizes_few}
use Rattle.cover.proofs.Sheets.{few_rows, forbidden_covered, tells_subsumed}
use Rattle.cover.proofs.test.covered.Goals as goal

pub returns-then-forbids : goal.returns-then-forbids
returns-then-forbids c = let p = c.requires in
    forbidden_covered c.args.laid.now.sheet.at (record { columns = c.told-dom; bits = c.fits-dom }) p.0 p.2 (sym c.forbids.ensures ∙ c.if-forbids.true) c.nonzero_words.ensures.0

pub nonzero_words-requires : goal.nonzero_words-requires
nonzero_words-requires c = eight c.args.laid.now.sheet.at

pub too_few-requires : goal.too_few-requires
too_few-requires c = let p = c.requires in
    (is_sheet c.args.laid.now.sheet.at, sizes_few p.1, p.0.sized, p.0.indexed)

pub returns-then-too_few : goal.returns-then-too_few
returns-then-too_few c = let p = c.requires in
    few_rows c.args.laid.now.sheet.at (record { columns = c.told-dom; bits = c.fits-dom }) p.0 p.2 (sym c.forbids.ensures ∙ c.if-forbids.false) p.1 c.args.laid.now.any (sym c.too_few.ensures ∙ c.if-too_few.true)

pub returns : goal.returns
returns c = let p = c.requires in
    tells_subsumed c.args.laid.now.sheet.at (record { columns = c.told-dom; bits = c.fits-dom }) p.0 p.2 (sym c.forbids.ensures ∙ c.if-forbids.false) c.wanted-x.ensures c.all_matched.ensures
