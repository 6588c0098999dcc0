use mathlib.Core.Path.{◌∙◌, ap, sym}
use mathlib.Core.Bool.{not}
use borrow.Author.Tests.{eqb-true, not-false}
use Rattle.model.proofs.Tests.{or_false_l, or_false_r}
use Rattle.words.proofs.Cuts.{only_more}
use Rattle.words.proofs.Places.{eight, width_most}
use Rattle.looks.proofs.Looks.{cut_rows, none_in, revised_carried, revised_failed, revised_none, revised_same, revised_struck, rows_are, rows_known, some_in, some_there, struck_known}
use Rattle.looks.proofs.strike.revise.Goals as goal

pub cut_places-cut-requires : goal.cut_places-cut-requires
cut_places-cut-requires c = (rows_known c.args.laid.now.sheet.at c.requires.0 c.requires.1).words

pub returns-then-not-forbids-cut : goal.returns-then-not-forbids-cut
returns-then-not-forbids-cut c = let p = c.requires in
    let a = c.args.laid.now.sheet.at in
    let e = c.cut_places-cut.ensures.0 in
    let q = c.if-not-forbids-cut.true in
    let f = c.cut_places-cut.ensures.1 (or_false_r c.forbids-forbids.result _ q) in
    revised_same a (sym c.forbids-forbids.ensures ∙ or_false_l _ _ q) (record { columns = c.told-dom; bits = c.fits-dom }) (cut_rows a p.0 p.1 e) e.only p.0 f.0 f.1

pub bounds-rows-sheet : goal.bounds-rows-sheet
bounds-rows-sheet c = eight c.args.laid.now.sheet.at

pub returns-then-not-forbids-rows : goal.returns-then-not-forbids-rows
returns-then-not-forbids-rows c = let p = c.requires in
    let a = c.args.laid.now.sheet.at in
    let e = c.cut_places-cut.ensures.0 in
    let q = c.if-not-forbids-rows.true in
    let none = eqb-true _ _ (not-false _ (or_false_r c.forbids-forbids.result _ q)) in
    revised_none a (sym c.forbids-forbids.ensures ∙ or_false_l _ _ q) (record { columns = c.told-dom; bits = c.fits-dom }) (cut_rows a p.0 p.1 e) e.only none

pub strike-lost-requires : goal.strike-lost-requires
strike-lost-requires c = let p = c.requires in
    let a = c.args.laid.now.sheet.at in
    let h = cut_rows a p.0 p.1 c.cut_places-cut.ensures.0 in
    (h.words, rows_are a h)

pub returns-then-not-forbids : goal.returns-then-not-forbids
returns-then-not-forbids c = let p = c.requires in
    let a = c.args.laid.now.sheet.at in
    let e = c.cut_places-cut.ensures.0 in
    let plain = c.if-not-forbids.true in
    let some = some_there c.forbids-forbids.result plain (ap not c.if-not-forbids-rows.false) in
    revised_carried a (sym c.forbids-forbids.ensures ∙ plain) (record { columns = c.told-dom; bits = c.fits-dom }) (cut_rows a p.0 p.1 e) e.only c.strike-lost.ensures some

pub bounds-dom-column : goal.bounds-dom-column
bounds-dom-column c = c.column.ensures.2 (width_most c.args.laid.now.sheet.at).0

pub returns-then-dom-column-eq0 : goal.returns-then-dom-column-eq0
returns-then-dom-column-eq0 c = let a = c.args.laid.now.sheet.at in
    let e = c.cut_places-cut.ensures.0 in
    revised_failed a (record { columns = c.told-dom; bits = c.fits-dom }) c.strike-lost.ensures e.only e.indexed e.sized (none_in _ c.column.ensures.0 c.if-dom-column-eq0.true)

pub cut_struck-requires : goal.cut_struck-requires
cut_struck-requires c = let p = c.requires in
    let a = c.args.laid.now.sheet.at in
    let h = cut_rows a p.0 p.1 c.cut_places-cut.ensures.0 in
    (sym c.forbids-forbids.ensures ∙ c.if-not-forbids.false, struck_known a (record { columns = c.told-dom; bits = c.fits-dom }) c.strike-lost.ensures h)

pub returns : goal.returns
returns c = let a = c.args.laid.now.sheet.at in
    let w = some_in _ c.column.ensures.0 c.strike-lost.ensures.loses.store c.if-dom-column-eq0.false in
    revised_struck a (record { columns = c.told-dom; bits = c.fits-dom }) c.strike-lost.ensures (only_more c.cut_places-cut.ensures.0.only c.cut_struck.ensures.1) c.cut_struck.ensures.0 w.0 w.1
