use native.Mathlib.Nat.{le_refl}
use native.Mathlib.Omega.{arith}
use lib.ListN.{get_or}
use Rattle.tally.proofs.Tallies.{places_fit}
use Rattle.words.proofs.Indexes.{rows_most}
use Rattle.words.proofs.Places.{eight, width_most}
use Rattle.looks.proofs.Counts.{none_above, unfilled_counted, unfilled_few, unfilled_supported}
use Rattle.looks.proofs.count.unforbidden.Goals as goal

pub returns-then-fewer : goal.returns-then-fewer
returns-then-fewer c = let a = c.args.sheet.now.at in
    let h = c.requires.0 in
    unfilled_supported a c.requires.1 (width_most a).1 h
    (unfilled_few h.sized (record { size = c.told-x; fits = c.fits-x }) c.choices_of-others.ensures (rw c.nonzero_words-n.ensures.0 (rows_most h.sized c.args.sheet.now.number (get_or c.args.rows.now.nonzero c.args.sheet.now.number 0))) (c.fewer.ensures c.if-fewer.true))

pub set_rows-all-requires : goal.set_rows-all-requires
set_rows-all-requires c = (eight c.args.sheet.now.at, c.requires.0.indexed, omega (arith, c.nonzero_words-n.ensures.0))

pub returns-then-fewer-2 : goal.returns-then-fewer-2
returns-then-fewer-2 c = let a = c.args.sheet.now.at in
    let h = c.requires.0 in
    unfilled_supported a c.requires.1 (width_most a).1 h
    (unfilled_few h.sized (record { size = c.told-x; fits = c.fits-x }) c.choices_of-others.ensures (rw (c.set_rows-all.ensures, c.nonzero_words-n.ensures.0) (le_refl _)) (c.fewer-2.ensures c.if-fewer-2.true))

pub places_left-requires : goal.places_left-requires
places_left-requires c = none_above c.requires.0.sized c.count_sheet-counts.ensures c.set_rows-all.ensures

pub returns : goal.returns
returns c = let a = c.args.sheet.now.at in
    let h = c.requires.0 in
    unfilled_supported a c.requires.1 ((places_fit _).1 (width_most a).1) h
    (unfilled_counted h.sized (record { size = c.told-x; fits = c.fits-x }) _ (rw c.nonzero_words-n.ensures.0 at c.count_sheet-counts.ensures) c.choices_of-others.ensures c.places_left.ensures)
