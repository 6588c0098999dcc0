use native.Mathlib.Omega.{arith}
use Rattle.words.proofs.Cuts.{word_at}
use Rattle.cover.proofs.Tables.{kept_readable, tabling_all, tabling_more}
use Rattle.cover.proofs.table.put_sheet.Goals as goal

pub kept-word-requires : goal.kept-word-requires
kept-word-requires c = let w = c.word-w.ensures in
    let r = word_at c.args.sheet.now.at c.requires.0 (omega (arith, c.nonzero_words-p-end.ensures.0, c.loop-p-test.true)) w.0 w.2 in
    (w.2, omega arith, rw w.1 r.0, r.1)

pub put_word-requires : goal.put_word-requires
put_word-requires c = let w = c.word-w.ensures in
    let a = c.args.sheet.now.at in
    let r = word_at a c.requires.0 (omega (arith, c.nonzero_words-p-end.ensures.0, c.loop-p-test.true)) w.0 w.2 in
    (w.2, kept_readable a c.requires.0 (rw w.1 r.0) c.kept-word.ensures, r.1)

pub loop-p-preserved : goal.loop-p-preserved
loop-p-preserved c = let w = c.word-w.ensures in
    tabling_more c.args.sheet.now.at c.requires.0 (omega (arith, c.nonzero_words-p-end.ensures.0, c.loop-p-test.true)) w.0 c.loop-p.invariant
    (rw (c.only-d.ensures, w.1) at c.kept-word.ensures) c.put_word.ensures

pub returns : goal.returns
returns c = tabling_all c.args.sheet.now.at c.requires.0 (omega (arith, c.nonzero_words-p-end.ensures.0, c.loop-p-test.false)) c.loop-p.invariant
