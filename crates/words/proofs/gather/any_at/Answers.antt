use native.Mathlib.Omega.{arith}
use Rattle.words.proofs.Cuts.{there_at}
use Rattle.words.proofs.Gathers.{any_found, any_none, no_any_more, no_any_start}
use Rattle.words.proofs.gather.any_at.Goals as goal

pub loop-p-init : goal.loop-p-init
loop-p-init c = no_any_start _ _ _ _ _

pub kept_any-requires : goal.kept_any-requires
kept_any-requires c = let p = c.requires in
    let t = there_at c.args.sheet.now.at p.1 (omega (arith, c.nonzero_words-p-end.ensures.0)) c.word-w.ensures in
    (t.few, p.0, t.rows, t.near)

pub returns-then-kept_any-ne0 : goal.returns-then-kept_any-ne0
returns-then-kept_any-ne0 c = let w = c.word-w.ensures in
    any_found c.args.sheet.now.at c.requires.1 (omega (arith, c.nonzero_words-p-end.ensures.0)) w.0 w.1 c.kept_any.ensures c.kept_any.type_inv c.if-kept_any-ne0.true

pub loop-p-preserved : goal.loop-p-preserved
loop-p-preserved c = let w = c.word-w.ensures in
    no_any_more c.args.sheet.now.at c.requires.1 (omega (arith, c.nonzero_words-p-end.ensures.0)) w.0 w.1 c.kept_any.ensures c.if-kept_any-ne0.false c.loop-p.invariant

pub returns : goal.returns
returns c = any_none c.args.sheet.now.at c.requires.1 (omega (arith, c.nonzero_words-p-end.ensures.0)) c.loop-p.invariant
