use mathlib.Core.Path.{refl}
use native.Mathlib.Omega.{arith}
use borrow.Author.Rules.{rules}
use Rattle.words.proofs.Cuts.{there_at}
use Rattle.words.proofs.Gathers.{supporting_all, supporting_covered, supporting_more, supporting_start}
use Rattle.words.proofs.gather.gather.Goals as goal

pub loop-p-init : goal.loop-p-init
loop-p-init c = (supporting_start _ _ _ _ refl, search rules)

pub gathered-requires : goal.gathered-requires
gathered-requires c = let t = there_at c.args.sheet.now.at c.requires (omega (arith, c.nonzero_words-p-end.ensures.0)) c.word-w.ensures in (t.few, t.rows, t.near, c.loop-p.invariant.1)

pub returns-then-covered : goal.returns-then-covered
returns-then-covered c = let a = c.args.sheet.now.at in
    let w = c.word-w.ensures in
    supporting_covered a c.requires (supporting_more a c.requires (omega (arith, c.nonzero_words-p-end.ensures.0)) w.0 w.1 c.loop-p.invariant.0 c.gathered.ensures.0) (c.covered.ensures c.if-covered.true)

pub loop-p-preserved : goal.loop-p-preserved
loop-p-preserved c = let w = c.word-w.ensures in
    (supporting_more c.args.sheet.now.at c.requires (omega (arith, c.nonzero_words-p-end.ensures.0)) w.0 w.1 c.loop-p.invariant.0 c.gathered.ensures.0, c.gathered.ensures.1)

pub returns : goal.returns
returns c = supporting_all c.args.sheet.now.at c.requires (omega (arith, c.nonzero_words-p-end.ensures.0)) c.loop-p.invariant.1 c.loop-p.invariant.0
