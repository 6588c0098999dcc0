use mathlib.Core.Path.{◌≡◌}
use Prim.Native.Nat.{◌+◌, ◌-◌}
use native.Mathlib.Omega.{arith}
use Rattle.words.proofs.Cuts.{cutting_end, cutting_more, cutting_start, cutting_words}
use Rattle.words.proofs.Places.{eight}
use Rattle.words.proofs.cut.cut.Goals as goal

pub nonzero_words-p-requires : goal.nonzero_words-p-requires
nonzero_words-p-requires g c = eight c.args.sheet.now.at

pub loop-p-init : goal.loop-p-init
loop-p-init g c = (λ test k. cutting_start test c.requires.0 c.nonzero_words-p.ensures.0, c.requires.0)

pub cut_word-any-requires : goal.cut_word-any-requires
cut_word-any-requires g c = let h = c.loop-p.invariant.0 c.requires.2.0 c.requires.2.1 in
    (c.loop-p.invariant.1, omega (arith, h.limit), c.requires.1)

pub loop-p-preserved : goal.loop-p-preserved
loop-p-preserved g c = let e : c.loop-p.p ≡ c.loop-p.p - 1 + 1 = omega (arith, c.loop-p-test.true) in
    let i = rw e at c.loop-p.invariant.0 in
    let d = c.requires.2 in
    let w = c.cut_word-any.ensures in
    (λ test k. cutting_more (i test k) (w.0 test k) w.1, cutting_words (cutting_more (i d.0 d.1) (w.0 d.0 d.1) w.1) c.requires.0)

pub returns : goal.returns
returns g c = let e : c.loop-p.p ≡ 0 = omega (arith, c.loop-p-test.false) in
    let d = c.requires.2 in
    (λ test k. cutting_end (rw e at (c.loop-p.invariant.0 test k)), (c.loop-p.invariant.0 d.0 d.1).same)
