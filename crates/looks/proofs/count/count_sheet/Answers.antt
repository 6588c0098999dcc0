use mathlib.Core.Path.{refl}
use Prim.Native.Nat.{◌<◌}
use native.Mathlib.Omega.{arith}
use Rattle.words.proofs.Cuts.{word_at}
use Rattle.looks.proofs.Counts.{counts_more, counts_none, counts_room}
use Rattle.looks.proofs.count.count_sheet.Goals as goal

pub loop-p-init : goal.loop-p-init
loop-p-init c = counts_none _ _ _ _ _ refl

pub counted-requires : goal.counted-requires
counted-requires c =
    let position : c.loop-p.p < 8 = omega (arith, c.requires.0.indexed.few, c.requires.1, c.loop-p-test.true) in
    let e = c.word-w.ensures in
    let r = word_at c.args.sheet.now.at c.requires.0 (omega (arith, c.requires.1, c.loop-p-test.true)) e.0 e.2 in
    (e.2, rw e.1 r.0, r.1, counts_room c.loop-p.invariant position)

pub loop-p-preserved : goal.loop-p-preserved
loop-p-preserved c = let e = c.word-w.ensures in
    counts_more c.args.sheet.now.at.begins e.0 e.1 c.loop-p.invariant c.counted.ensures
