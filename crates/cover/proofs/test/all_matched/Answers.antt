use Rattle.model.proofs.Masks.{bit_below}
use Rattle.cover.proofs.Covers.{each_matched, every_matched, one_missed, tried_all, tried_turn}
use Rattle.cover.proofs.test.all_matched.Goals as goal

pub put_sheet-requires : goal.put_sheet-requires
put_sheet-requires c = (c.requires, bit_below 32 _ _ (c.fits-x 3) (c.loop-v.invariant.part.at _ c.in-Some.ensures.steps.cleared.here))

pub returns-then-not-allows_all : goal.returns-then-not-allows_all
returns-then-not-allows_all c =
    one_missed c.args.sheet.now.at c.requires c.in-Some.v c.put_sheet.ensures (record { size = c.told-x; fits = c.fits-x }) c.allows_all.ensures c.if-not-allows_all.true
    (c.loop-v.invariant.part.at _ c.in-Some.ensures.steps.cleared.here)

pub loop-v-preserved : goal.loop-v-preserved
loop-v-preserved c = tried_turn c.loop-v.invariant c.in-Some.ensures.steps.cleared
    (each_matched c.args.sheet.now.at c.requires c.in-Some.v c.put_sheet.ensures (record { size = c.told-x; fits = c.fits-x }) c.allows_all.ensures c.if-not-allows_all.false)

pub returns : goal.returns
returns c = every_matched (tried_all c.in-None.ensures.steps.0 c.loop-v.invariant)
