use Rattle.model.proofs.Masks.{bit_below, bit_pow, bit_pow_only}
use Rattle.cover.proofs.Covers.{all_allowed, not_allowed, tried_all, tried_turn}
use Rattle.cover.proofs.test.allows_all.Goals as goal

pub allows_with-requires : goal.allows_with-requires
allows_with-requires c = bit_below 32 _ _ (c.fits-x 2) (c.loop-c.invariant.part.at _ c.in-Some.ensures.steps.cleared.here)

pub returns-then-not-allows_with : goal.returns-then-not-allows_with
returns-then-not-allows_with c = let r = c.allows_with.ensures.no c.if-not-allows_with.true in
    let q = c.loop-c.invariant.part.at _ c.in-Some.ensures.steps.cleared.here in
    not_allowed r.0 r.1 r.2 r.3 r.4 (rw (bit_pow_only _ r.2 r.5) q) r.6

pub loop-c-preserved : goal.loop-c-preserved
loop-c-preserved c = tried_turn c.loop-c.invariant c.in-Some.ensures.steps.cleared (λ e q a r. c.allows_with.ensures.yes c.if-not-allows_with.false a e _ r q (bit_pow _))

pub returns : goal.returns
returns c = all_allowed (tried_all c.in-None.ensures.steps.0 c.loop-c.invariant)
