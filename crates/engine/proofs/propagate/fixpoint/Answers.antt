use mathlib.Core.Path.{refl}
use native.Mathlib.Omega.{arith}
use Rattle.model.specs.Masks.{Cleared}
use Rattle.model.proofs.Masks.{cleared_at}
use Rattle.engine.proofs.Propagation.{going_done, going_failed, going_less, going_on, going_start}
use Rattle.engine.proofs.propagate.fixpoint.Goals as goal

pub loop-left-init : goal.loop-left-init
loop-left-init c = going_start _ c.args.layout.now.all.accepted c.requires

pub returns-in_default : goal.returns-in_default
returns-in_default c =
    let r = rw (c.sheet-laid.ensures.0, c.sheet-laid.ensures.1) at c.in_default.ensures in
    let lay = c.args.layout.now.all in
    going_failed _ lay.accepted lay c.loop-left.invariant c.first_waiting-s.ensures.2 r refl

pub loop-left-smaller : goal.loop-left-smaller
loop-left-smaller c =
    let r = rw (c.sheet-laid.ensures.0, c.sheet-laid.ensures.1) at c.in-Ok.ensures in
    let cleared : Cleared c.loop-left.left c.others.result c.first_waiting-s.result = cleared_at c.first_waiting-s.ensures.0 c.others.ensures.0 in
    let lay = c.args.layout.now.all in
    going_less _ lay.accepted lay c.loop-left.invariant c.first_waiting-s.ensures.2 r cleared refl
    (omega (arith, c.others.ensures.1, c.loop-left.invariant.small)) c.wake-left.ensures c.others.ensures.1

pub loop-left-preserved : goal.loop-left-preserved
loop-left-preserved c =
    let r = rw (c.sheet-laid.ensures.0, c.sheet-laid.ensures.1) at c.in-Ok.ensures in
    let cleared : Cleared c.loop-left.left c.others.result c.first_waiting-s.result = cleared_at c.first_waiting-s.ensures.0 c.others.ensures.0 in
    let lay = c.args.layout.now.all in
    going_on _ lay.accepted lay c.loop-left.invariant c.first_waiting-s.ensures.2 r cleared refl
    (omega (arith, c.others.ensures.1, c.loop-left.invariant.small)) c.wake-left.ensures

pub returns : goal.returns
returns c = going_done _ c.args.layout.now.all.accepted c.args.layout.now.all c.loop-left.invariant c.loop-left-test.false
