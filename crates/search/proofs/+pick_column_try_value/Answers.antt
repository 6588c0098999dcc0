-- Two functions that call each other, one proof. The values left fall.
use Prim.Native.Nat.{◌<◌}
use Rattle.std.proofs.Common.{◌∙◌, ap, refl, arith}
use Rattle.cells.proofs.Walks.{all_left}
use Rattle.engine.proofs.Worklists.{sixteen_columns}
use Rattle.search.proofs.Searches.{found_assigned, none_reached, picked_found, picked_none, picked_stopped, picked_value, untried_all, untried_less, value_fewer, value_filled, value_found, value_none, value_ready, value_small}
use Rattle.search.proofs.+pick_column_try_value.Goals as goal

-- Where no column is open, the domains are the solution.
-- Else each value of the lowest open one is tried in turn: what is left to try is `Untried`, which a turn makes less.
pub pick_column-returns-in_default : goal.pick_column-returns-in_default
pick_column-returns-in_default t c = found_assigned _ c.args.layout.now.all.accepted c.requires.0 c.in_default.ensures c.requires.1

pub pick_column-loop-v-init : goal.pick_column-loop-v-init
pick_column-loop-v-init t c =
    let o = c.in-Some.ensures in
    rw (all_left _ _ c.into_iter-v-iterator.ensures.into_iter_gives (c.of-v-items.ensures ∙ c.from.ensures))
    (untried_all _ c.args.layout.now.all.accepted c.requires.0 o.1 o.0 _, c.requires.1)

pub pick_column-returns-then-tries-limit : goal.pick_column-returns-then-tries-limit
pick_column-returns-then-tries-limit t c =
    let o = c.in-Some.ensures in
    picked_stopped _ c.args.layout.now.all.accepted c.requires.0 o.1 o.0 c.loop-v.invariant.0 c.in-Some-v.ensures.steps c.if-tries-limit.true

pub pick_column-try_value-requires : goal.pick_column-try_value-requires
pick_column-try_value-requires t c =
    let o = c.in-Some.ensures in
    let u = c.loop-v.invariant in
    let value = picked_value _ c.args.layout.now.all.accepted c.requires.0 o.1 o.0 u.0 c.in-Some-v.ensures.steps in
    (omega arith, (c.requires.0, value, omega (arith, u.1, c.if-tries-limit.false)))

pub pick_column-returns-in_default-try_value : goal.pick_column-returns-in_default-try_value
pick_column-returns-in_default-try_value t c =
    let o = c.in-Some.ensures in
    picked_found _ c.args.layout.now.all.accepted c.requires.0 o.1 o.0 c.loop-v.invariant.0 c.in-Some-v.ensures.steps c.try_value.ensures
    c.in_default-try_value.not-NotFound

pub pick_column-loop-v-preserved : goal.pick_column-loop-v-preserved
pick_column-loop-v-preserved t c =
    let o = c.in-Some.ensures in
    untried_less _ c.args.layout.now.all.accepted c.requires.0 o.1 o.0 c.loop-v.invariant.0 c.in-Some-v.ensures.steps c.in-NotFound.ensures

pub pick_column-returns : goal.pick_column-returns
pick_column-returns t c =
    let o = c.in-Some.ensures in
    let u = c.loop-v.invariant in
    picked_none _ c.args.layout.now.all.accepted c.requires.0 o.1 o.0 u.0 c.in-None.ensures.steps.0 u.1

pub try_value-overflow_cast-column : goal.try_value-overflow_cast-column
try_value-overflow_cast-column t c =
    let l : c.args.c < 16 = sixteen_columns _ c.args.layout.now.all.accepted _ c.requires.1.column in omega arith

pub try_value-overflow_shl-column : goal.try_value-overflow_shl-column
try_value-overflow_shl-column t c =
    let l : c.args.c < 16 = sixteen_columns _ c.args.layout.now.all.accepted _ c.requires.1.column in omega arith

pub try_value-only-requires : goal.try_value-only-requires
try_value-only-requires t c = value_small _ c.args.layout.now.all.accepted c.requires.0 c.requires.1 refl

pub try_value-offset_bounds-next-c : goal.try_value-offset_bounds-next-c
try_value-offset_bounds-next-c t c =
    let l : c.args.c < 16 = sixteen_columns _ c.args.layout.now.all.accepted _ c.requires.1.column in omega arith

pub try_value-bounds-next-c : goal.try_value-bounds-next-c
try_value-bounds-next-c t c = sixteen_columns _ c.args.layout.now.all.accepted _ c.requires.1.column

pub try_value-fixpoint-requires : goal.try_value-fixpoint-requires
try_value-fixpoint-requires t c =
    let lay = c.args.layout.now.all in
    value_ready _ lay.accepted c.requires.0 c.requires.1 c.only.ensures lay c.waiting_for-waiting.ensures

pub try_value-pick_column-requires : goal.try_value-pick_column-requires
try_value-pick_column-requires t c =
    let acc = c.args.layout.now.all.accepted in
    let p = c.requires in
    let m = c.only.ensures in
    let r = c.fixpoint.ensures in
    let k = c.if-fixpoint.true in
    (omega (arith, value_fewer _ acc p.0 p.1 m r k), (value_filled _ acc p.0 p.1 m r k, p.2))

pub try_value-returns-then-fixpoint : goal.try_value-returns-then-fixpoint
try_value-returns-then-fixpoint t c =
    value_found _ c.args.layout.now.all.accepted c.requires.0 c.requires.1 c.only.ensures c.fixpoint.ensures c.if-fixpoint.true c.pick_column.ensures

pub try_value-returns : goal.try_value-returns
try_value-returns t c =
    let e = value_none _ c.args.layout.now.all.accepted c.requires.0 c.requires.1 c.only.ensures c.fixpoint.ensures c.if-fixpoint.false in
    none_reached _ (ap (λ g. g.solution) e) (omega (arith, ap (λ g. g.tries) e)) c.requires.2
