-- Each goal of `narrowed`, by its name, but for those that a search finds. `c` is what is known at that place in the code: `c.args` the arguments, `c.requires` what the
-- function requires, then each call and test before it. offset_bounds-self-c and bounds-self-c: `self.dom[c]` lies in its array. propagate-requires: what
-- propagation starts from (`narrow_ready`). returns-then-left-self, returns-then-left-eq0, returns: the three ways out.
use Prim.Native.Nat.{◌<◌}
use native.Mathlib.Omega.{arith}
use Rattle.model.proofs.Tests.{positive}
use Rattle.engine.proofs.States.{narrow_ready, state_emptied, state_propagated, state_same}
use Rattle.engine.proofs.Worklists.{sixteen_columns}
use Rattle.engine.proofs.state.State.narrowed.Goals as goal

pub offset_bounds-self-c : goal.offset_bounds-self-c
offset_bounds-self-c c = let l : c.args.c < 16 = sixteen_columns _ c.args.layout.now.all.accepted _ c.requires.0 in omega arith

pub bounds-self-c : goal.bounds-self-c
bounds-self-c c = sixteen_columns _ c.args.layout.now.all.accepted _ c.requires.0

pub offset_bounds-self-c-2 : goal.offset_bounds-self-c-2
offset_bounds-self-c-2 c = let l : c.args.c < 16 = sixteen_columns _ c.args.layout.now.all.accepted _ c.requires.0 in omega arith

pub bounds-self-c-2 : goal.bounds-self-c-2
bounds-self-c-2 c = sixteen_columns _ c.args.layout.now.all.accepted _ c.requires.0

pub returns-then-left-self : goal.returns-then-left-self
returns-then-left-self c = state_same _ c.args.layout.now.all.accepted _ _ c.requires.0 _ c.if-left-self.true

pub returns-then-left-eq0 : goal.returns-then-left-eq0
returns-then-left-eq0 c =
    state_emptied _ c.args.layout.now.all.accepted _ _ c.requires.0 _ _ c.empty.ensures c.if-left-eq0.true

pub propagate-requires : goal.propagate-requires
propagate-requires c =
    let lay = c.args.layout.now.all in
    let is = c.requires.1.is in
    narrow_ready _ lay.accepted c.requires.1.trail is.holds is.store is.sized _ _ c.requires.0 c.if-left-eq0.false lay c.waiting_for.ensures

pub returns : goal.returns
returns c = state_propagated _ c.args.layout.now.all.accepted _ _ c.requires.0 _ _ c.propagate.ensures
