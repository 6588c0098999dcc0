use mathlib.Core.Path.{◌∙◌, ◌≡◌, ap, refl, sym}
use mathlib.Core.List.{List, []}
use Prim.Native.Nat.{◌*◌, ◌+◌, ◌/◌, ◌<◌, ◌≤◌, ℕ}
use lib.ListN.{get_or, length}
use native.Mathlib.Omega.{arith}
use borrow.Author.Rules.{rules}
use Rattle.std.specs.Prelude.{Ok}
use Rattle.model.specs.Orders.{trail_from}
use Rattle.model.specs.Tests.{tab}
use Rattle.sessions.proofs.Lists.{order_chunk}
use Rattle.sessions.specs.Holds.{SomeSession}
use Rattle.sessions.specs.Lists.{order_at}
use Rattle.runs.proofs.Results.{right_list}
use Rattle.runs.proofs.Runs.{Turned, depth_small, fits_accepted, more, opened_long, opened_ran, ran_few, ran_from, ran_room, says_more, turned_accepted, turned_refused}
use Rattle.runs.proofs.run.run_orders.Goals as goal
use Rattle.runs.proofs.run.run_orders.Goals.{In-Ok, Joined-order, in-Ok+in-Back, in-Ok+in-Finish, in-Ok+in-Mark, in-Ok+in-Narrow, in_default}

pub loop-i-init : goal.loop-i-init
unfolding tab trail_from
loop-i-init c =
    let p = c.requires.enough in
    let h = rw c.lay_out-layout.ensures at c.open-session.ensures in
    let w = (rw c.lay_out-layout.ensures at c.show_opening-told.ensures) h.current in (
      opened_ran _ _ _ (omega (arith, p)) h w.1,
      omega (arith, p, opened_long _ c.args.orders.now _ (omega (arith, p)) h w.1),
      w.0,
    )

-- an order's turn: its bytes, and what it made of the session
turned : (c : Joined-order) → Turned c.args.book.now.bytes.now c.loop-i.session (get_or c.as_chunks.result.0.now c.loop-i.i []) c.loop-i.accepted
    c.match-order.order c.match-order.session c.match-order.accepted
turned c =
    let r = c.read-order.ensures.refusal in
    let o = c.read-order.ensures.order in
    elim c.match-order.branch [
      | in-Ok+in-Narrow w ↦
          rw (w.order-is ∙ sym w.in-Ok.is, w.session-is, w.accepted-is)
          (turned_accepted _ _ r o _ (w.in-Ok.is ∙ ap Ok w.in-Narrow.is) (rw c.lay_out-layout.ensures at w.narrow-session.ensures))
      | in-Ok+in-Mark w ↦
          rw (w.order-is ∙ sym w.in-Ok.is, w.session-is, w.accepted-is) (turned_accepted _ _ r o _ (w.in-Ok.is ∙ ap Ok w.in-Mark.is) w.mark-session.ensures)
      | in-Ok+in-Back w ↦
          rw (w.order-is ∙ sym w.in-Ok.is, w.session-is, w.accepted-is) (turned_accepted _ _ r o _ (w.in-Ok.is ∙ ap Ok w.in-Back.is) w.back-session.ensures)
      | in-Ok+in-Finish w ↦
          rw (w.order-is ∙ sym w.in-Ok.is, w.session-is, w.accepted-is) (turned_accepted _ _ r o _ (w.in-Ok.is ∙ ap Ok w.in-Finish.is) refl)
      | in_default w ↦
          rw (w.order-is, w.session-is, w.accepted-is) (turned_refused _ _ r o w.in_default.is)
    ]

-- some trail stands before it
some : (c : In-Ok) → SomeSession c.args.book.now.bytes.now c.loop-i.session
some c = record { trail = _; holds = c.loop-i.invariant.0.holds }

pub narrow-session-requires : goal.narrow-session-requires
narrow-session-requires c =
    let z = some (goal.at.narrow-session-requires c).In-Ok in
    rw c.lay_out-layout.ensures (fits_accepted _ 0 c.read-order.ensures.refusal c.read-order.ensures.order (c.in-Ok.is ∙ ap Ok c.in-Narrow.is) z, z)

pub mark-session-requires : goal.mark-session-requires
mark-session-requires c =
    fits_accepted _ 0 c.read-order.ensures.refusal c.read-order.ensures.order (c.in-Ok.is ∙ ap Ok c.in-Mark.is) (some (goal.at.mark-session-requires c).In-Ok)

pub back-session-requires : goal.back-session-requires
back-session-requires c =
    fits_accepted _ 0 c.read-order.ensures.refusal c.read-order.ensures.order (c.in-Ok.is ∙ ap Ok c.in-Back.is) (some (goal.at.back-session-requires c).In-Ok)

pub overflow_add-accepted : goal.overflow_add-accepted
overflow_add-accepted c =
    let k = ran_few _ _ _ c.loop-i.invariant.0 in
    let l = right_list _ c.requires.list in
    let n = c.as_chunks.ensures.front_len in
    search (rules, k, l, n)

pub show_order-told-requires : goal.show_order-told-requires
show_order-told-requires c =
    let h = (turned (goal.at.show_order-told-requires c).Joined-order).step.holds _ c.loop-i.invariant.0.holds in
    let l = right_list _ c.requires.list in
    let n = c.as_chunks.ensures.front_len in
    let i = c.loop-i-test.true in (
      rw c.lay_out-layout.ensures (record { trail = _; is = h.current }),
      omega (arith, n, l, i),
      omega (arith, n, i, c.loop-i.invariant.1, ran_room _ _ _ c.loop-i.invariant.0 (omega (arith, n, i, c.loop-i.invariant.1))),
      omega (arith, depth_small h),
    )

pub loop-i-preserved : goal.loop-i-preserved
loop-i-preserved c =
    let t = turned (goal.at.loop-i-preserved c).Joined-order in
    let n = c.as_chunks.ensures.front_len in
    let i = c.loop-i-test.true in
    let e : get_or c.as_chunks.result.0.now c.loop-i.i [] ≡ order_at c.args.orders.now c.loop-i.i = order_chunk c.args.orders.now c.loop-i.i [] c.as_chunks.ensures.front (omega (arith, n, i)) in
    let room : 72 * (c.loop-i.i + 1) + 72 ≤ length c.show_opening-told.new.answers = omega (arith, n, i, c.loop-i.invariant.1) in
    let w = rw c.lay_out-layout.ensures at c.show_order-told.ensures in (
      more _ _ _ e room c.loop-i.invariant.0 t c.loop-i.invariant.2 w,
      c.loop-i.invariant.1,
      says_more _ _ _ e room c.loop-i.invariant.0 t c.loop-i.invariant.2 w,
    )

pub returns : goal.returns
returns c =
    let p = c.requires.enough in
    let h = rw c.lay_out-layout.ensures at c.open-session.ensures in
    let w = (rw c.lay_out-layout.ensures at c.show_opening-told.ensures) h.current in
    let e : c.loop-i.i ≡ length c.args.orders.now / 8 = omega (arith, c.loop-i-test.false, c.as_chunks.ensures.front_len) in
    ran_from _ _ _ (omega (arith, p)) h w.1 (rw e at c.loop-i.invariant.0)
