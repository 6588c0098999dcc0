use mathlib.Core.Path.{◌∙◌, ◌≡◌, refl, sym}
use native.Mathlib.Omega.{arith}
use Rattle.cells.proofs.Walks.{shifted_one}
use Rattle.heads.specs.Heads.{sheets_of}
use Rattle.engine.proofs.Worklists.{sheets_counted}
use Rattle.status.specs.Status.{done_sheets}
use Rattle.status.proofs.Counts.{mask_less, mask_more, mask_none}
use Rattle.status.proofs.done_sheets.Goals as goal
use Rattle.status.proofs.done_sheets.Goals.{then-is_done, else-is_done}

pub loop-s-init : goal.loop-s-init
unfolding done_sheets
loop-s-init c =
    let n = sheets_counted c.args.sheets.now.laid.accepted c.head.ensures c.sheets-s-end.ensures.0 in
    (sym (mask_none _), n.0, n.1)

pub loop-s-preserved : goal.loop-s-preserved
unfolding done_sheets
loop-s-preserved c =
    let l = c.loop-s in
    let i = l.invariant in
    let e = rw (c.sheet.ensures.0, c.sheet.ensures.1) at c.is_done.ensures in (
      elim c.if-is_done.branch [
        | then-is_done w ↦ w.done-is ∙ mask_more l.s _ i.0 (shifted_one 8 l.s (omega arith) ∙ sym (rw (sym e ∙ w.if-is_done.true) refl))
        | else-is_done w ↦ w.done-is ∙ mask_less l.s _ i.0 (sym e ∙ w.if-is_done.false)
      ],
      i.1,
      i.2,
    )

pub returns : goal.returns
returns c =
    let end : c.loop-s.s ≡ sheets_of c.args.sheets.now.book.now = omega arith in rw end at c.loop-s.invariant.0
