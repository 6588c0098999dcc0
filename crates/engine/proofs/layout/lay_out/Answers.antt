use mathlib.Core.Path.{refl}
use native.Mathlib.Omega.{arith}
use Rattle.rows.proofs.Rows.{first_block_more, first_block_zero}
use Rattle.engine.proofs.Layouts.{laid_end, laid_more, laid_none, laid_sheets}
use Rattle.engine.proofs.Worklists.{rows_end, sheets_counted}
use Rattle.engine.proofs.layout.lay_out.Goals as goal

pub loop-s-init : goal.loop-s-init
loop-s-init c =
    let n = sheets_counted c.args.book.now.accepted c.head-head.ensures c.sheets-s-end.ensures.0 in
    (laid_none _ refl refl refl, omega (arith, first_block_zero c.args.book.now.bytes.now), n.0, n.1)

pub invariant_of-sheet : goal.invariant_of-sheet
invariant_of-sheet c =
    record { at = record { accepted = c.args.book.now.accepted; one = omega arith; begins = c.loop-s.invariant.1 } }

pub overflow_add-begin : goal.overflow_add-begin
overflow_add-begin c =
    omega (arith, rw c.head-head.ensures at c.blocks_of.ensures.0, rows_end _ c.args.book.now.accepted c.loop-s.s (omega arith))

pub loop-s-preserved : goal.loop-s-preserved
loop-s-preserved c =
    let i = c.loop-s.invariant in (
      laid_more i.0 (omega arith) i.1 c.columns_of.ensures c.shorts_of.ensures,
      omega (arith, rw c.head-head.ensures at c.blocks_of.ensures.0, first_block_more c.args.book.now.bytes.now c.loop-s.s),
      i.2,
      i.3,
    )

pub invariant_of-sheets : goal.invariant_of-sheets
invariant_of-sheets c = record { laid = laid_sheets (laid_end c.args.book.now.accepted (omega arith) c.loop-s.invariant.0) }

pub invariant_of-result : goal.invariant_of-result
invariant_of-result c = record { all = laid_end c.args.book.now.accepted (omega arith) c.loop-s.invariant.0 }
