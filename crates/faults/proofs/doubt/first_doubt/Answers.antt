use Rattle.std.proofs.Common.{◌<◌, arith, le_refl, sym}
use Rattle.model.proofs.Firsts.{none_any, none_empty, none_more}
use Rattle.heads.specs.Heads.{sheets_of}
use Rattle.rows.specs.Rows.{wrong_sheet}
use Rattle.rows.proofs.Rows.{blocks_there, first_block_more, first_block_zero}
use Rattle.faults.proofs.doubt.first_doubt.Goals as goal

pub loop-s-init : goal.loop-s-init
loop-s-init c = (sym (first_block_zero _), rw c.head-head.ensures at c.sheets-s-end.ensures.0, none_empty (le_refl _))

pub invariant_of-sheet : goal.invariant_of-sheet
invariant_of-sheet c =
    let whole = c.args.book.now in
    let p : c.loop-s.s < sheets_of whole.bytes.now = omega (arith, c.loop-s.invariant.1) in
    record { there = blocks_there _ whole.length whole.blocks _ p whole.right; starts = c.loop-s.invariant.0 }

pub loop-s-preserved : goal.loop-s-preserved
unfolding wrong_sheet
loop-s-preserved c = (
  rw (c.loop-s.invariant.0, rw c.head-head.ensures at c.blocks_of-start.ensures.0) (sym (first_block_more _ c.loop-s.s)),
  c.loop-s.invariant.1,
  none_more c.loop-s.invariant.2 (none_any (c.in_doubt.ensures.none c.if-in_doubt.false)),
)
