use mathlib.Core.Path.{◌≡◌, refl}
use native.Mathlib.Omega.{arith}
use borrow.Author.Rules.{rules}
use Rattle.heads.specs.Heads.{sheets_of}
use Rattle.engine.proofs.Openings.{rows_more, rows_none}
use Rattle.engine.proofs.Worklists.{rows_few, sheets_counted}
use Rattle.engine.proofs.state.full_rows.Goals as goal

pub loop-s-init : goal.loop-s-init
loop-s-init c =
    let n = sheets_counted c.args.sheets.now.laid.accepted c.head-head.ensures c.sheets-s-end.ensures.0 in
    (rows_none _ refl refl, n.0, n.1)

pub fill_words-requires : goal.fill_words-requires
fill_words-requires c =
    let few = rows_few _ c.args.sheets.now.laid.accepted c.loop-s.s (omega arith) in
    (omega arith, omega (arith, rw c.head-head.ensures at c.rows-rows.ensures.0, few))

pub overflow_cast-nonzero : goal.overflow_cast-nonzero
overflow_cast-nonzero c =
    let few = rows_few _ c.args.sheets.now.laid.accepted c.loop-s.s (omega arith) in
    omega (arith, rw c.head-head.ensures at c.rows-rows.ensures.0, few)

pub loop-s-preserved : goal.loop-s-preserved
loop-s-preserved c =
    let i = c.loop-s.invariant in
    (rows_more i.0 (omega arith) (rw c.head-head.ensures at c.rows-rows.ensures.0) c.fill_words.ensures (omega arith), i.1, i.2)

pub returns : goal.returns
returns c =
    let end : c.loop-s.s ≡ sheets_of c.args.sheets.now.book.now = omega arith in (
      rw end at c.loop-s.invariant.0,
      record { size = c.from_fn.ensures.items.long; own = λ i l. let own = c.from_fn.ensures.items.at i 0 l in search (rules, own) },
    )
