use mathlib.Core.Path.{◌∙◌, ◌≡◌, ap, refl}
use native.Mathlib.Omega.{arith}
use Rattle.heads.specs.Heads.{columns_of}
use Rattle.engine.specs.Openings.{places_below}
use Rattle.engine.proofs.Openings.{domains_more, domains_none}
use Rattle.engine.proofs.Worklists.{columns_counted, values_few}
use Rattle.engine.proofs.state.full_domains.Goals as goal

pub loop-c-init : goal.loop-c-init
loop-c-init c =
    let n = columns_counted c.args.sheets.now.laid.accepted c.head-head.ensures c.columns-c-end.ensures.0 in
    (domains_none _ refl, n.0, n.1)

pub places_below-requires : goal.places_below-requires
places_below-requires c =
    omega (arith, rw c.head-head.ensures at c.values.ensures.0, values_few _ c.args.sheets.now.laid.accepted c.loop-c.c (omega arith))

pub loop-c-preserved : goal.loop-c-preserved
loop-c-preserved c =
    let i = c.loop-c.invariant in
    (domains_more i.0 (omega arith) (c.places_below.ensures ∙ ap places_below (rw c.head-head.ensures at c.values.ensures.0)), i.1, i.2)

pub returns : goal.returns
returns c =
    let end : c.loop-c.c ≡ columns_of c.args.sheets.now.book.now = omega arith in rw end at c.loop-c.invariant.0
