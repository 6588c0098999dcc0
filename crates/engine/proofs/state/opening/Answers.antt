use mathlib.Core.Path.{◌∙◌, ap}
use native.Mathlib.Omega.{arith}
use Rattle.book.proofs.Decoding.{accepted_right}
use Rattle.heads.specs.Heads.{sheets_of}
use Rattle.heads.proofs.Heads.{sheets_most}
use Rattle.engine.specs.Openings.{places_below}
use Rattle.engine.proofs.Openings.{full_ready, opening_state}
use Rattle.engine.proofs.state.opening.Goals as goal

pub places_below-waiting-requires : goal.places_below-waiting-requires
places_below-waiting-requires c =
    omega (arith, c.sheets.ensures.0, ap sheets_of c.head.ensures, sheets_most _ (accepted_right _ c.args.layout.now.all.accepted).head)

pub propagate-requires : goal.propagate-requires
propagate-requires c =
    full_ready _ c.args.layout.now.all.accepted c.full_domains.ensures c.full_rows.ensures.0 c.full_rows.ensures.1
    (c.places_below-waiting.ensures ∙ ap places_below (c.sheets.ensures.0 ∙ ap sheets_of c.head.ensures))

pub returns : goal.returns
returns c =
    opening_state _ c.args.layout.now.all.accepted c.full_domains.ensures c.full_rows.ensures.0 c.full_rows.ensures.1 c.propagate.ensures
