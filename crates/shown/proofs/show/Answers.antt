use mathlib.Core.Path.{refl}
use Rattle.shown.proofs.Shows.{refusal_byte, shows_at}
use Rattle.shown.proofs.show.Goals as goal

pub returns : goal.returns
returns c =
    shows_at _ _ (rw (refusal_byte _ c.map_or-refused.ensures, c.from.ensures, c.number.ensures, c.tries.ensures, c.masks.ensures) refl) c.write.ensures
