use native.Mathlib.Omega.{arith}
use Rattle.cover.proofs.Tables.{row_put}
use Rattle.cover.proofs.table.put_row.Goals as goal

pub returns : goal.returns
returns c = row_put _ (record { size = c.told-table; fits = c.fits-table }) c.matched_values.ensures c.matched_values.type_inv (omega (arith, c.slot_of.ensures.0, c.slot_of-2.ensures.0))
