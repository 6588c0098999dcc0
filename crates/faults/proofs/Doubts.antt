-- Laws of the first look at the sheets: where it leaves no doubt, nothing is wrong. Assumes nothing.
use Rattle.std.proofs.Common.{◌≡◌, ℕ, ◌<◌, ◌≤◌, Bool, false, List, Option, None, Some, MatchOption, is_some, sym, ◌∙◌}
use mathlib.Core.Bool.{false≢true}
use Rattle.model.specs.Tests.{FirstOf, NoneIn}
use Rattle.model.proofs.Firsts.{none_any}
use Rattle.heads.specs.Heads.{sheets_of}
use Rattle.rows.specs.Rows.{blocks_of, wrong_block, wrong_sheet}
use Rattle.rows.specs.Bounds.{over_block, Clears, RowBounds, SheetThere}
use Rattle.rows.proofs.Bounds.{over_none, over_wrong}

-- a look by the sheet's bounds in which 255 passes nowhere
pub clears : (b : List ℕ) (s w x y z k : ℕ) (o : Option ℕ) → SheetThere b s → RowBounds b s w x y z k
    → FirstOf (over_block b s w x y z 0) 0 (blocks_of b s) o → Clears (wrong_block b s) 0 (blocks_of b s) (is_some o)
clears b s w x y z k None h u n =
    record { none = λ e. record { at = λ q l p. sym (over_wrong b s w x y z k q h u p) ∙ over_none b s w x y z k q (n.at q l p) } }
clears b s w x y z k (Some q) h u n = record { none = λ e. absurd (false≢true (sym e)) }

-- a sheet that is looked at so, from what the code holds
pub sheet_clear : (b book : List ℕ) (s n : ℕ) (t : Bool) → book ≡ b → n ≡ s → t ≡ false → Clears (wrong_block book n) 0 (blocks_of book n) t
    → wrong_sheet b s ≡ false
unfolding wrong_sheet
sheet_clear b book s n t hb hn e h = none_any (rw (hb, hn) at (h.none e))

-- the sheets before the first in doubt
pub sheets_before : (b : List ℕ) (o : Option ℕ)
    → MatchOption o ((s : ℕ) → 0 ≤ s → s < sheets_of b → wrong_sheet b s ≡ false)
    (λ i. (0 ≤ i) × (i < sheets_of b) × Unit {0} × ((s : ℕ) → 0 ≤ s → s < i → wrong_sheet b s ≡ false))
    → MatchOption o (NoneIn (wrong_sheet b) 0 (sheets_of b)) (λ s. (s < sheets_of b) × NoneIn (wrong_sheet b) 0 s)
sheets_before b None h = record { at = h }
sheets_before b (Some s) h = (h.1, record { at = h.3 })
