use mathlib.Core.Path.{◌≡◌}
use Prim.Native.Nat.{ℕ}
use lib.ListN.{get_or}
use Rattle.cover.specs.Covers.{ChosenFrom, MatchedBy}
use Rattle.cover.proofs.Covers.{Tried}
use Rattle.cover.proofs.test.all_matched.Given as goal

abbrev pub invariant-loop-v : goal.invariant-loop-v
invariant-loop-v l = Tried (λ v. (t : ℕ → ℕ) → ChosenFrom l.x t → t 3 ≡ v → MatchedBy l.sheet.book.now l.sheet.number l.rows.valid t) (get_or l.x 3 0) l.v-iterator.left
