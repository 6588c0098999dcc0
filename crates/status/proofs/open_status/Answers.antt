use mathlib.Core.Path.{◌∙◌, refl, sym}
use Prim.Native.Nat.{ℕ}
use lib.Dec.{ltb}
use Rattle.std.proofs.Common.{rules, tests}
use Rattle.std.proofs.lemmas.Iterator.{YieldsList-from_slice}
use Rattle.std.proofs.lemmas.Iterator.Search.{any_from_yields_List}
use Rattle.status.specs.Status.{open_status}
use Rattle.status.proofs.Counts.{any_of_list}
use Rattle.status.proofs.open_status.Goals as goal

pub returns-then-any : goal.returns-then-any
unfolding open_status
returns-then-any c =
    let many = λ (n : ℕ). ltb 1 n in
    let found = any_from_yields_List many _ _ c.any.result c.any.ensures.ran (YieldsList-from_slice c.args.sizes.now (cc)) (λ x b q k. search (rules, tests)) in
    sym (rw (any_of_list many _ found c.told-sizes ∙ c.if-any.true) refl)

pub returns-else-any : goal.returns-else-any
unfolding open_status
returns-else-any c =
    let many = λ (n : ℕ). ltb 1 n in
    let found = any_from_yields_List many _ _ c.any.result c.any.ensures.ran (YieldsList-from_slice c.args.sizes.now (cc)) (λ x b q k. search (rules, tests)) in
    sym (rw (any_of_list many _ found c.told-sizes ∙ c.if-any.false) refl)
