use Prim.Native.Nat.{ℕ}
use lib.Dec.{ltb}
use Rattle.std.proofs.Common.{rules, tests}
use Rattle.std.proofs.lemmas.Iterator.{YieldsList-from_slice}
use Rattle.std.proofs.lemmas.Iterator.Search.{position_from_yields_List}
use Rattle.model.specs.Masks.{size}
use Rattle.engine.specs.Propagation.{is_open}
use Rattle.search.proofs.Searches.{first_of_position}
use Rattle.search.proofs.open_column.Goals as goal

pub returns : goal.returns
unfolding is_open
returns c =
    let many = λ (d : ℕ). ltb 1 (size d) in
    let found = position_from_yields_List many _ _ c.position.result c.position.ensures.ran (YieldsList-from_slice c.args.dom.now (cc)) (λ x b q k. search (rules, tests)) in
    rw (found, ← c.told-dom) (first_of_position many c.args.dom.now)
