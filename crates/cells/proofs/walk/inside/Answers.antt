use mathlib.Core.Path.{◌∙◌, ◌≡◌, ap}
use Prim.Native.Nat.{◌%◌, ◌+◌, ℕ}
use native.Mathlib.Omega.{arith}
use lib.ListN.{get_or}
use Rattle.model.specs.Masks.{bit}
use Rattle.fields.specs.Bytes.{byte_at}
use Rattle.cells.proofs.Halves.{all_of_four}
use Rattle.cells.proofs.walk.inside.Goals as goal

pub returns : goal.returns
returns c = let b = c.args.book.now in
    let x = c.args.x.now in
    let z : c.args.at ≡ c.args.at + 0 = omega arith in
    all_of_four (λ j. bit (byte_at b (c.args.at + j) % 32) (get_or x j 0)) (c.held.ensures ∙ ap (λ (i : ℕ). bit (byte_at b i % 32) (get_or x 0 0)) z) c.held-2.ensures c.held-3.ensures c.held-4.ensures
