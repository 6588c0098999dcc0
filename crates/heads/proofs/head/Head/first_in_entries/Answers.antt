use Rattle.std.proofs.Common.{◌≡◌, sym, arith, rules}
use Rattle.model.proofs.Firsts.{first_of_join, first_of_same}
use Rattle.heads.proofs.Heads.{field_unused}
use Rattle.heads.proofs.head.Head.first_in_entries.Goals as goal

pub returns : goal.returns
returns c = let b = c.args.self.now.bytes.now in
    let n : c.sheets-n.result ≡ c.loop-s.s = omega arith in
    first_of_join 88 c.first_set.result (search rules) (rw n c.loop-s.invariant)
    (first_of_same c.first_set.result (λ i p q. sym (field_unused b i (omega arith) q)) c.first_set.ensures)
