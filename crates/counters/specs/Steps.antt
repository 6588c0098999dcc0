-- To which rows a walk may go on.
use Rattle.std.specs.Prelude.{◌+◌, ◌<◌, ℕ, ⊤}
use Rattle.counters.specs.declared.counter.Counters.{Counters}

-- the row i rows on from p is in the same block
abbrev pub same_block : Counters → ℕ → Type 0
same_block p i = p.row + i < 127

-- it is in any
abbrev pub any_block : Counters → ℕ → Type 0
any_block p i = ⊤
