use mathlib.Core.Path.{◌≡◌}
use Prim.Native.Nat.{◌≤◌}
use Rattle.heads.specs.Heads.{columns_of}
use Rattle.engine.specs.Openings.{FullDomains}
use Rattle.engine.proofs.state.full_domains.Given as goal

abbrev pub invariant-loop-c : goal.invariant-loop-c
invariant-loop-c l = FullDomains l.sheets.book.now l.c l.dom × (l.c-end ≡ columns_of l.sheets.book.now) × (l.c-end ≤ 16)
