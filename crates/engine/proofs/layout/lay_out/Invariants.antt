use mathlib.Core.Path.{◌≡◌}
use Prim.Native.Nat.{◌≤◌}
use Rattle.heads.specs.Heads.{sheets_of}
use Rattle.words.specs.Sheets.{first_byte}
use Rattle.engine.proofs.Layouts.{LaidTo}
use Rattle.engine.proofs.layout.lay_out.Given as goal

abbrev pub invariant-loop-s : goal.invariant-loop-s
invariant-loop-s l =
    LaidTo l.book.bytes.now l.s l.begins l.scopes l.shorts
    × (l.begin ≡ first_byte l.book.bytes.now l.s)
    × (l.s-end ≡ sheets_of l.book.bytes.now)
    × (l.s-end ≤ 8)
