use Rattle.std.proofs.Common.{◌+◌, ◌*◌}
use Rattle.model.specs.Tests.{NoneIn}
use Rattle.heads.specs.Heads.{wrong_field}
use Rattle.heads.proofs.head.Head.first_in_entries.Given as goal

abbrev pub invariant-loop-s : goal.invariant-loop-s
invariant-loop-s l = NoneIn (wrong_field l.self.bytes.now) 24 (24 + 8 * l.s)
