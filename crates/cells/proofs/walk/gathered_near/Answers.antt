use Rattle.cells.proofs.Collects.{of_join, run_joined}
use Rattle.cells.proofs.Stretches.{part_stretch, past_part, run_stretch}
use Rattle.cells.proofs.walk.gathered_near.Goals as goal

pub gathered_run-requires : goal.gathered_run-requires
gathered_run-requires c = (run_stretch c.run_of-n.ensures.1 c.requires.0, c.requires.1)

pub gathered_set-requires-2 : goal.gathered_set-requires-2
gathered_set-requires-2 c = (part_stretch (past_part c.past_rows.ensures) c.requires.0, c.gathered_run.ensures.1)

pub returns : goal.returns
returns c = (of_join _ (run_joined c.run_of-n.ensures.1 c.past_rows.ensures) c.gathered_run.ensures.0 c.gathered_set-2.ensures.0, c.gathered_set-2.ensures.1)
