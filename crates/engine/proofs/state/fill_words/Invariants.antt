use Rattle.engine.specs.Openings.{FullWords}
use Rattle.engine.proofs.state.fill_words.Given as goal

abbrev pub invariant-loop-w : goal.invariant-loop-w
invariant-loop-w l = FullWords l.initial.valid l.s l.n l.w l.valid
