-- The answer that the code's struct holds, as the model has it.
use Rattle.model.specs.Answers.{Answer}
use Rattle.answers.specs.declared.Answer.{Answer as Held}

abbrev pub answer_in : Held → Answer
answer_in a =
    record { refused = a.refused; status = a.status; depth = a.depth; outcome = a.outcome; done = a.done; tries = a.tries; shown = a.shown }
