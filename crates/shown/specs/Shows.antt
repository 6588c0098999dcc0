-- What an answer shows: of the state, and besides it.
use Rattle.std.specs.Prelude.{◌≡◌, List, [], Option, None, Some, ℕ}
use Rattle.model.specs.Answers.{Outcome, answer, opening, outcome, showing}
use Rattle.model.specs.Orders.{Entry, depth, domains, push, refusal}
use Rattle.book.specs.Decoding.{book_of}
use Rattle.engine.specs.States.{StateIs}
use Rattle.engine.specs.declared.state.State.{State}
use Rattle.search.specs.Searches.{OutcomeIs}
use Rattle.search.specs.declared.Outcome.{Outcome as Held}
use Rattle.sessions.specs.Readings.{refused_number}
use Rattle.sessions.specs.declared.orders.Refused.{Refused}
use Rattle.status.specs.Status.{SummaryIs}
use Rattle.status.specs.declared.Summary.{Summary}
use Rattle.answers.specs.Spaces.{Adds}

-- f is what the order o shows, which has the refusal r and leaves the state st, whatever trail stood before it
abbrev pub ShowsBesides : List ℕ → List ℕ → ℕ → State → Held → Type 0
ShowsBesides b o r st f =
    (L : List Entry) → r ≡ refusal (book_of b) L o → StateIs b (push (book_of b) L o) st
    → OutcomeIs b (domains (book_of b) (push (book_of b) L o)) (outcome (book_of b) L o) f

-- where t is what the trail says that stood before the order o, t' is what the one says that stands after it; the order has the refusal r and leaves st
abbrev pub TellsAfter : List ℕ → List ℕ → ℕ → Summary → State → Summary → Type 0
TellsAfter b o r t st t' =
    (L : List Entry) → r ≡ refusal (book_of b) L o → SummaryIs b L t → StateIs b (push (book_of b) L o) st → SummaryIs b (push (book_of b) L o) t'

-- the byte for a refusal, or for none
abbrev pub refusal_shown : Option Refused → ℕ
refusal_shown None = 0
refusal_shown (Some r) = refused_number r

-- answer i shows what t says at depth d, with the refusal r, and besides f, or where that shows no masks the domains of the state st, of whatever book and
-- trail
abbrev pub ShowsAt : Summary → ℕ → ℕ → Held → State → ℕ → List ℕ → List ℕ → Type 0
ShowsAt t d r f st i space space' =
    (b : List ℕ) (L : List Entry) (x : Outcome) → SummaryIs b L t → StateIs b L st → d ≡ depth L → OutcomeIs b (domains (book_of b) L) x f
    → Adds i (showing (book_of b) L r x) space space'

-- answer i is that to the order o, which has the refusal r and leaves the state st at depth d, whatever trail stood before it and said t; t' is what the
-- one says that stands after it
abbrev pub AnswersAt : List ℕ → List ℕ → ℕ → State → ℕ → Summary → ℕ → List ℕ → Summary → List ℕ → Type 0
AnswersAt b o r st d t i space t' space' =
    (L : List Entry) → r ≡ refusal (book_of b) L o → SummaryIs b L t → StateIs b (push (book_of b) L o) st → d ≡ depth (push (book_of b) L o)
    → SummaryIs b (push (book_of b) L o) t' × Adds i (answer (book_of b) L o) space space'

-- answer 0 is that of the state st of the empty trail, and t is what that says
abbrev pub OpensWith : List ℕ → State → List ℕ → Summary → List ℕ → Type 0
OpensWith b st space t space' = StateIs b [] st → SummaryIs b [] t × Adds 0 (opening (book_of b)) space space'
