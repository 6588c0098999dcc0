-- Status, done byte and answers, as values and as bytes; all answers of a list, and the number of accepted orders.
use Rattle.std.specs.Prelude.{◌≡◌, Bool, cond, true, List, [], ◌∷◌, ◌++◌, map, ℕ, zero, suc, ◌+◌, ◌*◌, ◌^◌, eqb, leb, length, get_or, take, drop}
use Rattle.std.proofs.Math.Option.{none, some}
use Rattle.fields.specs.Bytes.{half_bytes, word_at, word_bytes}
use Rattle.model.specs.Tests.{all_below, one_if, tab}
use Rattle.model.specs.Masks.{mask_of, size}
use Rattle.model.specs.Stores.{all_filled}
use Rattle.model.specs.Choices.{pick, Takes, every_choice}
use Rattle.model.specs.Books.{Sheet, Book, column_count, sheet_at, allows}
use Rattle.model.specs.Search.{Searched, searched}
use Rattle.model.specs.Orders.{by_kind, kind, try_limit, Entry, depth, refusal, is_accepted, push, domains}

-- ---- status and done
-- every column holds one value
unfoldable pub assigned : Book → List ℕ → Bool
assigned b D = all_below (column_count b) (λ c. eqb (size (get_or D c 0)) 1)

-- "0 dead; 2 decided, each column holds one value; 1 open, otherwise" (failed, assigned)
unfoldable pub status_of : Book → List ℕ → ℕ
status_of b D = cond (all_filled (column_count b) D) (cond (assigned b D) 2 1) 0

-- a sheet is subsumed when "every choice of one value from the current domain of each column of the sheet is allowed by it"
pub record Subsumed (D : List ℕ) (s : Sheet) : Type 0 where
  pub each : (t : List ℕ) → Takes (pick D s.columns) t → allows s t ≡ true

-- the same as a computation: `subsumed_iff` of proofs/Subsumptions.antt
unfoldable pub subsumed : List ℕ → Sheet → Bool
subsumed D s = every_choice (pick D s.columns) (allows s)

-- "The done byte has bit s for sheet s". "Done now holds exactly when the session isn't dead and every choice … is allowed": `DoneExactly` (Demands)
unfoldable pub done_of : Book → List ℕ → ℕ
done_of b D = cond (all_filled (column_count b) D) (mask_of (length b.sheets) (λ s. subsumed D (sheet_at b s))) 0

-- ---- answers
pub record Answer : Type 0 where
  pub refused : ℕ
  pub status : ℕ
  pub depth : ℕ
  pub outcome : ℕ
  pub done : ℕ
  pub tries : ℕ
  pub shown : List ℕ

-- what an order shows besides the state; of a finish with the tries that it made
pub data Outcome : Type 0 where
  state_only : Outcome
  found : List ℕ → ℕ → Outcome
  not_found : ℕ → Outcome
  stopped : ℕ → Outcome

-- byte 3: "zero, or for an accepted finish 1 found, 2 none"; request W4: "3, stopped"
abbrev pub outcome_number : Outcome → ℕ
outcome_number state_only = 0
outcome_number (found x t) = 1
outcome_number (not_found t) = 2
outcome_number (stopped t) = 3

-- request W4: "Answer bytes 6 and 7 carry the tries made"
abbrev pub outcome_tries : Outcome → ℕ
outcome_tries state_only = 0
outcome_tries (found x t) = t
outcome_tries (not_found t) = t
outcome_tries (stopped t) = t

-- "sixteen domains", the current ones D, or for a finish "the full set there, one bit for each column, or zeros for none"; stopped: "the domains are then
-- zero"
abbrev pub outcome_masks : ℕ → List ℕ → Outcome → List ℕ
outcome_masks C D state_only = D
outcome_masks C D (found x t) = map (λ v. 2 ^ v) x
outcome_masks C D (not_found t) = tab C (λ c. 0)
outcome_masks C D (stopped t) = tab C (λ c. 0)

-- what a finish shows "without a limit"
abbrev pub unlimited : Searched → Outcome
unlimited g = elim g.solution [ some x ↦ found x g.tries | none ↦ not_found g.tries ]

-- what it shows with the limit n: "stopped, exactly when the answer needs more tries than the limit", and the tries made, "which when stopped are the
-- limit"
abbrev pub limited : ℕ → Searched → Outcome
limited n g = cond (leb g.tries n) (unlimited g) (stopped n)

-- what the order o shows when L stands: an accepted finish what its search comes to, any other order the state alone
unfoldable pub outcome : Book → List Entry → List ℕ → Outcome
outcome b L o =
    cond (is_accepted b L o)
    (by_kind (kind o) state_only state_only state_only (limited (try_limit o) (searched b (domains b L))) state_only)
    state_only

-- the state that the trail L leaves, with a refusal or 0, and what is shown besides
unfoldable pub showing : Book → List Entry → ℕ → Outcome → Answer
showing b L r f =
    record {
      refused = r;
      status = status_of b (domains b L);
      depth = depth L;
      outcome = outcome_number f;
      done = done_of b (domains b L);
      tries = outcome_tries f;
      shown = outcome_masks (column_count b) (domains b L) f;
    }

-- the answer to an order that comes when L stands: "A refused order shows the unchanged state"; of a finish, "The state stays"
unfoldable pub answer : Book → List Entry → List ℕ → Answer
answer b L o = showing b (push b L o) (refusal b L o) (outcome b L o)

-- "Answer 0 is the opening"
abbrev pub opening : Book → Answer
opening b = showing b [] 0 state_only

-- ---- whole lists
-- the answers to a list that comes when L stands
unfoldable pub answers_from : Book → List Entry → List (List ℕ) → List Answer
answers_from b L [] = []
answers_from b L (o ∷ os) = answer b L o ∷ answers_from b (push b L o) os

-- all answers of a list, the opening first
abbrev pub answers : Book → List (List ℕ) → List Answer
answers b os = opening b ∷ answers_from b [] os

-- the last of them, or the answer a where the list is empty
unfoldable pub last_from : Book → List Entry → Answer → List (List ℕ) → Answer
last_from b L a [] = a
last_from b L a (o ∷ os) = last_from b (push b L o) (answer b L o) os

-- the last answer: "answer 0 for an empty list"
abbrev pub last_answer : Book → List (List ℕ) → Answer
last_answer b os = last_from b [] (opening b) os

-- how many orders of a list that comes when L stands are accepted
unfoldable pub accepted_from : Book → List Entry → List (List ℕ) → ℕ
accepted_from b L [] = 0
accepted_from b L (o ∷ os) = one_if (is_accepted b L o) + accepted_from b (push b L o) os

-- "the number of accepted orders"
abbrev pub accepted_count : Book → List (List ℕ) → ℕ
accepted_count b os = accepted_from b [] os

-- ---- the 72 bytes of an answer
--
--     0        1       2      3        4     5  6, 7   8 .. 11   12 .. 15        68 .. 71
--     refusal  status  depth  outcome  done  0  tries  domain 0  domain 1   ..   domain 15
--
-- the first n domains, "zero from C on"
unfoldable pub domain_bytes : List ℕ → ℕ → List ℕ
domain_bytes D zero = []
domain_bytes D (suc n) = domain_bytes D n ++ word_bytes (get_or D n 0)

-- an answer as its 72 bytes, as drawn above
unfoldable pub answer_bytes : Answer → List ℕ
answer_bytes a =
    a.refused ∷ a.status ∷ a.depth ∷ a.outcome ∷ a.done ∷ 0 ∷ (half_bytes a.tries ++ domain_bytes a.shown 16)

-- "answer i is written into bytes 72 × i to 72 × i + 71": answers as bytes, one after the other
unfoldable pub all_bytes : List Answer → List ℕ
all_bytes [] = []
all_bytes (a ∷ xs) = answer_bytes a ++ all_bytes xs

-- answer i of an answer space
abbrev pub answer_at : List ℕ → ℕ → List ℕ
answer_at space i = take 72 (drop (72 * i) space)

-- domain c of an answer: "bytes 8 to 71 sixteen domains of 32 bits"
abbrev pub domain_in : List ℕ → ℕ → ℕ
domain_in a c = word_at a (8 + 4 * c)
