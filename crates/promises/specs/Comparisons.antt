-- Demand 3, whole: what any two lists of orders have in common, of their answers and of the sessions given back; and what a list came to that was
-- run. x and y are the lists as bytes, s and t their sessions. Quoted is document 01.
use Rattle.std.specs.Prelude.{◌≡◌, ◌⊎◌, List, ◌/◌, ℕ, get_or, length}
use Rattle.model.specs.Choices.{Lower}
use Rattle.model.specs.Solutions.{FirstSolution, Solution}
use Rattle.model.specs.Stores.{Within}
use Rattle.book.specs.Decoding.{book_of}
use Rattle.sessions.specs.Holds.{Holds}
use Rattle.sessions.specs.declared.session.Session.{Session}
use Rattle.promises.specs.Promises.{ComparedRuns, EqualEnds, NarrowerEnd, standing_after}
use Rattle.runs.specs.Results.{run_space}
use Rattle.runs.specs.Runs.{Led}

-- "the current domain of every column in the session given back": "The demands speak of the session's current domains, also where an answer
-- holds something else in their place"
abbrev pub current : Session → List ℕ
current s = s.now.dom

-- "Demand 3 is a single claim about any two whole lists, and not one for each order."
pub record Demand3 (b x y : List ℕ) (s t : Session) : Type 0 where
  -- bytes 1 and 4 of the last answers, the finish given next, and its first full set
  pub answers : ComparedRuns b x y
  -- "Lists that end with the same allowed values in every column agree … in the current domain of every column in the session given back."
  pub same_domains : EqualEnds b x y → (c : ℕ) → get_or (current s) c 0 ≡ get_or (current t) c 0
  -- "Then each value in a current domain of the narrower is in the wider's domain of that column."
  pub narrower_within : NarrowerEnd b x y → Within (current s) (current t)
  -- "If there is a full set in the narrower's current domains, there is one in the wider's, and the wider's first is the same as the narrower's or has
  -- the lower value in the lowest column where they differ."
  pub wider_first : NarrowerEnd b x y → (v : List ℕ) → Solution (book_of b) (current s) v
      → (w : List ℕ) × (z : List ℕ) × FirstSolution (book_of b) (current s) w × FirstSolution (book_of b) (current t) z × ((z ≡ w) ⊎ Lower z w)

-- what the list o came to, in a space that was `old`: its sessions from order to order, the last of which holds its own trail, and the space of
-- its own run
pub record ListRan (b o old : List ℕ) (s : Session) (space : List ℕ) : Type 0 where
  pub led : Led b o (length o / 8) s
  pub holds : Holds b (standing_after b o) s
  pub wrote : space ≡ run_space b o old

-- both lists, in two spaces
pub record BothRan (b x y old old' : List ℕ) (s t : Session) (space space' : List ℕ) : Type 0 where
  pub left : ListRan b x old s space
  pub right : ListRan b y old' t space'
  pub compared : Demand3 b x y s t
