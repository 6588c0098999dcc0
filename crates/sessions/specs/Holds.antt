-- What a session is when a trail stands, and what each order makes of it.
use Rattle.std.specs.Prelude.{◌≡◌, List, [], ◌++◌, ◌∷◌, ◌<◌, ◌≤◌, suc, ℕ, get_or, length}
use Rattle.model.specs.Orders.{Entry, before, checkpoint, depth, kind, narrowed, push, refusal}
use Rattle.book.specs.Decoding.{book_of}
use Rattle.heads.specs.Heads.{columns_of}
use Rattle.engine.specs.States.{StateIs, state_of}
use Rattle.sessions.specs.declared.orders.Order.{Order}
use Rattle.sessions.specs.declared.orders.Order.TheVariants.{Back, Finish, Mark, Narrow}
use Rattle.sessions.specs.declared.session.Session.{Session}
use Rattle.engine.specs.declared.state.State.{State}

-- what stands past the last saved state
abbrev pub no_state : State
no_state = state_of [] [] [] []

-- the session s over the book b when the trail L stands: its state is that of L, its depth the number of checkpoints, and for each checkpoint
-- it has saved the state of the trail before it: domains, words, index and counts
pub record Holds (b : List ℕ) (L : List Entry) (s : Session) : Type 0 where
  pub current : StateIs b L s.now
  pub deep : s.depth ≡ depth L
  pub few : depth L ≤ 16
  pub marked : (k : ℕ) → k < depth L → StateIs b (before (suc k) L) (get_or s.saved k no_state)
  pub size : length s.saved ≡ 16

-- a session of some trail
pub record SomeSession (b : List ℕ) (s : Session) : Type 0 where
  pub trail : List Entry
  pub holds : Holds b trail s

-- whatever trail stood: the narrow stands after it
abbrev pub NarrowHolds : List ℕ → ℕ → ℕ → Session → Session → Type 0
NarrowHolds b c m s t = (L : List Entry) → Holds b L s → Holds b (L ++ (narrowed c m ∷ [])) t

-- a checkpoint stands after it
abbrev pub MarkHolds : Session → Session → Type 0
MarkHolds s t = (b : List ℕ) (L : List Entry) → Holds b L s → Holds b (L ++ (checkpoint ∷ [])) t

-- what stands before checkpoint m
abbrev pub BackHolds : ℕ → Session → Session → Type 0
BackHolds m s t = (b : List ℕ) (L : List Entry) → Holds b L s → Holds b (before m L) t

-- what an order asks of the session that takes it
abbrev pub Fits : List ℕ → Session → Order → Type 0
Fits b s (Narrow c m) = c < columns_of b
Fits b s Mark = s.depth < 16
Fits b s (Back m) = (1 ≤ m) × (m ≤ s.depth) × (s.depth ≤ 16)
Fits b s (Finish n) = Unit {0}

-- and what it makes of that session: a finish leaves it as it is
abbrev pub TakeHolds : List ℕ → Order → Session → Session → Type 0
TakeHolds b (Narrow c m) s t = NarrowHolds b c m s t
TakeHolds b Mark s t = MarkHolds s t
TakeHolds b (Back m) s t = BackHolds m s t
TakeHolds b (Finish n) s t = t ≡ s

-- ---- one order
-- r is the refusal of the order o, whatever trail the session s holds; 0 where it is accepted
abbrev pub Refuses : List ℕ → Session → List ℕ → ℕ → Type 0
Refuses b s o r = (L : List Entry) → Holds b L s → r ≡ refusal (book_of b) L o

-- the same of any session of this depth
abbrev pub RefusesAt : List ℕ → ℕ → List ℕ → ℕ → Type 0
RefusesAt b d o r = (s : Session) → s.depth ≡ d → Refuses b s o r

-- "A session is one value that each order takes and gives back": the order o takes s and gives back t
pub record Stepped (b : List ℕ) (s : Session) (o : List ℕ) (t : Session) : Type 0 where
  -- whatever trail stood, what the order makes of it stands
  pub holds : (L : List Entry) → Holds b L s → Holds b (push (book_of b) L o) t
  -- "a refused order changes no domain or mark": the session is the same
  pub refused : (L : List Entry) → Holds b L s → (refusal (book_of b) L o ≡ 0 → ⊥) → t ≡ s
  -- a finish: "The state stays."
  pub finish : kind o ≡ 4 → t ≡ s
