-- A list of orders on its way: the sessions, the count and the answer space.
use Rattle.std.specs.Prelude.{◌≡◌, List, [], ◌+◌, ◌<◌, ℕ}
use Rattle.model.specs.Answers.{accepted_count, answers}
use Rattle.model.specs.Orders.{trail}
use Rattle.book.specs.Decoding.{book_of}
use Rattle.sessions.specs.Holds.{Holds, Stepped}
use Rattle.sessions.specs.Lists.{order_at, orders_to}
use Rattle.sessions.specs.declared.session.Session.{Session}
use Rattle.answers.specs.Spaces.{written}

-- the sessions of the first n orders: each "starts from the session that answer 0 shows, with an empty standing list. Each order gets the
-- session that the one before it gave back, after a refused one too"
pub record Led (b o : List ℕ) (n : ℕ) (t : Session) : Type 0 where
  -- after the first i orders
  pub session : ℕ → Session
  pub opened : Holds b [] (session 0)
  pub steps : (i : ℕ) → i < n → Stepped b (session i) (order_at o i) (session (i + 1))
  pub last : session n ≡ t

-- after the first n orders, in a space that was `old`
pub record RanTo (b o old : List ℕ) (n : ℕ) (s : Session) (accepted : ℕ) (space : List ℕ) : Type 0 where
  pub led : Led b o n s
  pub holds : Holds b (trail (book_of b) (orders_to o n)) s
  pub counts : accepted ≡ accepted_count (book_of b) (orders_to o n)
  pub wrote : space ≡ written (answers (book_of b) (orders_to o n)) old
