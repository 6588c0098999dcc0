-- What the two equations of a run come to, in the customer's words. b, o and space are the book, the orders and the answer space handed
-- over; n is the number of orders. Quoted are the customer's demands and document 01. Proved in proofs/Promises.antt, what two runs have in common in
-- proofs/Comparisons.antt.
use Rattle.std.specs.Prelude.{◌≡◌, true, ◌↔◌, ◌⊎◌, List, ◌++◌, ◌+◌, ◌-◌, ◌/◌, ◌<◌, ◌^◌, ◌≤◌, ℕ, eqb, get_or, length}
use Rattle.fields.specs.Bytes.{byte_at, half_at}
use Rattle.model.specs.Answers.{answer_at, done_of, domain_in, status_of}
use Rattle.model.specs.Books.{Book, Fails, Stays, column_count}
use Rattle.model.specs.Choices.{Lower}
use Rattle.model.specs.Demands.{DoneExactly, SameAllowed, SameFinish}
use Rattle.model.specs.Masks.{bit}
use Rattle.model.specs.Orders.{Entry, allowed, depth, domains, kind, refusal, trail, try_limit}
use Rattle.model.specs.Search.{searched, value_of}
use Rattle.model.specs.Solutions.{FirstSolution, NoSolution, Solution}
use Rattle.model.specs.Stores.{Within}
use Rattle.model.specs.Tests.{count, tab}
use Rattle.book.specs.Decoding.{book_of}
use Rattle.sessions.specs.Lists.{order_at, orders_to}
use Rattle.runs.specs.Results.{run_refusal, run_result, run_space, space_needed}

-- ---- demand 1: any bytes as book and orders, any answer space
pub record AnyRun (b o space : List ℕ) : Type 0 where
  -- "a refused run writes nothing"
  pub refused_run : 65536 ≤ run_result b o (length space) → run_space b o space ≡ space
  -- "touches nothing outside the answers": "Later bytes of the space are untouched"
  pub untouched : (j : ℕ) → space_needed o ≤ j → byte_at (run_space b o space) j ≡ byte_at space j
  pub same_length : length (run_space b o space) ≡ length space
  -- a number below 65,536 says that the run was accepted, and no other does
  pub accepted_run : (run_result b o (length space) < 65536) ↔ (run_refusal b o (length space) ≡ 0)

-- ---- one answer: its bytes a, when L stands over the book B
-- every answer
pub record AnswerTells (B : Book) (L : List Entry) (a : List ℕ) : Type 0 where
  -- "byte 1 status", "byte 2 depth", "byte 4 done"
  pub status : byte_at a 1 ≡ status_of B (domains B L)
  pub deep : byte_at a 2 ≡ depth L
  pub done : byte_at a 4 ≡ done_of B (domains B L)
  -- request W3: "Done now holds exactly when the session isn't dead and every choice … is allowed"
  pub done_exactly : DoneExactly B (domains B L) (byte_at a 1) (byte_at a 4)
  -- "bytes 5 to 7 zero", of which request W4 has taken 6 and 7
  pub byte_5 : byte_at a 5 ≡ 0
  -- demand 2: "dead exactly when there is no sound box"
  pub failed : (byte_at a 1 ≡ 0) ↔ Fails B (allowed B L)

-- any but that of an accepted finish
pub record AnswerShowsState (B : Book) (L : List Entry) (a : List ℕ) : Type 0 where
  -- "byte 3 zero, or for an accepted finish 1 found, 2 none"
  pub outcome : byte_at a 3 ≡ 0
  pub no_tries : (byte_at a 6 ≡ 0) × (byte_at a 7 ≡ 0)
  -- demand 2: "a value stays exactly when some sound box within the standing narrowings holds it"
  pub stays : (c v : ℕ) → c < 16 → (bit v (domain_in a c) ≡ true) ↔ Stays B (allowed B L) c v

-- that of an accepted finish which shows what there is
pub record AnswerShowsFirst (B : Book) (L : List Entry) (a : List ℕ) : Type 0 where
  -- demand 2: "a finish gives the first full set in the current domains, none exactly when there is none"
  pub found : (byte_at a 3 ≡ 1) ↔ ((x : List ℕ) × Solution B (domains B L) x)
  pub not_found : (byte_at a 3 ≡ 2) ↔ NoSolution B (domains B L)
  pub first : (x : List ℕ) → FirstSolution B (domains B L) x → (c : ℕ) → c < column_count B → domain_in a c ≡ 2 ^ get_or x c 0
  -- "or zeros for none"
  pub zeros : NoSolution B (domains B L) → (c : ℕ) → c < 16 → domain_in a c ≡ 0

-- that of an accepted finish with the limit n. Quoted is request W4
pub record AnswerShowsFinish (B : Book) (L : List Entry) (n : ℕ) (a : List ℕ) : Type 0 where
  -- "Byte 3 is 3, stopped, exactly when the answer needs more tries than the limit; the domains are then zero."
  pub stopped : (byte_at a 3 ≡ 3) ↔ (n < (searched B (domains B L)).tries)
  pub stopped_zeros : byte_at a 3 ≡ 3 → (c : ℕ) → c < 16 → domain_in a c ≡ 0
  -- "Answer bytes 6 and 7 carry the tries made, which when stopped are the limit."
  pub stopped_tries : byte_at a 3 ≡ 3 → half_at a 6 ≡ n
  pub tries : (byte_at a 3 ≡ 3 → ⊥) → half_at a 6 ≡ (searched B (domains B L)).tries
  -- "Demand 2's sentence on the finish holds for every finish that isn't stopped."
  pub not_stopped : (byte_at a 3 ≡ 3 → ⊥) → AnswerShowsFirst B L a
  -- "zero from C on"; of any other answer this follows from `stays`, since no value past the last column is allowed
  pub past : (c : ℕ) → column_count B ≤ c → c < 16 → domain_in a c ≡ 0

-- ---- an accepted run; S is the answer space at its end
-- what stands when answer i is given, by the bytes of book and list
abbrev pub standing : List ℕ → List ℕ → ℕ → List Entry
standing b o i = trail (book_of b) (orders_to o i)

-- answer i is that of an accepted finish; orders are counted from 1
pub record IsFinish (o S : List ℕ) (i : ℕ) : Type 0 where
  pub ordered : 1 ≤ i
  pub of_kind : kind (order_at o (i - 1)) ≡ 4
  pub accepted : byte_at (answer_at S i) 0 ≡ 0

-- over the book B, when L i stands as answer i is given
pub record AcceptedRun (B : Book) (L : ℕ → List Entry) (o S : List ℕ) (n accepted : ℕ) : Type 0 where
  -- demand 1: "the accepted count is the number of orders answered with 0", answer 0 being that of no order
  pub counted : accepted ≡ count n (λ i. eqb (byte_at (answer_at S (i + 1)) 0) 0)
  -- "byte 0 the refusal or 0": by the order's bytes, the book and what stands
  pub refusals : (i : ℕ) → i < n → byte_at (answer_at S (i + 1)) 0 ≡ refusal B (L i) (order_at o i)
  pub opened : byte_at (answer_at S 0) 0 ≡ 0
  -- "a refused order changes no domain or mark", for the whole standing list stays
  pub refused_order : (i : ℕ) → i < n → (byte_at (answer_at S (i + 1)) 0 ≡ 0 → ⊥) → L (i + 1) ≡ L i
  -- every answer, by what stands when it is given
  pub tells : (i : ℕ) → i ≤ n → AnswerTells B (L i) (answer_at S i)
  pub states : (i : ℕ) → i ≤ n → (IsFinish o S i → ⊥) → AnswerShowsState B (L i) (answer_at S i)
  pub finishes : (i : ℕ) → i ≤ n → IsFinish o S i → AnswerShowsFinish B (L i) (try_limit (order_at o (i - 1))) (answer_at S i)

-- ---- demand 3, of the answers: "any two whole lists", of orders of any kind, over one book
-- what stands after the whole list
abbrev pub standing_after : List ℕ → List ℕ → List Entry
standing_after b o = standing b o (length o / 8)

-- a is the last answer of an accepted run of the list o, in whatever space: "answer 0 for an empty list"
pub record EndsWith (b o a : List ℕ) : Type 0 where
  pub space : List ℕ
  pub accepted : run_refusal b o (length space) ≡ 0
  pub last : a ≡ answer_at (run_space b o space) (length o / 8)

-- the full set that an answer shows: a value for each column
abbrev pub set_in : List ℕ → List ℕ → List ℕ
set_in b a = tab (column_count (book_of b)) (λ c. value_of (domain_in a c))

-- the finish f is given after the list x: a is its answer, the last one of the list with f appended. So x has up to 255 orders
pub record NextFinish (b x f a : List ℕ) : Type 0 where
  pub bytes : length f ≡ 8
  pub of_kind : kind f ≡ 4
  pub ends : EndsWith b (x ++ f) a

-- and it is accepted
pub record AcceptedNext (b x f a : List ℕ) : Type 0 where
  pub next : NextFinish b x f a
  pub accepted : byte_at a 0 ≡ 0

-- x and y are the lists, a and d answers
module _ (b x y : List ℕ) where
  -- "Lists that end with the same allowed values in every column"
  abbrev pub EqualEnds : Type 0
  EqualEnds = SameAllowed (book_of b) (standing_after b x) (standing_after b y)

  -- x "is narrower than another, the wider one, when in every column it allows only values that the other allows too; equal counts"
  abbrev pub NarrowerEnd : Type 0
  NarrowerEnd = Within (allowed (book_of b) (standing_after b x)) (allowed (book_of b) (standing_after b y))

  pub record ComparedRuns : Type 0 where
    -- "Lists that end with the same allowed values in every column agree in bytes 1 and 4 of their last answers (answer 0 for an empty list)"
    pub same_status : EqualEnds → (a d : List ℕ) → EndsWith b x a → EndsWith b y d → byte_at a 1 ≡ byte_at d 1
    pub same_done : EqualEnds → (a d : List ℕ) → EndsWith b x a → EndsWith b y d → byte_at a 4 ≡ byte_at d 4
    -- a finish that is then given to both is accepted in both or in none
    pub same_refusal : (f a d : List ℕ) → NextFinish b x f a → NextFinish b y f d → byte_at a 0 ≡ byte_at d 0
    -- "If one accepted finish with the same bytes is then given to both, they agree in bytes 1, 3, 4 and 8 to 71 of its answer." Request W4: "two lists
    -- with equal allowed values give equal tries and outcome at equal limits, stopped for both included"
    pub same_finish : EqualEnds → (f g a d : List ℕ) → AcceptedNext b x f a → AcceptedNext b y g d → try_limit f ≡ try_limit g → SameFinish a d
    -- "A larger limit never changes found or none, nor the set", nor the tries
    pub larger_limit : EqualEnds → (f g a d : List ℕ) → AcceptedNext b x f a → AcceptedNext b y g d → try_limit f ≤ try_limit g
        → (byte_at a 3 ≡ 3 → ⊥) → SameFinish a d
    -- "If there is a full set in the narrower's current domains, there is one in the wider's, and the wider's first is the same as the narrower's or
    -- has the lower value in the lowest column where they differ": "compared by the first full sets of document 01, without a limit"
    pub wider_first : NarrowerEnd → (v : List ℕ) → Solution (book_of b) (domains (book_of b) (standing_after b x)) v
        → (w : List ℕ) × (z : List ℕ) × FirstSolution (book_of b) (domains (book_of b) (standing_after b x)) w
        × FirstSolution (book_of b) (domains (book_of b) (standing_after b y)) z × ((z ≡ w) ⊎ Lower z w)
    -- and so by what two finishes show, where the wider's isn't stopped, "since the wider one may stop first"
    pub wider_found : NarrowerEnd → (f g a d : List ℕ) → AcceptedNext b x f a → AcceptedNext b y g d → byte_at a 3 ≡ 1 → (byte_at d 3 ≡ 3 → ⊥)
        → (byte_at d 3 ≡ 1) × ((set_in b d ≡ set_in b a) ⊎ Lower (set_in b d) (set_in b a))

-- ---- the claims, of every book, list and space
abbrev pub AnyRuns : Type 0
AnyRuns = (b o space : List ℕ) → AnyRun b o space

abbrev pub AcceptedRuns : Type 0
AcceptedRuns =
    (b o space : List ℕ) → run_refusal b o (length space) ≡ 0
    → AcceptedRun (book_of b) (standing b o) o (run_space b o space) (length o / 8) (run_result b o (length space))

abbrev pub RunsCompare : Type 0
RunsCompare = (b x y : List ℕ) → ComparedRuns b x y
