-- Laws of a list on its way. Assumes nothing.
use mathlib.Core.Path.{◌∙◌, ◌≡◌, ap, refl, subst, sym}
use mathlib.Core.Bool.{Bool, cond, false, true}
use mathlib.Core.Logic.{◌⊎◌, inl, inr}
use mathlib.Core.List.{List, [], ◌++◌, ◌∷◌}
use Prim.Native.Nat.{◌*◌, ◌+◌, ◌/◌, ◌<◌, ◌≤◌, suc, zero, ℕ}
use native.Mathlib.Omega.{arith}
use lib.Dec.{eqb, leb}
use lib.ListN.{get_or-append, get_or, length}
use lib.Seq.{get_or_at}
use borrow.Author.Tests.{eq-eqb, le-leb, lt-leb, ne_eqb}
use Rattle.model.specs.Answers.{Answer, accepted_count, accepted_from, all_bytes, answer, answer_at, answer_bytes, answers, answers_from, last_answer, last_from, opening}
use Rattle.model.specs.Books.{Book}
use Rattle.model.specs.Orders.{Entry, is_accepted, push, trail, trail_from}
use Rattle.model.specs.Tests.{one_if, tab}
use Rattle.model.proofs.Refusals.{refusal_small}
use Rattle.model.proofs.Tests.{below, length-tab}
use Rattle.model.proofs.Trails.{accepted_snoc, answers_snoc, trail_snoc}
use Rattle.book.specs.Decoding.{book_of}
use Rattle.sessions.specs.Holds.{Fits, Holds, Refuses, RefusesAt, SomeSession, Stepped, TakeHolds}
use Rattle.sessions.specs.Lists.{order_at, orders_of, orders_to}
use Rattle.sessions.specs.Readings.{order_is, refused_in}
use Rattle.sessions.specs.declared.orders.Order.{Order}
use Rattle.sessions.specs.declared.orders.Refused.{Refused}
use Rattle.sessions.specs.declared.session.Session.{Session}
use Rattle.sessions.proofs.Holds.{fits, step_refused, step_take}
use Rattle.sessions.proofs.Lists.{orders_more, tab_last}
use Rattle.sessions.proofs.Readings.{read_accepted, read_refused}
use Rattle.std.specs.Prelude.{Err, IfOk, Ok, Result}
use Rattle.status.specs.Status.{SummaryIs}
use Rattle.status.specs.declared.Summary.{Summary}
use Rattle.shown.specs.Shows.{AnswersAt}
use Rattle.runs.specs.Runs.{Led, RanTo}
use Rattle.answers.specs.Spaces.{Adds, written}
use Rattle.answers.proofs.Spaces.{answer_part, length-written, written_over}

-- ---- how many, and the last
length_from : (b : Book) (L : List Entry) (os : List (List ℕ)) → length (answers_from b L os) ≡ length os
unfolding answers_from
length_from b L [] = refl
length_from b L (o ∷ os) = ap suc (length_from b (push b L o) os)

pub length_answers : (b : Book) (o : List ℕ) (n : ℕ) → length (answers b (orders_to o n)) ≡ n + 1
length_answers b o n = omega (arith, length_from b [] (orders_to o n), length-tab n (order_at o))

last_at : (b : Book) (os : List (List ℕ)) (L : List Entry) (a d : Answer) → get_or (a ∷ answers_from b L os) (length os) d ≡ last_from b L a os
unfolding answers_from last_from
last_at b [] L a d = refl
last_at b (o ∷ os) L a d = last_at b os (push b L o) (answer b L o) d

answers_more : (b : Book) (o : List ℕ) (n : ℕ)
    → answers b (orders_to o (n + 1)) ≡ answers b (orders_to o n) ++ (answer b (trail b (orders_to o n)) (order_at o n) ∷ [])
answers_more b o n = ap (answers b) (orders_more o n) ∙ ap (λ (l : List Answer). opening b ∷ l) (answers_snoc b [] (orders_to o n) (order_at o n))

-- the answer to order i
pub answers_at : (b : Book) (o : List ℕ) (n i : ℕ) (d : Answer) → i < n
    → get_or (answers_from b [] (orders_to o n)) i d ≡ answer b (trail b (orders_to o i)) (order_at o i)
answers_at b o zero i d l = absurd (omega arith)
answers_at b o (suc n) i d l =
    ap (λ (l : List Answer). get_or l i d)
    (ap (answers_from b []) (tab_last n (order_at o)) ∙ answers_snoc b [] (orders_to o n) (order_at o n))
    ∙ go (λ k. answers_at b o n i d k) (below i n)
  where
    long : length (answers_from b [] (orders_to o n)) ≡ n
    long = length_from b [] (orders_to o n) ∙ length-tab n (order_at o)

    go : (i < n → get_or (answers_from b [] (orders_to o n)) i d ≡ answer b (trail b (orders_to o i)) (order_at o i)) → (i < n) ⊎ (n ≤ i)
        → get_or (answers_from b [] (orders_to o n) ++ (answer b (trail b (orders_to o n)) (order_at o n) ∷ [])) i d ≡ answer b (trail b (orders_to o i)) (order_at o i)
    go rec (inl k) = get_or-append (answers_from b [] (orders_to o n)) _ d i (rw long k) ∙ rec k
    go rec (inr k) =
        let e : i ≡ n = omega arith in
        rw e (get_or_at (answers_from b [] (orders_to o n)) (answer b (trail b (orders_to o n)) (order_at o n)) [] d n long)

one_most : (t : Bool) → one_if t ≤ 1
one_most true = omega arith
one_most false = omega arith

pub accepted_few : (b : Book) (L : List Entry) (os : List (List ℕ)) → accepted_from b L os ≤ length os
unfolding accepted_from
accepted_few b L [] = omega arith
accepted_few b L (o ∷ os) = omega (arith, one_most (is_accepted b L o), accepted_few b (push b L o) os)

-- ---- what the writer asks for
pub refuses_small : {b : List ℕ} (x : List ℕ) {L : List Entry} {s : Session} {r : ℕ} → Holds b L s → Refuses b s x r → r < 256
refuses_small {b} x {L} {s} {r} h f = rw (f L h) (refusal_small (book_of b) L x)

pub depth_small : {b : List ℕ} {L : List Entry} {s : Session} → Holds b L s → s.depth ≤ 16
depth_small h = omega (arith, h.few, h.deep)

-- what an order made of the session s, by whichever way it went: it was read as x, the session is t, and j orders were accepted, where k were before it
pub record Turned (b : List ℕ) (s : Session) (o : List ℕ) (k : ℕ) (x : Result Order Refused) (t : Session) (j : ℕ) : Type 0 where
  pub refuses : Refuses b s o (refused_in x)
  pub says : IfOk x (order_is o)
  pub step : Stepped b s o t
  pub counted : j ≡ k + one_if (eqb (refused_in x) 0)

-- an accepted order counts, a refused one doesn't
counts_one : (k : ℕ) {r : ℕ} → r ≡ 0 → k + 1 ≡ k + one_if (eqb r 0)
counts_one k {r} z = ap (λ (t : Bool). k + one_if t) (sym (eq-eqb r 0 z))

counts_none : (k : ℕ) {r : ℕ} → (r ≡ 0 → ⊥) → k ≡ k + one_if (eqb r 0)
counts_none k {r} z = let e : eqb r 0 ≡ false = ne_eqb r 0 z in rw e (omega arith)

module _ {b : List ℕ} {s : Session} (o : List ℕ) (k : ℕ) {x : Result Order Refused} (f : RefusesAt b s.depth o (refused_in x)) (p : IfOk x (order_is o)) where
  pub turned_accepted : {y : Order} (t : Session) → x ≡ Ok y → TakeHolds b y s t → Turned b s o k x t (k + 1)
  turned_accepted {y} t e h =
      let z = read_accepted e in
      record { refuses = f s refl; says = p; step = step_take b s o (f s refl) z y t (rw e at p) h; counted = counts_one k z }

  pub turned_refused : {r : Refused} → x ≡ Err r → Turned b s o k x s k
  turned_refused e =
      let n = read_refused e in
      record { refuses = f s refl; says = p; step = step_refused b s o (f s refl) n; counted = counts_none k n }

  pub fits_accepted : {y : Order} → x ≡ Ok y → SomeSession b s → Fits b s y
  fits_accepted {y} e h = fits b s o (f s refl) (read_accepted e) y (rw e at p) h

-- ---- from the opening on
module _ (b o old : List ℕ) where
  abbrev bk : Book
  bk = book_of b

  abbrev T : ℕ → List Entry
  T n = trail bk (orders_to o n)

  -- the sessions: none but the opening's, and one more
  led_none : {s : Session} → Holds b [] s → Led b o 0 s
  led_none {s} h = record { session = λ i. s; opened = h; steps = λ i l. absurd (omega arith); last = refl }

  led_more : (n : ℕ) {s : Session} (t : Session) → Led b o n s → Stepped b s (order_at o n) t → Led b o (n + 1) t
  led_more n {s} t p g = record {
    session = session;
    opened = rw (early 0 (omega arith)) p.opened;
    steps = λ i l. step i (below i n) l;
    last = late;
  }
    where
      session : ℕ → Session
      session i = cond (leb i n) (p.session i) t

      early : (i : ℕ) → i ≤ n → session i ≡ p.session i
      early i l = rw (le-leb i n l)

      late : session (n + 1) ≡ t
      late = let e : leb (n + 1) n ≡ false = lt-leb (n + 1) n (omega arith) in rw e

      step : (i : ℕ) → (i < n) ⊎ (n ≤ i) → i < n + 1 → Stepped b (session i) (order_at o i) (session (i + 1))
      step i (inl k) l = rw (early i (omega arith), early (i + 1) (omega arith)) (p.steps i k)
      step i (inr k) l = let e : i ≡ n = omega arith in rw (e, early n (omega arith), late, p.last) g

  pub ran_none : {s : Session} {space : List ℕ} → 72 ≤ length old → Holds b [] s → Adds 0 (opening bk) old space → RanTo b o old 0 s 0 space
  unfolding tab trail_from accepted_from answers_from all_bytes
  ran_none l h w = record { led = led_none h; holds = h; counts = refl; wrote = w [] old refl l refl }

  pub ran_few : {n k : ℕ} {s : Session} {space : List ℕ} → RanTo b o old n s k space → k ≤ n
  ran_few {n} {k} {s} {space} h = omega (arith, h.counts, accepted_few bk [] (orders_to o n), length-tab n (order_at o))

  pub ran_room : {n k : ℕ} {s : Session} {space : List ℕ} → RanTo b o old n s k space → 72 * n + 72 ≤ length old → length space ≡ length old
  ran_room {n} {k} {s} {space} h l =
      ap length h.wrote ∙ length-written (answers bk (orders_to o n)) old (omega (arith, length_answers bk o n))

  -- one order more, and what the session says after it
  module _ {n k j : ℕ} {s t : Session} {space space' x : List ℕ} {y : Result Order Refused} {told told' : Summary} (e : x ≡ order_at o n)
      (room : 72 * (n + 1) + 72 ≤ length old) (h : RanTo b o old n s k space) (p : Turned b s x k y t j) (said : SummaryIs b (T n) told)
      (w : (l : List ℕ) → IfOk y (order_is l) → AnswersAt b l (refused_in y) t.now t.depth told (n + 1) space told' space') where
    answered : SummaryIs b (push bk (T n) x) told' × Adds (n + 1) (answer bk (T n) x) space space'
    answered =
        let after = p.step.holds (T n) h.holds in
        w x p.says (T n) (p.refuses (T n) h.holds) said after.current after.deep

    pub says_more : SummaryIs b (T (n + 1)) told'
    says_more = rw (orders_more o n, trail_snoc bk [] (orders_to o n) (order_at o n), ← e) answered.0

    pub more : RanTo b o old (n + 1) t j space'
    more = record {
      led = led_more n t h.led (rw e at p.step);
      holds = rw (orders_more o n, trail_snoc bk [] (orders_to o n) (order_at o n), ← e) (p.step.holds _ h.holds);
      counts =
          p.counted
          ∙ ap (λ (i : ℕ). k + one_if (eqb i 0)) (rw e at (p.refuses (T n) h.holds))
          ∙ ap (λ (i : ℕ). i + one_if (is_accepted bk (T n) (order_at o n))) h.counts
          ∙ sym (accepted_snoc bk [] (orders_to o n) (order_at o n))
          ∙ ap (accepted_count bk) (sym (orders_more o n));
      wrote =
          subst (λ (l : List Answer). space' ≡ written l old) (sym (answers_more bk o n))
          ((rw e at answered.1) (answers bk (orders_to o n)) old (length_answers bk o n) room h.wrote);
    }

  -- ---- whole lists
  -- the space after the opening stands for the one before it
  pub opened_ran : {s : Session} {space : List ℕ} → 72 ≤ length old → Holds b [] s → Adds 0 (opening bk) old space → RanTo b o space 0 s 0 space
  unfolding tab trail_from accepted_from answers_from
  opened_ran {s} {space} l h w =
      let e = (ran_none l h w).wrote in
      record { led = led_none h; holds = h; counts = refl; wrote = e ∙ sym (written_over (opening bk ∷ []) (opening bk ∷ []) old e (omega arith)) }

  pub opened_long : {s : Session} {space : List ℕ} → 72 ≤ length old → Holds b [] s → Adds 0 (opening bk) old space → length space ≡ length old
  opened_long {s} {space} l h w = ran_room (ran_none l h w) (omega arith)

  pub ran_from : {s t : Session} {n k : ℕ} {mid space : List ℕ} → 72 ≤ length old → Holds b [] s → Adds 0 (opening bk) old mid → RanTo b o mid n t k space → RanTo b o old n t k space
  unfolding tab trail_from accepted_from answers_from
  ran_from {s} {t} {n} {k} {mid} {space} l h w g = record {
    led = g.led;
    holds = g.holds;
    counts = g.counts;
    wrote = g.wrote ∙ written_over (answers bk (orders_to o n)) (opening bk ∷ []) old (ran_none l h w).wrote (omega (arith, length_answers bk o n));
  }

-- the last answer that was written
pub last_part : (b : Book) (o old : List ℕ) → answer_at (written (answers b (orders_of o)) old) (length o / 8) ≡ answer_bytes (last_answer b (orders_of o))
last_part b o old =
    answer_part (answers b (orders_of o)) old (length o / 8) (opening b) (omega (arith, length_answers b o (length o / 8)))
    ∙ ap answer_bytes
    (ap (λ (i : ℕ). get_or (answers b (orders_of o)) i (opening b)) (sym (length-tab (length o / 8) (order_at o)))
    ∙ last_at b (orders_of o) [] (opening b) (opening b))
