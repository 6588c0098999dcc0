-- The claims of specs/Promises.antt about one run, proved. Assumes nothing.
use mathlib.Core.Path.{◌∙◌, ◌≡◌, ap, refl, subst, sym}
use mathlib.Core.Bool.{false, true}
use mathlib.Core.Logic.{◌↔◌, ◌⊎◌, inl, inr}
use mathlib.Core.Option.{none, some}
use mathlib.Core.List.{List, []}
use Prim.Native.Nat.{◌*◌, ◌+◌, ◌-◌, ◌/◌, ◌<◌, ◌^◌, ◌≤◌, suc, zero, ℕ}
use native.Mathlib.Numerals.{add-one}
use native.Mathlib.Omega.{arith}
use lib.Dec.{eqb}
use lib.ListN.{drop, get_or, length}
use lib.Seq.{get_or-append-add, get_or-drop}
use borrow.Author.Tests.{eqb-false, eqb-true}
use Rattle.fields.specs.Bytes.{byte_at}
use Rattle.model.specs.Answers.{Answer, accepted_count, accepted_from, all_bytes, answer, answer_at, answer_bytes, answers, opening, showing, state_only}
use Rattle.model.specs.Books.{Book, WellFormed, column_count}
use Rattle.model.specs.Demands.{ShowsFinish, ShowsFirst, ShowsState}
use Rattle.model.specs.Masks.{bit}
use Rattle.model.specs.Orders.{AcceptedFinish, Entry, domains, is_accepted, kind, push, refusal, trail, trail_from, try_limit}
use Rattle.model.specs.Search.{searched}
use Rattle.model.specs.Stores.{has}
use Rattle.model.specs.Tests.{count, one_if, sum, tab}
use Rattle.model.proofs.Choices.{opt}
use Rattle.model.proofs.Answers.{Tells, answer_tells, bytes_0, bytes_1, bytes_2, bytes_3, bytes_4, bytes_5, bytes_6_7, domain_back, map_out, showing_tells, shown_small, tries_small}
use Rattle.model.proofs.Demands.{claim1, claim2, done_exactly}
use Rattle.model.proofs.Refusals.{push_finish, push_refused}
use Rattle.model.proofs.Search.{get_d_map}
use Rattle.model.proofs.Tests.{either, sum_last, sum_same, tab_zeros}
use Rattle.model.proofs.Trails.{accepted_snoc, domains_store, trail_snoc}
use Rattle.book.specs.Decoding.{book_of}
use Rattle.book.proofs.Decoding.{accepted_right, right_formed}
use Rattle.sessions.specs.Lists.{order_at, orders_of, orders_to}
use Rattle.sessions.proofs.Lists.{orders_more, tab_last}
use Rattle.promises.specs.Promises.{AcceptedRun, AcceptedRuns, AnswerShowsFinish, AnswerShowsFirst, AnswerShowsState, AnswerTells, AnyRun, AnyRuns, IsFinish, standing}
use Rattle.runs.specs.Results.{run_refusal, run_result, run_space, space_needed}
use Rattle.answers.specs.Spaces.{written}
use Rattle.runs.proofs.Results.{accepted_number, result_accepted, result_small, right_input, space_accepted, space_refused, zero_or}
use Rattle.runs.proofs.Runs.{answers_at, length_answers}
use Rattle.answers.proofs.Spaces.{answer_part, length_all, length-written}

-- ---- one answer of the model, read back from its bytes
module _ (B : Book) (p : WellFormed B) (L : List Entry) (a : Answer) where
  reads : Tells B L a → AnswerTells B L (answer_bytes a)
  reads t =
      let q = bytes_1 a ∙ t.status in
      let w = ((claim2 B p).0 L).failed in
      record {
        status = q;
        deep = bytes_2 a ∙ t.depth;
        done = bytes_4 a ∙ t.done;
        done_exactly = rw (q, bytes_4 a ∙ t.done) (done_exactly B L);
        byte_5 = bytes_5 a;
        failed = (λ y. w.0 (sym q ∙ y), λ x. q ∙ w.1 x);
      }

  module _ (small : (c : ℕ) → get_or a.shown c 0 < 2 ^ 32) (few : a.tries < 65536) where
    reads_state : ShowsState B L a → AnswerShowsState B L (answer_bytes a)
    unfolding has
    reads_state s =
        let t = bytes_6_7 a few ∙ s.tries in
        record {
          outcome = bytes_3 a ∙ s.outcome;
          no_tries = (omega (arith, t), omega (arith, t));
          stays = λ c v l.
              let d = domain_back a c l (small c) in (λ y. (s.stays c v).0 (sym (ap (bit v) d) ∙ y), λ y. ap (bit v) d ∙ (s.stays c v).1 y);
        }

    third : {X : Type 0} (k : ℕ) → (a.outcome ≡ k) ↔ X → (byte_at (answer_bytes a) 3 ≡ k) ↔ X
    third k w = (λ y. w.0 (sym (bytes_3 a) ∙ y), λ x. bytes_3 a ∙ w.1 x)

    -- no column of none
    zero_masks : a.shown ≡ tab (column_count B) (λ c. 0) → (c : ℕ) → get_or a.shown c 0 ≡ 0
    zero_masks e c = ap (λ (D : List ℕ). get_or D c 0) e ∙ tab_zeros (column_count B) c

    reads_first : ShowsFirst B L a → AnswerShowsFirst B L (answer_bytes a)
    reads_first s = record {
      found = third 1 s.found;
      not_found = third 2 s.not_found;
      first = λ x f c l.
          domain_back a c (omega (arith, p.few_columns)) (small c)
          ∙ ap (λ (D : List ℕ). get_or D c 0) (s.first x f)
          ∙ get_d_map (λ v. 2 ^ v) x c (rw f.solution.size l);
      zeros = λ n c l. domain_back a c l (small c) ∙ zero_masks (s.zeros n) c;
    }

    reads_finish : {n : ℕ} → ShowsFinish B L n a → AnswerShowsFinish B L n (answer_bytes a)
    reads_finish s = record {
      stopped = third 3 s.stopped;
      stopped_zeros = λ e c l. domain_back a c l (small c) ∙ zero_masks (s.stopped_zeros (sym (bytes_3 a) ∙ e)) c;
      stopped_tries = λ e. bytes_6_7 a few ∙ s.stopped_tries (sym (bytes_3 a) ∙ e);
      tries = λ k. bytes_6_7 a few ∙ s.tries (λ e. k (bytes_3 a ∙ e));
      not_stopped = λ k. reads_first (s.not_stopped (λ e. k (bytes_3 a ∙ e)));
      past = λ c k l. domain_back a c l (small c) ∙ past_masks c k (either (eqb a.outcome 3)) (opt (searched B (domains B L)).solution);
    }
      where
        past_masks : (c : ℕ) → column_count B ≤ c → (eqb a.outcome 3 ≡ true) ⊎ (eqb a.outcome 3 ≡ false)
            → ((searched B (domains B L)).solution ≡ none) ⊎ ((x : List ℕ) × ((searched B (domains B L)).solution ≡ some x)) → get_or a.shown c 0 ≡ 0
        past_masks c k (inl e) o = zero_masks (s.stopped_zeros (eqb-true _ 3 e)) c
        past_masks c k (inr e) (inl q) = zero_masks ((s.not_stopped (eqb-false _ 3 e)).zeros (((claim2 B p).0 L).not_found.0 q)) c
        past_masks c k (inr e) (inr q) =
            let f = (((claim2 B p).0 L).found q.0).0 q.1 in
            ap (λ (D : List ℕ). get_or D c 0) ((s.not_stopped (eqb-false _ 3 e)).first q.0 f) ∙ map_out (λ v. 2 ^ v) q.0 c (rw f.solution.size k)

-- the book of an accepted run is well-formed
pub formed : (b o : List ℕ) (room : ℕ) → run_refusal b o room ≡ 0 → WellFormed (book_of b)
formed b o room e = right_formed b (accepted_right b (right_input b o room e).book)

module _ (b o space : List ℕ) where
  -- ---- demand 1, of any run
  any_run : AnyRun b o space
  any_run = record {
    refused_run = λ l. space_refused b o space (λ e. omega (arith, result_small b o (length space) e));
    untouched = λ j l. rest j l (zero_or b o (length space));
    same_length = long (zero_or b o (length space));
    accepted_run = (λ l. accepted_number b o (length space) l, λ e. result_small b o (length space) e);
  }
    where
      as_long : length (answers (book_of b) (orders_of o)) ≡ length o / 8 + 1
      as_long = length_answers (book_of b) o (length o / 8)

      rest : (j : ℕ) → space_needed o ≤ j → (run_refusal b o (length space) ≡ 0) ⊎ (run_refusal b o (length space) ≡ 0 → ⊥) → byte_at (run_space b o space) j ≡ byte_at space j
      rest j l (inr n) = ap (λ (s : List ℕ). byte_at s j) (space_refused b o space n)
      rest j l (inl e) =
          let k : j ≡ length (all_bytes (answers (book_of b) (orders_of o))) + (j - space_needed o) = omega (arith, length_all (answers (book_of b) (orders_of o)), as_long) in
          let m : 72 * length (answers (book_of b) (orders_of o)) + (j - space_needed o) ≡ j = omega (arith, as_long) in
          ap (λ (s : List ℕ). byte_at s j) (space_accepted b o space e)
          ∙ ap (byte_at (written (answers (book_of b) (orders_of o)) space)) k
          ∙ get_or-append-add (all_bytes (answers (book_of b) (orders_of o))) (drop (72 * length (answers (book_of b) (orders_of o))) space) (j - space_needed o) 0
          ∙ get_or-drop (72 * length (answers (book_of b) (orders_of o))) space (j - space_needed o) 0
          ∙ ap (byte_at space) m

      long : (run_refusal b o (length space) ≡ 0) ⊎ (run_refusal b o (length space) ≡ 0 → ⊥) → length (run_space b o space) ≡ length space
      long (inr n) = ap length (space_refused b o space n)
      long (inl e) =
          ap length (space_accepted b o space e)
          ∙ length-written (answers (book_of b) (orders_of o)) space (omega (arith, as_long, (right_input b o (length space) e).enough))

  -- ---- an accepted run
  module _ (e : run_refusal b o (length space) ≡ 0) where
    abbrev bk : Book
    bk = book_of b

    abbrev n : ℕ
    n = length o / 8

    abbrev S : List ℕ
    S = run_space b o space

    abbrev T : ℕ → List Entry
    T i = standing b o i

    well : WellFormed bk
    well = formed b o (length space) e

    -- the trail after one order more
    stands_more : (i : ℕ) → T (i + 1) ≡ push bk (T i) (order_at o i)
    stands_more i = ap (trail bk) (orders_more o i) ∙ trail_snoc bk [] (orders_to o i) (order_at o i)

    no_orders : T 0 ≡ []
    unfolding tab trail_from
    no_orders = refl

    -- answer i as the model has it
    at : (i : ℕ) {a : Answer} → i ≤ n → get_or (answers bk (orders_of o)) i (opening bk) ≡ a → answer_at S i ≡ answer_bytes a
    at i l q =
        ap (λ (s : List ℕ). answer_at s i) (space_accepted b o space e)
        ∙ answer_part (answers bk (orders_of o)) space i (opening bk) (omega (arith, length_answers bk o n))
        ∙ ap answer_bytes q

    ordered : (i : ℕ) → i < n → answer_at S (i + 1) ≡ answer_bytes (answer bk (T i) (order_at o i))
    ordered i l = at (i + 1) (omega arith) (rw add-one (answers_at bk o n i (opening bk) l))

    opened : answer_at S 0 ≡ answer_bytes (opening bk)
    opened = at 0 (omega arith) refl

    -- of every answer: of the opening, and of one after each order
    each : (P : ℕ → Type 0) → P 0 → ((i : ℕ) → i < n → P (i + 1)) → (i : ℕ) → i ≤ n → P i
    each P z s zero l = z
    each P z s (suc i) l = let e : i + 1 ≡ suc i = omega arith in subst P e (s i (omega arith))

    refusals : (i : ℕ) → i < n → byte_at (answer_at S (i + 1)) 0 ≡ refusal bk (T i) (order_at o i)
    refusals i l = ap (λ (a : List ℕ). byte_at a 0) (ordered i l) ∙ (claim1 bk).byte_0 (T i) (order_at o i)

    unrefused : byte_at (answer_at S 0) 0 ≡ 0
    unfolding showing
    unrefused = ap (λ (a : List ℕ). byte_at a 0) opened ∙ bytes_0 (opening bk)

    -- ---- the count
    count_to : (m : ℕ) → accepted_count bk (orders_to o m) ≡ count m (λ i. is_accepted bk (T i) (order_at o i))
    unfolding count sum tab accepted_from
    count_to zero = refl
    count_to (suc m) =
        ap (accepted_count bk) (tab_last m (order_at o))
        ∙ accepted_snoc bk [] (orders_to o m) (order_at o m)
        ∙ ap (λ (k : ℕ). k + one_if (is_accepted bk (T m) (order_at o m))) (count_to m)
        ∙ sym (sum_last m (λ i. one_if (is_accepted bk (T i) (order_at o i))))

    counted : run_result b o (length space) ≡ count n (λ i. eqb (byte_at (answer_at S (i + 1)) 0) 0)
    unfolding count
    counted =
        result_accepted b o (length space) e
        ∙ count_to n
        ∙ sum_same n (λ i. one_if (is_accepted bk (T i) (order_at o i))) (λ i. one_if (eqb (byte_at (answer_at S (i + 1)) 0) 0))
        (λ i l. ap (λ (r : ℕ). one_if (eqb r 0)) (sym (refusals i l)))

    -- ---- the answers
    tells : (i : ℕ) → i ≤ n → AnswerTells bk (T i) (answer_at S i)
    tells =
        each (λ i. AnswerTells bk (T i) (answer_at S i)) (rw (no_orders, opened) (reads bk well [] (opening bk) (showing_tells bk [] 0 state_only)))
        (λ i l.
        rw (stands_more i, ordered i l) (reads bk well (push bk (T i) (order_at o i)) (answer bk (T i) (order_at o i)) (answer_tells bk (T i) (order_at o i))))

    -- order i + 1 is no accepted finish
    no_finish : (i : ℕ) → i < n → (IsFinish o S (i + 1) → ⊥) → AcceptedFinish bk (T i) (order_at o i) → ⊥
    no_finish i l f k =
        let q : i + 1 - 1 ≡ i = omega arith in f (record { ordered = omega arith; of_kind = rw q k.of_kind; accepted = refusals i l ∙ k.accepted })

    states : (i : ℕ) → i ≤ n → (IsFinish o S i → ⊥) → AnswerShowsState bk (T i) (answer_at S i)
    unfolding showing
    states =
        each (λ i. (IsFinish o S i → ⊥) → AnswerShowsState bk (T i) (answer_at S i))
        (λ f. rw (no_orders, opened) (reads_state bk well [] (opening bk) (domains_store bk []).bits (omega arith) (claim2 bk well).1.opened))
        (λ i l f.
        rw (stands_more i, ordered i l)
        (reads_state bk well (push bk (T i) (order_at o i)) (answer bk (T i) (order_at o i)) (shown_small bk well (T i) (order_at o i))
        (tries_small bk (T i) (order_at o i)) ((claim2 bk well).1.ordered (T i) (order_at o i) (no_finish i l f))))

    finishes : (i : ℕ) → i ≤ n → IsFinish o S i → AnswerShowsFinish bk (T i) (try_limit (order_at o (i - 1))) (answer_at S i)
    finishes =
        each (λ i. IsFinish o S i → AnswerShowsFinish bk (T i) (try_limit (order_at o (i - 1))) (answer_at S i)) (λ f. absurd (let z = f.ordered in omega arith))
        (λ i l f.
        let q : i + 1 - 1 ≡ i = omega arith in
        let k : kind (order_at o i) ≡ 4 = rw q at f.of_kind in
        rw (q, stands_more i, push_finish bk (T i) (order_at o i) k, ordered i l)
        (reads_finish bk well (T i) (answer bk (T i) (order_at o i)) (shown_small bk well (T i) (order_at o i)) (tries_small bk (T i) (order_at o i))
        ((claim2 bk well).1.finished (T i) (order_at o i) (record { of_kind = k; accepted = sym (refusals i l) ∙ f.accepted }))))

    accepted_run : AcceptedRun bk T o S n (run_result b o (length space))
    accepted_run = record {
      counted = counted;
      refusals = refusals;
      opened = unrefused;
      refused_order = λ i l q. stands_more i ∙ push_refused bk (T i) (order_at o i) (λ z. q (refusals i l ∙ z));
      tells = tells;
      states = states;
      finishes = finishes;
    }

-- ---- the claims
pub any_runs : AnyRuns
any_runs b o space = any_run b o space

pub accepted_runs : AcceptedRuns
accepted_runs b o space e = accepted_run b o space e
