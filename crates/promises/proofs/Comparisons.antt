-- Two whole lists compared: the claims of specs/Promises.antt about two runs, and of specs/Comparisons.antt, proved. Assumes nothing.
use mathlib.Core.Path.{◌∙◌, ◌≡◌, ap, refl, sym}
use mathlib.Core.Bool.{false}
use mathlib.Core.Logic.{◌⊎◌}
use mathlib.Core.List.{List, [], ◌++◌}
use Prim.Native.Nat.{◌%◌, ◌/◌, ◌<◌, ◌^◌, ℕ}
use native.Mathlib.Omega.{arith}
use lib.ListN.{get_or, length, length-append, replicate, length-replicate}
use lib.Seq.{ext_get_or}
use Rattle.fields.specs.Bytes.{byte_at}
use Rattle.model.specs.Answers.{Answer, answer, answer_at, answer_bytes, done_of, domain_in, last_answer, opening, outcome_number, showing, state_only, status_of}
use Rattle.model.specs.Books.{Book, WellFormed, column_count}
use Rattle.model.specs.Choices.{Lower}
use Rattle.model.specs.Demands.{SameFinish, ShowsFinish, ShowsFirst, finishing}
use Rattle.model.specs.Orders.{AcceptedFinish, Entry, allowed, domains, kind, refusal, try_limit}
use Rattle.model.specs.Search.{value_of}
use Rattle.model.specs.Solutions.{FirstSolution, Solution}
use Rattle.model.specs.Stores.{Within, has}
use Rattle.model.proofs.Answers.{Tells, answer_finish, bytes_1, bytes_3, bytes_4, domain_back, last_tells, showing_tells, shown_small}
use Rattle.model.proofs.Demands.{claim1, claim2, claim_tries, finish_same, same_domains, wider_first}
use Rattle.model.proofs.Refusals.{refusal_finish}
use Rattle.model.proofs.Search.{get_d_map, value_pow}
use Rattle.model.proofs.Solutions.{first_same, has_first, solution_mono}
use Rattle.model.proofs.Stores.{in_store, within_trans}
use Rattle.model.proofs.Tests.{get_or-tab, length-tab}
use Rattle.model.proofs.Trails.{domains_mono, domains_store, last_snoc}
use Rattle.book.specs.Decoding.{book_of}
use Rattle.book.specs.Verdicts.{Accepted}
use Rattle.sessions.specs.Holds.{Holds}
use Rattle.sessions.specs.Lists.{orders_of}
use Rattle.sessions.specs.declared.session.Session.{Session}
use Rattle.sessions.proofs.Lists.{orders_append}
use Rattle.promises.specs.Comparisons.{BothRan, Demand3, ListRan, current}
use Rattle.promises.specs.Promises.{AcceptedNext, EndsWith, EqualEnds, NarrowerEnd, NextFinish, RunsCompare, set_in, standing_after}
use Rattle.runs.specs.Results.{RightInput, space_needed, wrong_list}
use Rattle.runs.specs.Runs.{RanTo}
use Rattle.promises.proofs.Promises.{formed}
use Rattle.runs.proofs.Results.{right_input, right_zero, space_accepted, whole_list}
use Rattle.runs.proofs.Runs.{last_part}

-- ---- last answers
module _ (b : List ℕ) where
  abbrev bk : Book
  bk = book_of b

  ends_last : {o a : List ℕ} → EndsWith b o a → a ≡ answer_bytes (last_answer bk (orders_of o))
  ends_last {o} {a} e =
      e.last ∙ ap (λ (S : List ℕ). answer_at S (length o / 8)) (space_accepted b o e.space e.accepted) ∙ last_part bk o e.space

  -- every right list has a last answer, so the claims speak of something
  pub ends_some : (o : List ℕ) → Accepted b → wrong_list o ≡ false → (a : List ℕ) × EndsWith b o a
  ends_some o acc right =
      let space : List ℕ = replicate (space_needed o) 0 in
      let right-space : RightInput b o (length space) = record { book = acc; list = right; enough = omega (arith, length-replicate {A = ℕ} (space_needed o) 0) } in
      (_, record { space = space; accepted = right_zero b o (length space) right-space; last = refl })

  -- the answer to an order that is given next
  next_last : (x f : List ℕ) {a : List ℕ} → length f ≡ 8 → EndsWith b (x ++ f) a → a ≡ answer_bytes (answer bk (standing_after b x) f)
  next_last x f n e =
      let whole = whole_list (x ++ f) (right_input b (x ++ f) (length e.space) e.accepted).list in
      let k : length x % 8 ≡ 0 = omega (arith, whole, length-append x f, n) in
      ends_last e ∙ ap answer_bytes (ap (last_answer bk) (orders_append x f k n) ∙ last_snoc bk [] (opening bk) (orders_of x) f)

  tells : (o : List ℕ) → Tells bk (standing_after b o) (last_answer bk (orders_of o))
  tells o = last_tells bk (orders_of o) [] (opening bk) (showing_tells bk [] 0 state_only)

  says_status : {o a : List ℕ} → EndsWith b o a → byte_at a 1 ≡ status_of bk (domains bk (standing_after b o))
  says_status {o} e = ap (λ (l : List ℕ). byte_at l 1) (ends_last e) ∙ bytes_1 (last_answer bk (orders_of o)) ∙ (tells o).status

  says_done : {o a : List ℕ} → EndsWith b o a → byte_at a 4 ≡ done_of bk (domains bk (standing_after b o))
  says_done {o} e = ap (λ (l : List ℕ). byte_at l 4) (ends_last e) ∙ bytes_4 (last_answer bk (orders_of o)) ∙ (tells o).done

  -- ---- a finish f, and its answer a when L stands
  module _ (f : List ℕ) (k : kind f ≡ 4) where
    says_refusal : (L : List Entry) {a : List ℕ} → a ≡ answer_bytes (answer bk L f) → byte_at a 0 ≡ refusal bk L f
    says_refusal L e = ap (λ (l : List ℕ). byte_at l 0) e ∙ (claim1 bk).byte_0 L f

    -- it is refused by its bytes alone
    pub refused_alike : (L M : List Entry) → refusal bk L f ≡ refusal bk M f
    refused_alike L M = refusal_finish bk L f k ∙ sym (refusal_finish bk M f k)

    finish_of : (L : List Entry) → refusal bk L f ≡ 0 → AcceptedFinish bk L f
    finish_of L z = record { of_kind = k; accepted = z }

    module _ (p : WellFormed bk) (L : List Entry) {a : List ℕ} (e : a ≡ answer_bytes (answer bk L f)) (z : refusal bk L f ≡ 0) where
      shows : ShowsFinish bk L (try_limit f) (answer bk L f)
      shows = (claim2 bk p).1.finished L f (finish_of L z)

      third : byte_at a 3 ≡ (answer bk L f).outcome
      third = ap (λ (l : List ℕ). byte_at l 3) e ∙ bytes_3 (answer bk L f)

      -- it isn't stopped: what is shown is what there is
      module _ (ended : byte_at a 3 ≡ 3 → ⊥) where
        first : ShowsFirst bk L (answer bk L f)
        first = shows.not_stopped (λ y. ended (third ∙ y))

        -- the set shown is the first solution
        set_first : (x : List ℕ) → FirstSolution bk (domains bk L) x → set_in b a ≡ x
        set_first x s =
            ext_get_or 0 (set_in b a) x (long ∙ sym s.solution.size) (λ c l. let m : c < column_count bk = rw long at l in get_or-tab 0 (column_count bk) _ c m ∙ at c m)
          where
            long : length (set_in b a) ≡ column_count bk
            long = length-tab (column_count bk) (λ c. value_of (domain_in a c))

            at : (c : ℕ) → c < column_count bk → value_of (domain_in a c) ≡ get_or x c 0
            at c m =
                ap value_of
                (ap (λ (l : List ℕ). domain_in l c) e
                ∙ domain_back (answer bk L f) c (omega (arith, p.few_columns)) (shown_small bk p L f c)
                ∙ ap (λ (D : List ℕ). get_or D c 0) (first.first x s)
                ∙ get_d_map (λ v. 2 ^ v) x c (rw s.solution.size m))
                ∙ value_pow (get_or x c 0) (in_store (column_count bk) (domains bk L) (domains_store bk L) c (get_or x c 0) (s.solution.takes c m)).1

-- ---- demand 3, of the answers
-- the wider's first solution beside the narrower's
firsts : (b : List ℕ) (L M : List Entry) → Within (allowed (book_of b) L) (allowed (book_of b) M) → (v : List ℕ) → Solution (book_of b) (domains (book_of b) L) v
    → (w : List ℕ) × (z : List ℕ) × FirstSolution (book_of b) (domains (book_of b) L) w × FirstSolution (book_of b) (domains (book_of b) M) z × ((z ≡ w) ⊎ Lower z w)
firsts b L M w v f =
    let u = has_first (book_of b) (domains (book_of b) L) (domains_store (book_of b) L) v f in
    let z = wider_first (book_of b) L M w u.0 u.1 in
    (u.0, z.0, u.1, z.1, z.2)

module _ (b x : List ℕ) {f a : List ℕ} where
  -- the answer to the finish that is given next, and that it is accepted
  answered : NextFinish b x f a → a ≡ answer_bytes (answer (book_of b) (standing_after b x) f)
  answered n = next_last b x f n.bytes n.ends

  let_in : AcceptedNext b x f a → refusal (book_of b) (standing_after b x) f ≡ 0
  let_in n = sym (says_refusal b f n.next.of_kind (standing_after b x) (answered n.next)) ∙ n.accepted

  taken : AcceptedNext b x f a → AcceptedFinish (book_of b) (standing_after b x) f
  taken n = finish_of b f n.next.of_kind (standing_after b x) (let_in n)

  well : NextFinish b x f a → WellFormed (book_of b)
  well n = formed b (x ++ f) (length n.ends.space) n.ends.accepted

  -- byte 3 is the number of what is shown
  unstopped : AcceptedNext b x f a → (byte_at a 3 ≡ 3 → ⊥) → outcome_number (finishing (book_of b) (standing_after b x) (try_limit f)) ≡ 3 → ⊥
  unfolding showing
  unstopped n k e =
      k
      (third b f n.next.of_kind (well n.next) (standing_after b x) (answered n.next) (let_in n)
      ∙ ap (λ (r : Answer). r.outcome) (answer_finish (book_of b) (standing_after b x) f (taken n))
      ∙ e)

pub runs_compare : RunsCompare
runs_compare b x y = record {
  same_status = λ h a d p q. says_status b p ∙ ap (status_of (book_of b)) (same_domains (book_of b) L M h) ∙ sym (says_status b q);
  same_done = λ h a d p q. says_done b p ∙ ap (done_of (book_of b)) (same_domains (book_of b) L M h) ∙ sym (says_done b q);
  same_refusal = λ f a d n m.
      says_refusal b f n.of_kind L (answered b x n) ∙ refused_alike b f n.of_kind L M ∙ sym (says_refusal b f n.of_kind M (answered b y m));
  same_finish = λ h f g a d n m e.
      alike h n m ((claim_tries (book_of b) (well b x n.next)).0.same_finish L M h (try_limit f) ∙ ap (finishing (book_of b) M) e);
  larger_limit = λ h f g a d n m l k.
      let c = (claim_tries (book_of b) (well b x n.next)).0 in
      alike h n m (sym (c.larger_limit L (try_limit f) (try_limit g) l (unstopped b x n k)) ∙ c.same_finish L M h (try_limit g));
  wider_first = λ w v s. firsts b L M w v s;
  wider_found = λ w f g a d n m i k.
      let s = first b f n.next.of_kind (well b x n.next) L (answered b x n.next) (let_in b x n) (λ e. one_three (sym i ∙ e)) in
      let v = s.found.0 (sym (third b f n.next.of_kind (well b x n.next) L (answered b x n.next) (let_in b x n)) ∙ i) in
      let u = firsts b L M w v.0 v.1 in
      let t = first b g m.next.of_kind (well b y m.next) M (answered b y m.next) (let_in b y m) k in (
        third b g m.next.of_kind (well b y m.next) M (answered b y m.next) (let_in b y m) ∙ t.found.1 (u.1, u.3.solution),
        rw (
          set_first b f n.next.of_kind (well b x n.next) L (answered b x n.next) (let_in b x n) (λ e. one_three (sym i ∙ e)) u.0 u.2,
          set_first b g m.next.of_kind (well b y m.next) M (answered b y m.next) (let_in b y m) k u.1 u.3,
        ) u.4,
      );
}
  where
    L : List Entry
    L = standing_after b x

    M : List Entry
    M = standing_after b y

    one_three : ◌≡◌ {A = ℕ} 1 3 → ⊥
    one_three e = omega arith

    alike : {f g a d : List ℕ} → EqualEnds b x y → AcceptedNext b x f a → AcceptedNext b y g d
        → finishing (book_of b) L (try_limit f) ≡ finishing (book_of b) M (try_limit g) → SameFinish a d
    alike {f} {g} h n m e =
        rw (answered b x n.next, answered b y m.next)
        (finish_same (book_of b) L M f g (same_domains (book_of b) L M h) (taken b x n) (taken b y m) e)

-- ---- demand 3, whole
module _ (b x y : List ℕ) {s t : Session} (p : Holds b (standing_after b x) s) (q : Holds b (standing_after b y) t) where
  -- the session's domains are those of its trail
  to : {L : List Entry} {u : Session} → Holds b L u → Within (current u) (domains (book_of b) L)
  unfolding has
  to h = record { at = λ c v e. rw (← h.current.holds.domain c) e }

  from : {L : List Entry} {u : Session} → Holds b L u → Within (domains (book_of b) L) (current u)
  unfolding has
  from h = record { at = λ c v e. rw (h.current.holds.domain c) e }

  abbrev L : List Entry
  L = standing_after b x

  abbrev M : List Entry
  M = standing_after b y

  inner : NarrowerEnd b x y → Within (current s) (current t)
  inner w = within_trans (to p) (within_trans (domains_mono (book_of b) L M w) (from q))

  pub demand3 : Demand3 b x y s t
  demand3 = record {
    answers = runs_compare b x y;
    same_domains = λ h c.
        p.current.holds.domain c ∙ ap (λ (D : List ℕ). get_or D c 0) (same_domains (book_of b) L M h) ∙ sym (q.current.holds.domain c);
    narrower_within = inner;
    wider_first = λ w v f.
        let u = firsts b L M w v (solution_mono (book_of b) (current s) (domains (book_of b) L) v (to p) f) in (
          u.0,
          u.1,
          first_same (book_of b) (domains (book_of b) L) (current s) u.0 (from p) (to p) u.2,
          first_same (book_of b) (domains (book_of b) M) (current t) u.1 (from q) (to q) u.3,
          u.4,
        );
  }

-- what the run's loop leaves, of a whole list
pub list_ran : {b o old : List ℕ} {s : Session} {k : ℕ} {space : List ℕ} → RightInput b o (length old) → RanTo b o old (length o / 8) s k space → ListRan b o old s space
list_ran {b} {o} {old} r h =
    record { led = h.led; holds = h.holds; wrote = h.wrote ∙ sym (space_accepted b o old (right_zero b o (length old) r)) }

pub both_ran : {b x y old old' : List ℕ} {s t : Session} {space space' : List ℕ} → ListRan b x old s space → ListRan b y old' t space' → BothRan b x y old old' s t space space'
both_ran {b} {x} {y} p q = record { left = p; right = q; compared = demand3 b x y p.holds q.holds }
