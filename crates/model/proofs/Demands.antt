-- The claims of specs/Demands.antt, proved. Assumes nothing.
use mathlib.Core.Path.{◌≡◌, refl, sym, ap, ap₂, ◌∙◌, subst}
use mathlib.Core.Bool.{Bool, true, false, cond, not, ◌&&◌, ◌||◌, false≢true, true≢false}
use mathlib.Core.Logic.{◌⊎◌, inl, inr, ◌↔◌}
use mathlib.Core.Option.{none, some}
use mathlib.Core.List.{List, [], ◌∷◌, ◌++◌, map}
use Prim.Native.Nat.{ℕ, suc, ◌+◌, ◌-◌, ◌^◌, ◌≤◌, ◌<◌}
use native.Mathlib.Omega.{arith}
use lib.Dec.{eqb, leb}
use lib.ListN.{get_or, length}
use borrow.Author.Tests.{eq-eqb, le-ltb, lt-leb}
use Rattle.fields.specs.Bytes.{half_bytes}
use Rattle.model.specs.Tests.{all_below, one_if}
use Rattle.model.specs.Masks.{bit, mask_of, size}
use Rattle.model.specs.Stores.{has, Within, empty_store, all_filled}
use Rattle.model.specs.Choices.{Lower}
use Rattle.model.specs.Books.{Book, column_count, sheet_at, WellFormed, ConsistentStore, Stays, Fails, closure}
use Rattle.model.specs.Solutions.{FirstSolution}
use Rattle.model.specs.Search.{open_column, Searched, searched}
use Rattle.model.specs.Orders.{kind, argument, mask, try_limit, zero_places, some_wrong, Entry, narrowed, checkpoint, depth as depth_of, first_cause, outside, refusal, AcceptedFinish, push, allowed, domains}
use Rattle.model.specs.Answers.{assigned, status_of, Subsumed, subsumed, done_of, Outcome, state_only, found, not_found, stopped, outcome_number, outcome_tries, outcome_masks, limited, showing, answer, answers_from, accepted_from, domain_bytes, answer_bytes}
use Rattle.model.specs.Demands.{ChangesNothing, unrefused, unmasked, Demand2, ShowsState, ShowsFinish, EveryAnswer, DoneExactly, SameAllowed, SameFinish, finishing, Claim1, Claim2, ClaimTries}
use Rattle.model.proofs.Tests.{all_below_e, and_false, either}
use Rattle.model.proofs.Masks.{bit-mask_of, bit-mask_of_out, bit_of_zero}
use Rattle.model.proofs.Stores.{store_ext, empty_unfilled, filled_i}
use Rattle.model.proofs.Books.{stays_iff, fails_iff, closed_or_empty}
use Rattle.model.proofs.Solutions.{has_first, first_only, solution_mono, first_wider}
use Rattle.model.proofs.Search.{open_none, searched_empty, searched_found, searched_none, searched_open, searched_single}
use Rattle.model.proofs.Outcomes.{LimitedTo, is_found, is_none, is_stopped, limited_enough, limited_larger, limited_or}
use Rattle.model.proofs.Trails.{allowed_store, domains_store, domains_closed, domains_mono, narrowed_e}
use Rattle.model.proofs.Answers.{answer_finish, answer_other, answer_refused, bytes_0, bytes_6_on}
use Rattle.model.proofs.Subsumptions.{subsumed_iff}
use Rattle.model.proofs.Refusals.{refusal_depth, outside_none, refusal-narrow, accepted_narrow, push_refused, push-narrow}

-- ---- demand 1
-- a refused order changes nothing
refused_order : (b : Book) (L : List Entry) (o : List ℕ) → (refusal b L o ≡ 0 → ⊥) → ChangesNothing b L o
refused_order b L o n =
    let e : push b L o ≡ L = push_refused b L o n in
    record { same_trail = e; shows = answer_other b L o (λ f. n f.accepted) ∙ ap (λ (M : List Entry). showing b M (refusal b L o) state_only) e }

count-unrefused : (b : Book) (os : List (List ℕ)) (L : List Entry) → accepted_from b L os ≡ unrefused (answers_from b L os)
unfolding accepted_from answers_from unrefused
count-unrefused b [] L = refl
count-unrefused b (o ∷ os) L =
    ap₂ (λ (r n : ℕ). one_if (eqb r 0) + n) (sym (answer_refused b L o)) (count-unrefused b os (push b L o))

mask_0_accepted : (b : Book) (L : List Entry) (o : List ℕ) → kind o ≡ 1 → some_wrong (zero_places 1) o ≡ false → argument o < column_count b → mask o ≡ 0
    → refusal b L o ≡ 0
unfolding first_cause
mask_0_accepted b L o k n l z =
    refusal-narrow b L o (rw k n) k ∙ rw (lt-leb (column_count b) (argument o) l, outside_0)
  where
    no_bit : (v : ℕ) → (leb (get_or b.counts (argument o) 0) v && bit v (mask o)) ≡ false
    no_bit v =
        ap (λ (t : Bool). leb (get_or b.counts (argument o) 0) v && t) (ap (bit v) z ∙ bit_of_zero v)
        ∙ and_false (leb (get_or b.counts (argument o) 0) v)

    outside_0 : outside b (argument o) (mask o) ≡ false
    outside_0 = outside_none b (argument o) (mask o) no_bit

-- the masks do not count
depth_unmasked : (L : List Entry) → depth_of (unmasked L) ≡ depth_of L
unfolding unmasked depth_of
depth_unmasked [] = refl
depth_unmasked (narrowed c m ∷ L) = depth_unmasked L
depth_unmasked (checkpoint ∷ L) = ap suc (depth_unmasked L)

pub claim1 : Claim1
claim1 b =
    record {
      refused = refused_order b;
      by_list = λ L M o e. refusal_depth b L M o (sym (depth_unmasked L) ∙ ap depth_of e ∙ depth_unmasked M);
      mask_0 = mask_0_accepted b;
      byte_0 = λ L o. bytes_0 (answer b L o) ∙ answer_refused b L o;
      counted = λ os. count-unrefused b os [];
    }

-- ---- demand 2
-- status 0: some column is empty
status_0_e : (b : Book) (D : List ℕ) → status_of b D ≡ 0 → all_filled (column_count b) D ≡ false
unfolding status_of
status_0_e b D e = go (either (all_filled (column_count b) D)) (either (assigned b D))
  where
    go : (all_filled (column_count b) D ≡ true) ⊎ (all_filled (column_count b) D ≡ false) → (assigned b D ≡ true) ⊎ (assigned b D ≡ false)
        → all_filled (column_count b) D ≡ false
    go (inr q) r = q
    go (inl p) (inl r) = let z : ◌≡◌ {A = ℕ} 2 0 = rw (p, r) at e in absurd (omega arith)
    go (inl p) (inr r) = let z : ◌≡◌ {A = ℕ} 1 0 = rw (p, r) at e in absurd (omega arith)

-- status 2: each column holds one value
status_2_e : (b : Book) (D : List ℕ) → status_of b D ≡ 2
    → (all_filled (column_count b) D ≡ true) × (all_below (column_count b) (λ c. eqb (size (get_or D c 0)) 1) ≡ true)
unfolding status_of assigned
status_2_e b D e = go (either (all_filled (column_count b) D)) (either (assigned b D))
  where
    go : (all_filled (column_count b) D ≡ true) ⊎ (all_filled (column_count b) D ≡ false) → (assigned b D ≡ true) ⊎ (assigned b D ≡ false)
        → (all_filled (column_count b) D ≡ true) × (assigned b D ≡ true)
    go (inl p) (inl r) = (p, r)
    go (inl p) (inr r) = let z : ◌≡◌ {A = ℕ} 1 2 = rw (p, r) at e in absurd (omega arith)
    go (inr p) r = let z : ◌≡◌ {A = ℕ} 0 2 = rw p at e in absurd (omega arith)

status_0_i : (b : Book) (D : List ℕ) → all_filled (column_count b) D ≡ false → status_of b D ≡ 0
unfolding status_of
status_0_i b D e = rw e

module _ (b : Book) (p : WellFormed b) (L : List Entry) where
  domains_empty_iff : (domains b L ≡ empty_store (column_count b)) ↔ Fails b (allowed b L)
  unfolding domains
  domains_empty_iff = fails_iff b p (allowed b L) (allowed_store b L)

  domains_consistent_or_empty : ConsistentStore b (domains b L) ⊎ (domains b L ≡ empty_store (column_count b))
  unfolding domains
  domains_consistent_or_empty = closed_or_empty b p (allowed b L) (allowed_store b L)

  failed_status_iff : (status_of b (domains b L) ≡ 0) ↔ Fails b (allowed b L)
  failed_status_iff = (λ e. to (status_0_e b (domains b L) e) domains_consistent_or_empty, from)
    where
      to : all_filled (column_count b) (domains b L) ≡ false
          → ConsistentStore b (domains b L) ⊎ (domains b L ≡ empty_store (column_count b)) → Fails b (allowed b L)
      to e (inl h) = absurd (true≢false (sym (filled_i (column_count b) (domains b L) (domains_store b L) h.filled) ∙ e))
      to e (inr q) = domains_empty_iff.0 q

      from : Fails b (allowed b L) → status_of b (domains b L) ≡ 0
      from f =
          status_0_i b (domains b L)
          (ap (all_filled (column_count b)) (domains_empty_iff.1 f) ∙ empty_unfilled (column_count b) p.some_column)

  stays_in_domains : (c v : ℕ) → (has (domains b L) c v ≡ true) ↔ Stays b (allowed b L) c v
  unfolding domains
  stays_in_domains c v = stays_iff b p (allowed b L) (allowed_store b L) c v

  demand2 : Demand2 b L
  demand2 =
      record {
        stays = stays_in_domains;
        failed = failed_status_iff;
        empty = domains_empty_iff;
        found = searched_found b p (domains b L) (domains_store b L) (domains_closed b L);
        not_found = searched_none b p (domains b L) (domains_store b L) (domains_closed b L);
        failed_finish = λ f. searched_empty b p (domains b L) (domains_store b L) (status_0_e b (domains b L) (failed_status_iff.1 f));
        decided_finish = λ e.
            let s = status_2_e b (domains b L) e in
            searched_single b p (domains b L) (domains_store b L) s.0
            (open_none (column_count b) (domains b L) (all_below_e (column_count b) (λ c. eqb (size (get_or (domains b L) c 0)) 1) s.1));
      }

-- ---- demand 2 at every answer
showing_state : (b : Book) → WellFormed b → (L : List Entry) (r : ℕ) → ShowsState b L (showing b L r state_only)
unfolding showing
showing_state b p L r = record { stays = stays_in_domains b p L; failed = failed_status_iff b p L; outcome = refl; tries = refl }

-- a finish with the limit n
module _ (b : Book) (p : WellFormed b) (L : List Entry) (n : ℕ) where
  abbrev now : List ℕ
  now = domains b L

  abbrev g : Searched
  g = searched b (domains b L)

  first : (x : List ℕ) → ((searched b (domains b L)).solution ≡ some x) ↔ FirstSolution b (domains b L) x
  first = searched_found b p now (domains_store b L) (domains_closed b L)

  shows_found : (x : List ℕ) → g.solution ≡ some x → g.tries ≤ n → ShowsFinish b L n (showing b L 0 (found x g.tries))
  unfolding showing
  shows_found x e l =
      record {
        stopped = (λ z. absurd (omega arith), λ m. absurd (omega arith));
        stopped_zeros = λ z. absurd (omega arith);
        stopped_tries = λ z. absurd (omega arith);
        tries = λ k. refl;
        not_stopped = λ k.
            record {
              found = (λ z. (x, ((first x).0 e).solution), λ s. refl);
              first = λ y f. ap (map (λ v. 2 ^ v)) (first_only b now x y ((first x).0 e) f);
              not_found = (λ z. absurd (omega arith), λ m. absurd (m.none x ((first x).0 e).solution));
              zeros = λ m. absurd (m.none x ((first x).0 e).solution);
            };
        failed = failed_status_iff b p L;
      }

  shows_none : g.solution ≡ none → g.tries ≤ n → ShowsFinish b L n (showing b L 0 (not_found g.tries))
  unfolding showing
  shows_none e l =
      let m = (searched_none b p now (domains_store b L) (domains_closed b L)).0 e in
      record {
        stopped = (λ z. absurd (omega arith), λ k. absurd (omega arith));
        stopped_zeros = λ z. absurd (omega arith);
        stopped_tries = λ z. absurd (omega arith);
        tries = λ k. refl;
        not_stopped = λ k.
            record {
              found = (λ z. absurd (omega arith), λ s. absurd (m.none s.0 s.1));
              first = λ y f. absurd (m.none y f.solution);
              not_found = (λ z. m, λ z. refl);
              zeros = λ z. refl;
            };
        failed = failed_status_iff b p L;
      }

  shows_stopped : n < g.tries → ShowsFinish b L n (showing b L 0 (stopped n))
  unfolding showing
  shows_stopped l =
      record {
        stopped = (λ z. l, λ m. refl);
        stopped_zeros = λ z. refl;
        stopped_tries = λ z. refl;
        tries = λ k. absurd (k refl);
        not_stopped = λ k. absurd (k refl);
        failed = failed_status_iff b p L;
      }

  showing-finish : ShowsFinish b L n (showing b L 0 (limited n (searched b (domains b L))))
  showing-finish = go (limited_or n g)
    where
      go : LimitedTo n (searched b (domains b L)) → ShowsFinish b L n (showing b L 0 (limited n (searched b (domains b L))))
      go (is_found x t e s l) = rw (e, l.0) (shows_found x s (rw l.0 at l.1))
      go (is_none t e s l) = rw (e, l.0) (shows_none s (rw l.0 at l.1))
      go (is_stopped e l) = rw e (shows_stopped l)

-- a narrow to mask 0 allows no value in its column
mask_0_fails : (b : Book) (L : List Entry) (o : List ℕ) → kind o ≡ 1 → refusal b L o ≡ 0 → mask o ≡ 0 → Fails b (allowed b (push b L o))
mask_0_fails b L o k e z =
    record {
      none = λ B h w.
          let r = h.filled (argument o) (accepted_narrow b L o k e) in
          gone r.0 (subst (λ (M : List Entry). has (allowed b M) (argument o) r.0 ≡ true) (push-narrow b L o k e) (w.at (argument o) r.0 r.1));
    }
  where
    gone : (v : ℕ) → has (allowed b (L ++ (narrowed (argument o) (mask o) ∷ []))) (argument o) v ≡ true → ⊥
    gone v h =
        false≢true
        (sym (bit_of_zero v)
        ∙ ap (bit v) (sym z)
        ∙ sym (ap (λ (t : Bool). not t || bit v (mask o)) (eq-eqb (argument o) (argument o) refl))
        ∙ (narrowed_e b L (argument o) (mask o) (argument o) v h).1)

every_answer : (b : Book) → WellFormed b → EveryAnswer b
every_answer b p =
    record {
      opened = showing_state b p [] 0;
      ordered = λ L o n. rw (answer_other b L o n) (showing_state b p (push b L o) (refusal b L o));
      finished = λ L o f. rw (answer_finish b L o f) (showing-finish b p L (try_limit o));
      mask_0 = mask_0_fails b;
    }

pub claim2 : Claim2
claim2 b p = (demand2 b p, every_answer b p)

-- ---- equal allowed values
pub same_domains : (b : Book) (L M : List Entry) → SameAllowed b L M → domains b L ≡ domains b M
unfolding domains
same_domains b L M h =
    ap (closure b) (store_ext (column_count b) (allowed b L) (allowed b M) (allowed_store b L) (allowed_store b M) (λ c v p q. h.at c v))

-- "equal counts": lists that allow the same are each narrower than the other
pub same_narrower : (b : Book) (L M : List Entry) → SameAllowed b L M → Within (allowed b L) (allowed b M)
same_narrower b L M h = record { at = λ c v e. sym (h.at c v) ∙ e }

-- two finishes that show the same, over equal domains
pub finish_same : (b : Book) (L M : List Entry) (o q : List ℕ) → domains b L ≡ domains b M → AcceptedFinish b L o → AcceptedFinish b M q
    → finishing b L (try_limit o) ≡ finishing b M (try_limit q) → SameFinish (answer_bytes (answer b L o)) (answer_bytes (answer b M q))
unfolding answer_bytes showing
finish_same b L M o q e f g same =
    let u = showing b L 0 (finishing b L (try_limit o)) in
    let v = showing b M 0 (finishing b M (try_limit q)) in
    rw (answer_finish b L o f, answer_finish b M q g)
    (record {
      byte_1 = ap (status_of b) e;
      byte_3 = ap outcome_number same;
      byte_4 = ap (done_of b) e;
      bytes_6_to_71 = λ i l m.
          bytes_6_on u i l
          ∙ ap₂ (λ (D : List ℕ) (x : Outcome). get_or (half_bytes (outcome_tries x) ++ domain_bytes (outcome_masks (column_count b) D x) 16) (i - 6) 0) e same
          ∙ sym (bytes_6_on v i l);
    })

-- ---- done
module _ (b : Book) (L : List Entry) where
  abbrev D : List ℕ
  D = domains b L

  abbrev filled : Bool
  filled = all_filled (column_count b) (domains b L)

  abbrev bits : ℕ
  bits = mask_of (length b.sheets) (λ s. subsumed (domains b L) (sheet_at b s))

  alive : (t : Bool) → ◌≡◌ {A = ℕ} (cond t 2 1) 0 → ⊥
  alive true z = omega arith
  alive false z = omega arith

  pub done_exactly : DoneExactly b (domains b L) (status_of b (domains b L)) (done_of b (domains b L))
  unfolding done_of status_of
  done_exactly = record { each_sheet = λ s l. each_sheet s l (either filled); past = λ s l. past s l (either filled) }
    where
      each_sheet : (s : ℕ) → s < length b.sheets → (filled ≡ true) ⊎ (filled ≡ false)
          → (bit s (cond filled bits 0) ≡ true) ↔ ((◌≡◌ {A = ℕ} (cond filled (cond (assigned b D) 2 1) 0) 0 → ⊥) × Subsumed D (sheet_at b s))
      each_sheet s l (inl e) =
          let k = subsumed_iff D (domains_store b L).bits (sheet_at b s) in
          let same = bit-mask_of (length b.sheets) (λ s. subsumed D (sheet_at b s)) s l in
          rw e (λ p. (alive (assigned b D), k.0 (sym same ∙ p)), λ p. same ∙ k.1 p.1)
      each_sheet s l (inr e) = rw e (λ p. absurd (false≢true (sym (bit_of_zero s) ∙ p)), λ p. absurd (p.0 refl))

      past : (s : ℕ) → length b.sheets ≤ s → (filled ≡ true) ⊎ (filled ≡ false) → bit s (cond filled bits 0) ≡ false
      past s l (inl e) = rw e (bit-mask_of_out (length b.sheets) (λ s. subsumed D (sheet_at b s)) s l)
      past s l (inr e) = rw e (bit_of_zero s)

-- the wider's first solution is the same as the narrower's or lower
pub wider_first : (b : Book) (L M : List Entry) → Within (allowed b L) (allowed b M) → (x : List ℕ) → FirstSolution b (domains b L) x
    → (y : List ℕ) × FirstSolution b (domains b M) y × ((y ≡ x) ⊎ Lower y x)
wider_first b L M w x f =
    let y = has_first b (domains b M) (domains_store b M) x (solution_mono b (domains b L) (domains b M) x (domains_mono b L M w) f.solution) in
    (y.0, y.1, first_wider b (domains b L) (domains b M) x y.0 (domains_mono b L M w) f y.1)

-- ---- tries for a finish
pub claim_tries : ClaimTries
claim_tries b p = (
  record {
    larger_limit = λ L n m. limited_larger n m (searched b (domains b L));
    enough = λ L n. limited_enough n (searched b (domains b L));
    same_finish = λ L M h n. ap (λ (D : List ℕ). limited n (searched b D)) (same_domains b L M h);
    wider_first = λ L M w x e.
        let f = (searched_found b p (domains b L) (domains_store b L) (domains_closed b L) x).0 e in
        let y = wider_first b L M w x f in
        (y.0, (searched_found b p (domains b M) (domains_store b M) (domains_closed b M) y.0).1 y.1, y.2);
  },
  λ D d.
      record {
        failed = searched_empty b p D d;
        single = λ e q. searched_single b p D d e (le-ltb (open_column (column_count b) D) (column_count b) (omega arith));
        many = searched_open b p D d;
      },
)
