-- Twins answer alike: closure, search and refusals go by the columns and by what the sheets allow. Why a sheet allows something is not
-- looked into. Assumes nothing.
use mathlib.Core.Path.{◌≡◌, refl, sym, ap, ap₂, ◌∙◌}
use mathlib.Core.Bool.{Bool, true, false, cond, not, ◌&&◌, ◌||◌}
use mathlib.Core.Logic.{◌⊎◌, inl, inr}
use mathlib.Core.List.{List, [], ◌∷◌}
use Prim.Native.Nat.{ℕ, zero, suc, ◌+◌, ◌<◌}
use lib.Dec.{eqb, ltb}
use lib.ListN.{length, get_or}
use borrow.Author.Tests.{ltb-true}
use Rattle.model.specs.Tests.{any_in, one_if}
use Rattle.model.specs.Masks.{mask_of}
use Rattle.model.specs.Stores.{has, Within, IsStore, assign, all_filled, values}
use Rattle.model.specs.Choices.{pick, Takes, any_choice, every_choice}
use Rattle.model.specs.Books.{Sheet, Book, column_count, sheet_at, allows, WellFormed, supports, supported_in, supported, closure}
use Rattle.model.specs.Search.{after, open_column, Searched, search_from, searched}
use Rattle.model.specs.Orders.{Entry, by_kind, kind, try_limit, depth, outside, refusal, is_accepted, push, permits, allowed, domains}
use Rattle.model.specs.Answers.{assigned, status_of, subsumed, done_of, Answer, Outcome, state_only, outcome_number, outcome_tries, outcome_masks, limited, outcome, showing, answer, answers_from, answers, accepted_from, accepted_count}
use Rattle.model.specs.Twins.{Combination, TwinSheets, Twins, TwinsAnswer}
use Rattle.model.proofs.Tests.{and_l, all_in_same, either}
use Rattle.model.proofs.Masks.{mask_of_same}
use Rattle.model.proofs.Stores.{has_e, within_refl, within_trans, assign_e, assign_store}
use Rattle.model.proofs.Closure.{closure_same}
use Rattle.model.proofs.Choices.{any_choice_same, every_choice_same, length-pick, pick_e}
use Rattle.model.proofs.Books.{supported_mono}
use Rattle.model.proofs.Search.{after_inside, after_store, search_assigned, search_failed, search_open, try_each_same}
use Rattle.model.proofs.Trails.{allowed_store, domains_store, domains_within}

-- ---- what is allowed is below V, so only combinations are met
module _ (b : Book) (L : List Entry) where
  allowed_below : (c v : ℕ) → has (allowed b L) c v ≡ true → v < get_or b.counts c 0
  unfolding allowed
  allowed_below c v e =
      ltb-true v (get_or b.counts c 0) (and_l _ _ (has_e (column_count b) (λ c v. ltb v (get_or b.counts c 0) && permits L c v) c v e).2)

  -- a choice from the domains of these columns
  choice_combination : (B : List ℕ) → Within B (allowed b L) → (cs x : List ℕ) → Takes (pick B cs) x → Combination b.counts cs x
  choice_combination B w cs x t =
      record {
        size = t.size ∙ length-pick B cs;
        each = λ i l.
            allowed_below (get_or cs i 0) (get_or x i 0) (w.at _ _ (pick_e B cs i (get_or x i 0) (t.each i (rw (length-pick B cs) l))).1);
      }

  -- ---- a sheet and its twin
  supported_in_twin : (s t : Sheet) → TwinSheets b.counts s t → (B : List ℕ) → Within B (allowed b L) → (c v : ℕ)
      → supported_in B c v s ≡ supported_in B c v t
  unfolding supported_in
  supported_in_twin s t h B w c v =
      ap (λ (u : Bool). not (any_in s.columns (eqb c)) || u)
      (any_choice_same (pick B s.columns) (λ x. allows s x && supports s.columns x c v) (λ x. allows t x && supports s.columns x c v)
      (λ x k. ap (λ (u : Bool). u && supports s.columns x c v) (h.same_allowed x (choice_combination B w s.columns x k))))
      ∙ ap (λ (cs : List ℕ). not (any_in cs (eqb c)) || any_choice (pick B cs) (λ x. allows t x && supports cs x c v)) h.same_columns

-- ---- a book b, and its twin with the sheets ts
abbrev twin : Book → List Sheet → Book
twin b ts = record { counts = b.counts; sheets = ts }

module _ (b : Book) (p : WellFormed b) (ts : List Sheet) (h : Twins b (twin b ts)) where
  -- of what is allowed, which has no value from V on
  closure_twin : (L : List Entry) (A : List ℕ) → IsStore (column_count b) A → Within A (allowed b L) → closure b A ≡ closure (twin b ts) A
  unfolding closure supported
  closure_twin L A a inside =
      closure_same (column_count b) (supported b) (supported (twin b ts)) (supported_mono b) (supported_mono (twin b ts)) A a
      (λ B w c v.
      all_in_same _ b.sheets ts (supported_in B c v) h.as_many
      (λ s l. supported_in_twin b L (sheet_at b s) (sheet_at (twin b ts) s) (h.sheets s l) B (within_trans w inside) c v))

  domains_twin : (L : List Entry) → domains b L ≡ domains (twin b ts) L
  unfolding domains allowed
  domains_twin L = closure_twin L (allowed b L) (allowed_store b L) (within_refl (allowed b L))

  -- ---- the search: every store that it meets is closed alike
  search_twin : (L : List Entry) (k : ℕ) (D : List ℕ) → IsStore (column_count b) D → Within D (allowed b L) → search_from b k D ≡ search_from (twin b ts) k D
  unfolding search_from
  search_twin L zero D d w = refl
  search_twin L (suc k) D d w = go (λ X x y. search_twin L k X x y) (either (all_filled (column_count b) D)) (either (ltb (open_column (column_count b) D) (column_count b)))
    where
      C : ℕ
      C = column_count b

      c : ℕ
      c = open_column C D

      go : ((X : List ℕ) → IsStore (column_count b) X → Within X (allowed b L) → search_from b k X ≡ search_from (twin b ts) k X)
          → (all_filled (column_count b) D ≡ true) ⊎ (all_filled (column_count b) D ≡ false)
          → (ltb (open_column (column_count b) D) (column_count b) ≡ true) ⊎ (ltb (open_column (column_count b) D) (column_count b) ≡ false)
          → search_from b (suc k) D ≡ search_from (twin b ts) (suc k) D
      go rec (inr e) q = search_failed b k D e ∙ sym (search_failed (twin b ts) k D e)
      go rec (inl e) (inr q) = search_assigned b k D e q ∙ sym (search_assigned (twin b ts) k D e q)
      go rec (inl e) (inl q) =
          let l : c < C = ltb-true c C q in
          search_open b k D e q
          ∙ try_each_same 32 (has D c) (has D c) (λ v. search_from b k (after b D c v)) (λ v. search_from (twin b ts) k (after (twin b ts) D c v)) (λ v i. refl)
          (λ v i s.
          rec (after b D c v) (after_store b p D d c l v s) (within_trans (after_inside b p D d c l v s) w)
          ∙ ap (search_from (twin b ts) k)
          (closure_twin L (assign D c v) (assign_store C D c v d l i)
          (record { at = λ j u z. w.at j u (assign_e D c v j u (rw d.columns l) s z).0 })))
          ∙ sym (search_open (twin b ts) k D e q)

  searched_twin : (L : List Entry) → searched b (domains b L) ≡ searched (twin b ts) (domains (twin b ts) L)
  unfolding searched
  searched_twin L =
      search_twin L (suc (values (column_count b) (domains b L))) (domains b L) (domains_store b L) (domains_within b L)
      ∙ ap (searched (twin b ts)) (domains_twin L)

  -- of the current domains, which have no value from V on
  subsumed_twin : (L : List Entry) (s : ℕ) → s < length b.sheets → subsumed (domains b L) (sheet_at b s) ≡ subsumed (domains b L) (sheet_at (twin b ts) s)
  unfolding subsumed
  subsumed_twin L s l =
      let k = h.sheets s l in
      every_choice_same (pick (domains b L) (sheet_at b s).columns) (allows (sheet_at b s)) (allows (sheet_at (twin b ts) s))
      (λ x t. k.same_allowed x (choice_combination b L (domains b L) (domains_within b L) (sheet_at b s).columns x t))
      ∙ ap (λ (cs : List ℕ). every_choice (pick (domains b L) cs) (allows (sheet_at (twin b ts) s))) k.same_columns

  done_twin : (L : List Entry) → done_of b (domains b L) ≡ done_of (twin b ts) (domains b L)
  unfolding done_of
  done_twin L =
      ap (λ (n : ℕ). cond (all_filled (column_count b) (domains b L)) n 0)
      (mask_of_same (length b.sheets) (λ s. subsumed (domains b L) (sheet_at b s)) (λ s. subsumed (domains b L) (sheet_at (twin b ts) s)) (subsumed_twin L)
      ∙ ap (λ (n : ℕ). mask_of n (λ s. subsumed (domains b L) (sheet_at (twin b ts) s))) h.as_many)

  -- ---- answers
  showing_twin : (L : List Entry) (r : ℕ) (f : Outcome) → showing b L r f ≡ showing (twin b ts) L r f
  unfolding showing status_of assigned
  showing_twin L r f =
      ap₂
      (λ (D : List ℕ) (n : ℕ).
      record { refused = r; status = status_of b D; depth = depth L; outcome = outcome_number f; done = n; tries = outcome_tries f; shown = outcome_masks (column_count b) D f })
      (domains_twin L) (done_twin L ∙ ap (done_of (twin b ts)) (domains_twin L))

  outcome_twin : (L : List Entry) (o : List ℕ) → outcome b L o ≡ outcome (twin b ts) L o
  unfolding outcome refusal outside
  outcome_twin L o =
      ap
      (λ (g : Searched). cond (is_accepted b L o) (by_kind (kind o) state_only state_only state_only (limited (try_limit o) g) state_only) state_only)
      (searched_twin L)

  answer_twin : (L : List Entry) (o : List ℕ) → answer b L o ≡ answer (twin b ts) L o
  unfolding answer push refusal outside
  answer_twin L o = showing_twin (push b L o) (refusal b L o) (outcome b L o) ∙ ap (showing (twin b ts) (push b L o) (refusal b L o)) (outcome_twin L o)

  -- refusals and trails go by the columns alone
  answers_twin : (os : List (List ℕ)) (L : List Entry) → answers_from b L os ≡ answers_from (twin b ts) L os
  unfolding answers_from push refusal outside
  answers_twin [] L = refl
  answers_twin (o ∷ os) L = ap₂ (λ (a : Answer) (l : List Answer). a ∷ l) (answer_twin L o) (answers_twin os (push b L o))

  accepted_twin : (os : List (List ℕ)) (L : List Entry) → accepted_from b L os ≡ accepted_from (twin b ts) L os
  unfolding accepted_from push refusal outside
  accepted_twin [] L = refl
  accepted_twin (o ∷ os) L = ap (λ (n : ℕ). one_if (is_accepted b L o) + n) (accepted_twin os (push b L o))

-- the claim of specs/Twins.antt
pub twins_answer : TwinsAnswer
twins_answer b c p h =
    record {
      every = λ os.
          ap₂ (λ (a : Answer) (l : List Answer). a ∷ l) (showing_twin b p c.sheets k [] 0 state_only) (answers_twin b p c.sheets k os [])
          ∙ ap (λ (counts : List ℕ). answers (record { counts = counts; sheets = c.sheets }) os) h.same_counts;
      accepted = λ os.
          accepted_twin b p c.sheets k os [] ∙ ap (λ (counts : List ℕ). accepted_count (record { counts = counts; sheets = c.sheets }) os) h.same_counts;
    }
  where
    k : Twins b (twin b c.sheets)
    k = record { same_counts = refl; as_many = h.as_many; sheets = h.sheets }
