-- Laws of trails: checkpoints, allowed values, and how a narrow may start from the current domains. Assumes nothing.
use mathlib.Core.Path.{◌≡◌, refl, sym, ap, ◌∙◌}
use mathlib.Core.Bool.{Bool, true, not, ◌&&◌, ◌||◌}
use mathlib.Core.List.{List, [], ◌∷◌, ◌++◌}
use Prim.Native.Nat.{ℕ, zero, suc, ◌+◌, ◌≤◌, ◌<◌}
use native.Mathlib.Nat.{not-suc-le-zero, le_of_suc-le-suc}
use native.Mathlib.Omega.{arith}
use lib.Dec.{eqb, ltb}
use lib.ListN.{get_or}
use Rattle.model.specs.Tests.{one_if}
use Rattle.model.specs.Masks.{bit}
use Rattle.model.specs.Stores.{has, Within, IsStore, meet}
use Rattle.model.specs.Closure.{Between}
use Rattle.model.specs.Books.{Book, column_count, supported, closure}
use Rattle.model.specs.Orders.{Entry, narrowed, checkpoint, depth, before, is_accepted, push, trail_from, permits, allowed, domains}
use Rattle.model.specs.Answers.{Answer, answer, answers_from, last_from, accepted_from}
use Rattle.model.proofs.Tests.{and_l, and_r, and_i, and_true, and_assoc}
use Rattle.model.proofs.Stores.{has_i, has_e, store_of_same, is_store, meet-has, meet_store}
use Rattle.model.proofs.Closure.{closure_within, closure_store, closure_mono, between_same, closure_again}
use Rattle.model.proofs.Books.{supported_mono}

-- ---- one order more
pub trail_snoc : (b : Book) (L : List Entry) (os : List (List ℕ)) (o : List ℕ) → trail_from b L (os ++ (o ∷ [])) ≡ push b (trail_from b L os) o
unfolding trail_from
trail_snoc b L [] o = refl
trail_snoc b L (p ∷ os) o = trail_snoc b (push b L p) os o

pub answers_snoc : (b : Book) (L : List Entry) (os : List (List ℕ)) (o : List ℕ)
    → answers_from b L (os ++ (o ∷ [])) ≡ answers_from b L os ++ (answer b (trail_from b L os) o ∷ [])
unfolding answers_from trail_from
answers_snoc b L [] o = refl
answers_snoc b L (p ∷ os) o = ap (λ (l : List Answer). answer b L p ∷ l) (answers_snoc b (push b L p) os o)

pub last_snoc : (b : Book) (L : List Entry) (a : Answer) (os : List (List ℕ)) (o : List ℕ)
    → last_from b L a (os ++ (o ∷ [])) ≡ answer b (trail_from b L os) o
unfolding last_from trail_from
last_snoc b L a [] o = refl
last_snoc b L a (p ∷ os) o = last_snoc b (push b L p) (answer b L p) os o

pub accepted_snoc : (b : Book) (L : List Entry) (os : List (List ℕ)) (o : List ℕ)
    → accepted_from b L (os ++ (o ∷ [])) ≡ accepted_from b L os + one_if (is_accepted b (trail_from b L os) o)
unfolding accepted_from trail_from
accepted_snoc b L [] o = omega arith
accepted_snoc b L (p ∷ os) o = omega (arith, accepted_snoc b (push b L p) os o)

-- ---- checkpoints
pub depth_narrowed : (L : List Entry) (c m : ℕ) → depth (L ++ (narrowed c m ∷ [])) ≡ depth L
unfolding depth
depth_narrowed [] c m = refl
depth_narrowed (narrowed k n ∷ L) c m = depth_narrowed L c m
depth_narrowed (checkpoint ∷ L) c m = ap suc (depth_narrowed L c m)

pub depth_checkpoint : (L : List Entry) → depth (L ++ (checkpoint ∷ [])) ≡ suc (depth L)
unfolding depth
depth_checkpoint [] = refl
depth_checkpoint (narrowed k n ∷ L) = depth_checkpoint L
depth_checkpoint (checkpoint ∷ L) = ap suc (depth_checkpoint L)

-- what is added after checkpoint m does not change what stands before it
pub before_append : (m : ℕ) (L M : List Entry) → 0 < m → m ≤ depth L → before m (L ++ M) ≡ before m L
unfolding depth before
before_append m [] M p h = absurd (omega arith)
before_append m (narrowed k n ∷ L) M p h = ap (λ (X : List Entry). narrowed k n ∷ X) (before_append m L M p h)
before_append zero (checkpoint ∷ L) M p h = refl
before_append (suc zero) (checkpoint ∷ L) M p h = refl
before_append (suc (suc m)) (checkpoint ∷ L) M p h =
    ap (λ (X : List Entry). checkpoint ∷ X) (before_append (suc m) L M (omega arith) (le_of_suc-le-suc h))

-- before a new checkpoint stands the whole trail
pub before_new : (L : List Entry) → before (suc (depth L)) (L ++ (checkpoint ∷ [])) ≡ L
unfolding depth before
before_new [] = refl
before_new (narrowed k n ∷ L) = ap (λ (X : List Entry). narrowed k n ∷ X) (before_new L)
before_new (checkpoint ∷ L) = ap (λ (X : List Entry). checkpoint ∷ X) (before_new L)

pub depth_before : (m : ℕ) (L : List Entry) → m < depth L → depth (before (suc m) L) ≡ m
unfolding depth before
depth_before m [] h = absurd (not-suc-le-zero h)
depth_before m (narrowed k n ∷ L) h = depth_before m L h
depth_before zero (checkpoint ∷ L) h = refl
depth_before (suc m) (checkpoint ∷ L) h = ap suc (depth_before m L (le_of_suc-le-suc h))

-- before an earlier checkpoint stands the same, whether or not a later one was cut away
pub before_before : (m k : ℕ) (L : List Entry) → 0 < m → m < k → before m (before k L) ≡ before m L
unfolding before
before_before m k [] p h = refl
before_before m k (narrowed i n ∷ L) p h = ap (λ (X : List Entry). narrowed i n ∷ X) (before_before m k L p h)
before_before m zero (checkpoint ∷ L) p h = absurd (not-suc-le-zero h)
before_before m (suc zero) (checkpoint ∷ L) p h = absurd (omega arith)
before_before zero (suc (suc k)) (checkpoint ∷ L) p h = refl
before_before (suc zero) (suc (suc k)) (checkpoint ∷ L) p h = refl
before_before (suc (suc m)) (suc (suc k)) (checkpoint ∷ L) p h =
    ap (λ (X : List Entry). checkpoint ∷ X) (before_before (suc m) (suc k) L (omega arith) (le_of_suc-le-suc h))

-- ---- what the trail permits
permits-append : (L M : List Entry) (c v : ℕ) → permits (L ++ M) c v ≡ (permits L c v && permits M c v)
unfolding permits
permits-append [] M c v = refl
permits-append (narrowed k n ∷ L) M c v =
    ap (λ (t : Bool). (not (eqb k c) || bit v n) && t) (permits-append L M c v)
    ∙ and_assoc (not (eqb k c) || bit v n) (permits L c v) (permits M c v)
permits-append (checkpoint ∷ L) M c v = permits-append L M c v

permits_checkpoint : (L : List Entry) (c v : ℕ) → permits (L ++ (checkpoint ∷ [])) c v ≡ permits L c v
unfolding permits
permits_checkpoint L c v = permits-append L (checkpoint ∷ []) c v ∙ and_true (permits L c v)

permits_narrowed : (L : List Entry) (c m k v : ℕ) → permits (L ++ (narrowed c m ∷ [])) k v ≡ (permits L k v && (not (eqb c k) || bit v m))
unfolding permits
permits_narrowed L c m k v =
    permits-append L (narrowed c m ∷ []) k v ∙ ap (λ (t : Bool). permits L k v && t) (and_true (not (eqb c k) || bit v m))

-- ---- allowed values and current domains
pub allowed_store : (b : Book) (L : List Entry) → IsStore (column_count b) (allowed b L)
unfolding allowed
allowed_store b L = is_store (column_count b) _

pub domains_store : (b : Book) (L : List Entry) → IsStore (column_count b) (domains b L)
unfolding domains closure
domains_store b L = closure_store (column_count b) (supported b) (supported_mono b) (allowed b L) (allowed_store b L)

pub domains_within : (b : Book) (L : List Entry) → Within (domains b L) (allowed b L)
unfolding domains closure
domains_within b L = closure_within (column_count b) (supported b) (supported_mono b) (allowed b L) (allowed_store b L)

pub domains_closed : (b : Book) (L : List Entry) → closure b (domains b L) ≡ domains b L
unfolding domains closure
domains_closed b L = closure_again (column_count b) (supported b) (supported_mono b) (allowed b L) (allowed_store b L)

pub domains_mono : (b : Book) (L M : List Entry) → Within (allowed b L) (allowed b M) → Within (domains b L) (domains b M)
unfolding domains closure
domains_mono b L M w =
    closure_mono (column_count b) (supported b) (supported_mono b) (allowed b L) (allowed b M) (allowed_store b L) (allowed_store b M) w

-- a checkpoint changes no allowed value and no domain
pub allowed_checkpoint : (b : Book) (L : List Entry) → allowed b (L ++ (checkpoint ∷ [])) ≡ allowed b L
unfolding allowed
allowed_checkpoint b L =
    store_of_same (column_count b) _ _ (λ c v p q. ap (λ (t : Bool). ltb v (get_or b.counts c 0) && t) (permits_checkpoint L c v))

pub domains_checkpoint : (b : Book) (L : List Entry) → domains b (L ++ (checkpoint ∷ [])) ≡ domains b L
unfolding domains
domains_checkpoint b L = ap (closure b) (allowed_checkpoint b L)

-- ---- a narrow
module _ (b : Book) (L : List Entry) (c m : ℕ) where
  pub narrowed_e : (k v : ℕ) → has (allowed b (L ++ (narrowed c m ∷ []))) k v ≡ true
      → (has (allowed b L) k v ≡ true) × ((not (eqb c k) || bit v m) ≡ true)
  unfolding allowed
  narrowed_e k v e =
      let r = has_e (column_count b) (λ c' v'. ltb v' (get_or b.counts c' 0) && permits (L ++ (narrowed c m ∷ [])) c' v') k v e in
      let p = and_r (ltb v (get_or b.counts k 0)) _ r.2 in
      let q : (permits L k v && (not (eqb c k) || bit v m)) ≡ true = sym (permits_narrowed L c m k v) ∙ p in (
        has_i (column_count b) (λ c' v'. ltb v' (get_or b.counts c' 0) && permits L c' v') k v r.0 r.1
            (and_i (and_l (ltb v (get_or b.counts k 0)) _ r.2) (and_l (permits L k v) _ q)),
        and_r (permits L k v) _ q,
      )

  narrowed_i : (k v : ℕ) → has (allowed b L) k v ≡ true → (not (eqb c k) || bit v m) ≡ true
      → has (allowed b (L ++ (narrowed c m ∷ []))) k v ≡ true
  unfolding allowed
  narrowed_i k v e t =
      let r = has_e (column_count b) (λ c' v'. ltb v' (get_or b.counts c' 0) && permits L c' v') k v e in
      has_i (column_count b) (λ c' v'. ltb v' (get_or b.counts c' 0) && permits (L ++ (narrowed c m ∷ [])) c' v') k v r.0 r.1
      (and_i (and_l (ltb v (get_or b.counts k 0)) _ r.2)
      (permits_narrowed L c m k v ∙ and_i (and_r (ltb v (get_or b.counts k 0)) _ r.2) t))

  -- the current domains met with the mask lie between the closure of the longer trail's allowed values and those values
  narrow_between : (D : List ℕ) → ((k v : ℕ) → has D k v ≡ (has (domains b L) k v && (not (eqb c k) || bit v m)))
      → Between (column_count b) (supported b) (allowed b (L ++ (narrowed c m ∷ []))) D
  unfolding domains closure
  narrow_between D met = record { lower = record { at = low }; upper = record { at = up } }
    where
      low : (k v : ℕ) → has (domains b (L ++ (narrowed c m ∷ []))) k v ≡ true → has D k v ≡ true
      low k v e =
          met k v
          ∙ and_i ((domains_mono b (L ++ (narrowed c m ∷ [])) L (record { at = λ j u i. (narrowed_e j u i).0 })).at k v e)
          (narrowed_e k v ((domains_within b (L ++ (narrowed c m ∷ []))).at k v e)).1

      up : (k v : ℕ) → has D k v ≡ true → has (allowed b (L ++ (narrowed c m ∷ []))) k v ≡ true
      up k v e =
          let r : (has (domains b L) k v && (not (eqb c k) || bit v m)) ≡ true = sym (met k v) ∙ e in
          narrowed_i k v ((domains_within b L).at k v (and_l (has (domains b L) k v) _ r)) (and_r (has (domains b L) k v) _ r)

  -- "An order starts from the state that the last one left": meet one current domain with the mask, and close
  pub narrow-domains : c < column_count b → closure b (meet (domains b L) c m) ≡ domains b (L ++ (narrowed c m ∷ []))
  unfolding domains closure
  narrow-domains l =
      between_same (column_count b) (supported b) (supported_mono b) (allowed b (L ++ (narrowed c m ∷ []))) (allowed_store b _)
      (meet (domains b L) c m) (meet_store (column_count b) (domains b L) c m (domains_store b L) l)
      (narrow_between (meet (domains b L) c m) (λ k v. meet-has (domains b L) c m k v (rw (domains_store b L).columns l)))
