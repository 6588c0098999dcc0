-- Laws of refusals: each kind's causes in their order, what an accepted order tells, and what a refused one leaves. Assumes nothing.
use mathlib.Core.Path.{◌≡◌, ap, refl, sym, ◌∙◌}
use mathlib.Core.Bool.{Bool, true, false, cond, not, ◌&&◌, ◌||◌, true≢false}
use mathlib.Core.Logic.{◌⊎◌, inl, inr}
use mathlib.Core.List.{List, [], ◌∷◌, ◌++◌}
use Prim.Native.Nat.{ℕ, suc, ◌≤◌, ◌<◌}
use native.Mathlib.Omega.{arith}
use lib.Dec.{eqb, ltb, leb}
use lib.ListN.{get_or}
use Rattle.fields.specs.Bytes.{byte_at}
use borrow.Author.Tests.{eqb-true, eqb-false, ne_eqb, ltb-false, leb-false}
use Rattle.model.specs.Masks.{bit}
use Rattle.model.specs.Books.{Book, column_count}
use Rattle.model.specs.Orders.{by_kind, narrow_causes, mark_causes, back_causes, finish_causes, other_causes, kind, argument, mask, try_limit, zero_places, wrong_place, some_wrong, Entry, narrowed, checkpoint, depth, before, Cause, refuse◌if◌, first_cause, outside, refusal, push}
use Rattle.model.proofs.Masks.{bit_of_zero}
use Rattle.model.proofs.Tests.{or_l, or_r, either, any_below_none}

-- of the list its depth alone counts
pub refusal_depth : (b : Book) (L M : List Entry) (o : List ℕ) → depth L ≡ depth M → refusal b L o ≡ refusal b M o
unfolding refusal
refusal_depth b L M o e = rw e

-- no bit of the mask lies outside where none at or above V is set
pub outside_none : (b : Book) (c m : ℕ) → ((v : ℕ) → (leb (get_or b.counts c 0) v && bit v m) ≡ false) → outside b c m ≡ false
unfolding outside
outside_none b c m h = any_below_none 32 (λ v. leb (get_or b.counts c 0) v && bit v m) (λ v l. h v)

-- no cause: each test is false
no_cause : (n : ℕ) (t : Bool) (cs : List Cause) → first_cause ((refuse suc n if t) ∷ cs) ≡ 0 → (t ≡ false) × (first_cause cs ≡ 0)
unfolding first_cause
no_cause n true cs e = absurd (omega arith)
no_cause n false cs e = (refl, e)

-- causes with small numbers give a small refusal
no_causes : first_cause [] < 256
unfolding first_cause
no_causes = omega arith

small_cause : (n : ℕ) (t : Bool) (cs : List Cause) → n < 256 → first_cause cs < 256 → first_cause ((refuse n if t) ∷ cs) < 256
unfolding first_cause
small_cause n true cs l h = l
small_cause n false cs l h = h

-- where no place must be zero, none is wrong
none_wrong : (o : List ℕ) → some_wrong 0 o ≡ false
unfolding some_wrong wrong_place
none_wrong o = any_below_none 8 (wrong_place 0 o) (λ i l. ap (λ (t : Bool). t && not (eqb (byte_at o i) 0)) (bit_of_zero i))

module _ (b : Book) (L : List Entry) (o : List ℕ) where
  -- ---- the refusal of each kind
  pub refusal_zero : some_wrong (zero_places (kind o)) o ≡ true → refusal b L o ≡ 25
  unfolding refusal first_cause
  refusal_zero e = rw e

  -- where every byte that must be zero is, the kind's own causes count
  module _ (e : some_wrong (zero_places (kind o)) o ≡ false) where
    pub refusal-narrow : kind o ≡ 1 → refusal b L o ≡ first_cause (narrow_causes b o)
    unfolding refusal first_cause
    refusal-narrow k = rw (e, k)

    pub refusal-mark : kind o ≡ 2 → refusal b L o ≡ first_cause (mark_causes (depth L))
    unfolding refusal first_cause
    refusal-mark k = rw (e, k)

    pub refusal-back : kind o ≡ 3 → refusal b L o ≡ first_cause (back_causes (depth L) o)
    unfolding refusal first_cause
    refusal-back k = rw (e, k)

  -- a finish is refused by its bytes alone
  pub refusal_finish : kind o ≡ 4 → refusal b L o ≡ cond (some_wrong (zero_places 4) o) 25 (first_cause (finish_causes o))
  unfolding refusal first_cause
  refusal_finish k = rw k refl

  pub refusal_other : (kind o ≡ 1 → ⊥) → (kind o ≡ 2 → ⊥) → (kind o ≡ 3 → ⊥) → (kind o ≡ 4 → ⊥) → refusal b L o ≡ 20
  unfolding refusal first_cause
  refusal_other p q r s = rw (ne_eqb (kind o) 1 p, ne_eqb (kind o) 2 q, ne_eqb (kind o) 3 r, ne_eqb (kind o) 4 s, none_wrong o)

  -- a refusal fits a byte
  pub refusal_small : refusal b L o < 256
  unfolding refusal
  refusal_small =
      small_cause 25 _ _ (omega arith)
      (go (either (eqb (kind o) 1)) (either (eqb (kind o) 2)) (either (eqb (kind o) 3)) (either (eqb (kind o) 4)))
    where
      go : (eqb (kind o) 1 ≡ true) ⊎ (eqb (kind o) 1 ≡ false) → (eqb (kind o) 2 ≡ true) ⊎ (eqb (kind o) 2 ≡ false)
          → (eqb (kind o) 3 ≡ true) ⊎ (eqb (kind o) 3 ≡ false) → (eqb (kind o) 4 ≡ true) ⊎ (eqb (kind o) 4 ≡ false)
          → first_cause (by_kind (kind o) (narrow_causes b o) (mark_causes (depth L)) (back_causes (depth L) o) (finish_causes o) other_causes) < 256
      go (inl k) p q r = rw k (small_cause 21 _ _ (omega arith) (small_cause 22 _ _ (omega arith) no_causes))
      go (inr k) (inl p) q r = rw (k, p) (small_cause 23 _ _ (omega arith) no_causes)
      go (inr k) (inr p) (inl q) r = rw (k, p, q) (small_cause 24 _ _ (omega arith) no_causes)
      go (inr k) (inr p) (inr q) (inl r) = rw (k, p, q, r) (small_cause 27 _ _ (omega arith) no_causes)
      go (inr k) (inr p) (inr q) (inr r) = rw (k, p, q, r) (small_cause 20 _ _ (omega arith) no_causes)

  -- ---- what an accepted order tells
  pub accepted_narrow : kind o ≡ 1 → refusal b L o ≡ 0 → argument o < column_count b
  unfolding refusal
  accepted_narrow k e =
      let f = no_cause 24 _ _ (rw k at e) in
      let g = no_cause 20 _ _ f.1 in
      leb-false _ _ g.0

  pub accepted_mark : kind o ≡ 2 → refusal b L o ≡ 0 → depth L ≡ 16 → ⊥
  unfolding refusal
  accepted_mark k e q =
      let f = no_cause 24 _ _ (rw k at e) in
      let g = no_cause 22 _ _ f.1 in
      eqb-false (depth L) 16 g.0 q

  pub accepted_back : kind o ≡ 3 → refusal b L o ≡ 0 → (0 < argument o) × (argument o ≤ depth L)
  unfolding refusal
  accepted_back k e =
      let f = no_cause 24 _ _ (rw k at e) in
      let g = no_cause 23 _ _ f.1 in
      go (either (eqb (argument o) 0)) (either (ltb (depth L) (argument o))) g.0
    where
      go : (eqb (argument o) 0 ≡ true) ⊎ (eqb (argument o) 0 ≡ false) → (ltb (depth L) (argument o) ≡ true) ⊎ (ltb (depth L) (argument o) ≡ false)
          → (eqb (argument o) 0 || ltb (depth L) (argument o)) ≡ false → (0 < argument o) × (argument o ≤ depth L)
      go (inl p) q r = absurd (true≢false (sym (or_l _ (ltb (depth L) (argument o)) p) ∙ r))
      go (inr p) (inl q) r = absurd (true≢false (sym (or_r (eqb (argument o) 0) _ q) ∙ r))
      go (inr p) (inr q) r = let n : argument o ≡ 0 → ⊥ = eqb-false (argument o) 0 p in (omega arith, ltb-false _ _ q)

  pub accepted_finish : kind o ≡ 4 → refusal b L o ≡ 0 → try_limit o ≤ 65535
  unfolding refusal
  accepted_finish k e =
      let f = no_cause 24 _ _ (rw k at e) in
      let g = no_cause 26 _ _ f.1 in
      ltb-false _ _ g.0

  -- what holds of the trail as it is, and of what each accepted order makes of it, holds after the order
  pub push_ind : (P : List Entry → Type 0) → P L
      → (kind o ≡ 1 → refusal b L o ≡ 0 → P (L ++ (narrowed (argument o) (mask o) ∷ [])))
      → (kind o ≡ 2 → refusal b L o ≡ 0 → P (L ++ (checkpoint ∷ [])))
      → (kind o ≡ 3 → refusal b L o ≡ 0 → P (before (argument o) L))
      → P (push b L o)
  unfolding push
  push_ind P z n m k = go (either (eqb (refusal b L o) 0)) (either (eqb (kind o) 1)) (either (eqb (kind o) 2)) (either (eqb (kind o) 3)) (either (eqb (kind o) 4))
    where
      go : (eqb (refusal b L o) 0 ≡ true) ⊎ (eqb (refusal b L o) 0 ≡ false) → (eqb (kind o) 1 ≡ true) ⊎ (eqb (kind o) 1 ≡ false)
          → (eqb (kind o) 2 ≡ true) ⊎ (eqb (kind o) 2 ≡ false) → (eqb (kind o) 3 ≡ true) ⊎ (eqb (kind o) 3 ≡ false)
          → (eqb (kind o) 4 ≡ true) ⊎ (eqb (kind o) 4 ≡ false) → P (push b L o)
      go (inr r) x y w u = rw r z
      go (inl r) (inl x) y w u = rw (r, x) (n (eqb-true _ 1 x) (eqb-true _ 0 r))
      go (inl r) (inr x) (inl y) w u = rw (r, x, y) (m (eqb-true _ 2 y) (eqb-true _ 0 r))
      go (inl r) (inr x) (inr y) (inl w) u = rw (r, x, y, w) (k (eqb-true _ 3 w) (eqb-true _ 0 r))
      go (inl r) (inr x) (inr y) (inr w) (inl u) = rw (r, x, y, w, u) z
      go (inl r) (inr x) (inr y) (inr w) (inr u) = rw (r, x, y, w, u) z

  -- ---- what an order makes of the trail
  -- a refused order changes nothing
  pub push_refused : (refusal b L o ≡ 0 → ⊥) → push b L o ≡ L
  unfolding push
  push_refused n = rw (ne_eqb (refusal b L o) 0 n)

  pub push-narrow : kind o ≡ 1 → refusal b L o ≡ 0 → push b L o ≡ L ++ (narrowed (argument o) (mask o) ∷ [])
  unfolding push
  push-narrow k e = rw (e, k)

  pub push-mark : kind o ≡ 2 → refusal b L o ≡ 0 → push b L o ≡ L ++ (checkpoint ∷ [])
  unfolding push
  push-mark k e = rw (e, k)

  pub push-back : kind o ≡ 3 → refusal b L o ≡ 0 → push b L o ≡ before (argument o) L
  unfolding push
  push-back k e = rw (e, k)

  -- a finish leaves the trail as it is, accepted or refused
  pub push_finish : kind o ≡ 4 → push b L o ≡ L
  push_finish k = push_ind (λ M. M ≡ L) refl (λ q e. absurd (omega arith)) (λ q e. absurd (omega arith)) (λ q e. absurd (omega arith))
