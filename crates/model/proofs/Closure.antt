-- Laws of the closure, for any monotone support test: a value stays exactly when some consistent store within holds it; failed exactly
-- when there is none; consistent, within, monotone, idempotent; and the laws of `Between`, for an engine that strikes in any order.
-- Assumes nothing.
use mathlib.Core.Path.{◌≡◌, sym, ap, ◌∙◌}
use mathlib.Core.Bool.{Bool, true, false, ◌&&◌, true≢false}
use mathlib.Core.Logic.{◌⊎◌, inl, inr, ◌↔◌}
use mathlib.Core.List.{List}
use Prim.Native.Nat.{ℕ, zero, suc, ◌≤◌, ◌<◌}
use native.Mathlib.Omega.{arith}
use Rattle.model.specs.Tests.{eq_list}
use Rattle.model.specs.Stores.{has, Within, IsStore, empty_store, all_filled, values}
use Rattle.model.specs.Closure.{Monotone, Consistent, InClosure, Failed, strike, rounds, closure_of, Between}
use Rattle.model.proofs.Tests.{and_l, and_r, and_i, either, same_test, eq_list_e, eq_list_refl}
use Rattle.model.proofs.Stores.{has_i, has_e, is_store, store_ext, in_store, within_refl, within_trans, empty_has, empty_store_lem, filled_e, filled_i, values_fall}

module _ (C : ℕ) (ok : List ℕ → ℕ → ℕ → Bool) where
  -- ---- one round
  strike_within : (A : List ℕ) → Within (strike C ok A) A
  unfolding strike
  strike_within A = record { at = λ c v e. and_l _ _ (has_e C (λ c v. has A c v && ok A c v) c v e).2 }

  strike_ok : (A : List ℕ) (c v : ℕ) → has (strike C ok A) c v ≡ true → ok A c v ≡ true
  unfolding strike
  strike_ok A c v e = and_r (has A c v) _ (has_e C (λ c v. has A c v && ok A c v) c v e).2

  strike_store : (A : List ℕ) → IsStore C (strike C ok A)
  unfolding strike
  strike_store A = is_store C _

  -- ---- rounds
  rounds_yes : (k : ℕ) (A : List ℕ) → eq_list (strike C ok A) A ≡ true → rounds C ok (suc k) A ≡ A
  unfolding rounds
  rounds_yes k A e = rw (e, rounds)

  rounds_no : (k : ℕ) (A : List ℕ) → eq_list (strike C ok A) A ≡ false → rounds C ok (suc k) A ≡ rounds C ok k (strike C ok A)
  unfolding rounds
  rounds_no k A e = rw (e, rounds)

  -- whatever every round keeps, the rounds keep
  rounds_ind : (P : List ℕ → Type 0) → ((A : List ℕ) → P A → P (strike C ok A)) → (k : ℕ) (A : List ℕ) → P A → P (rounds C ok k A)
  unfolding rounds
  rounds_ind P h zero A p = p
  rounds_ind P h (suc k) A p = go (either (eq_list (strike C ok A) A)) (rounds_ind P h k (strike C ok A) (h A p))
    where
      go : (eq_list (strike C ok A) A ≡ true) ⊎ (eq_list (strike C ok A) A ≡ false) → P (rounds C ok k (strike C ok A)) → P (rounds C ok (suc k) A)
      go (inl e) r = rw (rounds_yes k A e) p
      go (inr e) r = rw (rounds_no k A e) r

  rounds_within : (k : ℕ) (A : List ℕ) → Within (rounds C ok k A) A
  rounds_within k A = rounds_ind (λ B. Within B A) (λ B h. within_trans (strike_within B) h) k A (within_refl A)

  rounds_store : (k : ℕ) (A : List ℕ) → IsStore C A → IsStore C (rounds C ok k A)
  rounds_store k A a = rounds_ind (IsStore C) (λ B h. strike_store B) k A a

  -- a round that strikes leaves fewer values
  strike_fewer : (A : List ℕ) → IsStore C A → eq_list (strike C ok A) A ≡ false → values C (strike C ok A) < values C A
  strike_fewer A a q =
      values_fall C (strike C ok A) A (strike_store A) a (strike_within A)
      (λ e. true≢false (sym (eq_list_refl A) ∙ ap (λ (l : List ℕ). eq_list l A) (sym e) ∙ q))

  -- enough rounds come to rest
  rounds_rest : (k : ℕ) (A : List ℕ) → IsStore C A → values C A ≤ k
      → (c v : ℕ) → has (rounds C ok k A) c v ≡ true → ok (rounds C ok k A) c v ≡ true
  unfolding rounds
  rounds_rest k A a l c v = go k A a l (either (eq_list (strike C ok A) A))
    where
      rest : (A : List ℕ) → eq_list (strike C ok A) A ≡ true → has A c v ≡ true → ok A c v ≡ true
      rest A p e = strike_ok A c v (rw (eq_list_e (strike C ok A) A p) e)

      go : (k : ℕ) (A : List ℕ) → IsStore C A → values C A ≤ k → (eq_list (strike C ok A) A ≡ true) ⊎ (eq_list (strike C ok A) A ≡ false)
          → has (rounds C ok k A) c v ≡ true → ok (rounds C ok k A) c v ≡ true
      go zero A a l (inl p) = rest A p
      go zero A a l (inr q) = absurd (omega (arith, strike_fewer A a q))
      go (suc k) A a l (inl p) = rw (rounds_yes k A p) (rest A p)
      go (suc k) A a l (inr q) =
          rw (rounds_no k A q)
          (go k (strike C ok A) (strike_store A) (omega (arith, strike_fewer A a q)) (either (eq_list (strike C ok (strike C ok A)) (strike C ok A))))

  -- ---- all rounds
  abbrev all_rounds : List ℕ → List ℕ
  all_rounds A = rounds C ok (values C A) A

  all_within : (A : List ℕ) → Within (all_rounds A) A
  all_within A = rounds_within _ A

  all_store : (A : List ℕ) → IsStore C A → IsStore C (all_rounds A)
  all_store A a = rounds_store _ A a

  all_rest : (A : List ℕ) → IsStore C A → (c v : ℕ) → has (all_rounds A) c v ≡ true → ok (all_rounds A) c v ≡ true
  all_rest A a = rounds_rest _ A a (omega arith)

  closure_filled : (A : List ℕ) → all_filled C (all_rounds A) ≡ true → closure_of C ok A ≡ all_rounds A
  unfolding closure_of
  closure_filled A e = rw e

  closure_empty : (A : List ℕ) → all_filled C (all_rounds A) ≡ false → closure_of C ok A ≡ empty_store C
  unfolding closure_of
  closure_empty A e = rw e

  module _ (mono : Monotone C ok) where
    -- no round strikes a value of a consistent store
    strike_keeps : (B A : List ℕ) → IsStore C A → Consistent C ok B → Within B A → Within B (strike C ok A)
    unfolding strike
    strike_keeps B A a s w =
        record {
          at = λ c v e.
              let i = in_store C A a c v (w.at c v e) in
              has_i C (λ c v. has A c v && ok A c v) c v i.0 i.1
              (and_i (w.at c v e) (mono.grows B A w c v (s.supported c v e)));
        }

    all_keeps : (B A : List ℕ) → IsStore C A → Consistent C ok B → Within B A → Within B (all_rounds A)
    all_keeps B A a s w =
        (rounds_ind (λ (X : List ℕ). IsStore C X × Within B X) (λ X h. (strike_store X, strike_keeps B X h.0 s h.1)) (values C A) A (a, w)).1

    module _ (A : List ℕ) (a : IsStore C A) where
      all_consistent : all_filled C (all_rounds A) ≡ true → Consistent C ok (all_rounds A)
      all_consistent e = record { filled = filled_e C _ e; supported = all_rest A a }

      -- a consistent store within A leaves no column empty
      all_filled_lem : (B : List ℕ) → Consistent C ok B → Within B A → all_filled C (all_rounds A) ≡ true
      all_filled_lem B s w =
          filled_i C _ (all_store A a) (λ c l. let r = s.filled c l in (r.0, (all_keeps B A a s w).at c r.0 r.1))

      -- a value stays exactly when some consistent store within A holds it
      pub closure_iff : (c v : ℕ) → (has (closure_of C ok A) c v ≡ true) ↔ InClosure C ok A c v
      closure_iff c v = (to (either (all_filled C (all_rounds A))), from)
        where
          to : (all_filled C (all_rounds A) ≡ true) ⊎ (all_filled C (all_rounds A) ≡ false)
              → has (closure_of C ok A) c v ≡ true → InClosure C ok A c v
          to (inl p) e =
              record { store = all_rounds A; consistent = all_consistent p; within = all_within A; holds = rw (closure_filled A p) at e }
          to (inr q) e = absurd (empty_has C c v (rw (closure_empty A q) at e))

          from : InClosure C ok A c v → has (closure_of C ok A) c v ≡ true
          from s =
              rw (closure_filled A (all_filled_lem s.store s.consistent s.within))
              ((all_keeps s.store A a s.consistent s.within).at c v s.holds)

      -- the closure is consistent, or it is empty
      pub consistent_or_empty : Consistent C ok (closure_of C ok A) ⊎ (closure_of C ok A ≡ empty_store C)
      consistent_or_empty = go (either (all_filled C (all_rounds A)))
        where
          go : (all_filled C (all_rounds A) ≡ true) ⊎ (all_filled C (all_rounds A) ≡ false)
              → Consistent C ok (closure_of C ok A) ⊎ (closure_of C ok A ≡ empty_store C)
          go (inl p) = inl (rw (closure_filled A p) (all_consistent p))
          go (inr q) = inr (closure_empty A q)

      pub closure_within : Within (closure_of C ok A) A
      closure_within = record { at = λ c v e. let s = (closure_iff c v).0 e in s.within.at c v s.holds }

      pub closure_store : IsStore C (closure_of C ok A)
      closure_store = go (either (all_filled C (all_rounds A)))
        where
          go : (all_filled C (all_rounds A) ≡ true) ⊎ (all_filled C (all_rounds A) ≡ false) → IsStore C (closure_of C ok A)
          go (inl p) = rw (closure_filled A p) (all_store A a)
          go (inr q) = rw (closure_empty A q) (empty_store_lem C)

      -- every column is empty exactly when no consistent store lies within A
      pub failed_iff : 0 < C → (closure_of C ok A ≡ empty_store C) ↔ Failed C ok A
      failed_iff pos = (to, λ f. from f consistent_or_empty)
        where
          to : closure_of C ok A ≡ empty_store C → Failed C ok A
          to e = record {
            none = λ B s w.
                let r = s.filled 0 pos in
                empty_has C 0 r.0
                (rw e at ((closure_iff 0 r.0).1 (record { store = B; consistent = s; within = w; holds = r.1 })));
          }

          from : Failed C ok A → Consistent C ok (closure_of C ok A) ⊎ (closure_of C ok A ≡ empty_store C) → closure_of C ok A ≡ empty_store C
          from f (inl s) = absurd (f.none (closure_of C ok A) s closure_within)
          from f (inr e) = e

      -- not failed: the closure is consistent
      pub closure_consistent : (Failed C ok A → ⊥) → 0 < C → Consistent C ok (closure_of C ok A)
      closure_consistent n pos = go consistent_or_empty
        where
          go : Consistent C ok (closure_of C ok A) ⊎ (closure_of C ok A ≡ empty_store C) → Consistent C ok (closure_of C ok A)
          go (inl s) = s
          go (inr e) = absurd (n ((failed_iff pos).0 e))

      -- a consistent store within A lies within the closure: the closure is the greatest
      pub closure_greatest : (B : List ℕ) → Consistent C ok B → Within B A → Within B (closure_of C ok A)
      closure_greatest B s w =
          record { at = λ c v e. (closure_iff c v).1 (record { store = B; consistent = s; within = w; holds = e }) }

    -- the narrower the store, the narrower its closure
    pub closure_mono : (A B : List ℕ) → IsStore C A → IsStore C B → Within A B → Within (closure_of C ok A) (closure_of C ok B)
    closure_mono A B a b w =
        record {
          at = λ c v e.
              let s = (closure_iff A a c v).0 e in
              (closure_greatest B b s.store s.consistent (within_trans s.within w)).at c v s.holds;
        }

    -- ---- for an engine that strikes unsupported values in any order
    module _ (A : List ℕ) (a : IsStore C A) where
      pub between_self : Between C ok A A
      between_self = record { lower = closure_within A a; upper = within_refl A }

      -- the closure of A can be reached from any store between
      pub between_same : (B : List ℕ) → IsStore C B → Between C ok A B → closure_of C ok B ≡ closure_of C ok A
      between_same B b h =
          store_ext C _ _ (closure_store B b) (closure_store A a)
          (λ c v p q. same_test _ _ ((closure_mono B A b a h.upper).at c v) (back c v))
        where
          back : (c v : ℕ) → has (closure_of C ok A) c v ≡ true → has (closure_of C ok B) c v ≡ true
          back c v e =
              let s = (closure_iff A a c v).0 e in
              (closure_greatest B b s.store s.consistent
              (within_trans (closure_greatest A a s.store s.consistent s.within) h.lower)).at c v s.holds

      -- to strike values that are not supported keeps the store between
      pub between_strike : (B D : List ℕ) → Between C ok A B → Within D B
          → ((c v : ℕ) → has B c v ≡ true → (has D c v ≡ true) ⊎ (ok B c v ≡ false)) → Between C ok A D
      between_strike B D h w k = record { lower = record { at = low }; upper = within_trans w h.upper }
        where
          low : (c v : ℕ) → has (closure_of C ok A) c v ≡ true → has D c v ≡ true
          low c v e = go ((closure_iff A a c v).0 e) (k c v (h.lower.at c v e))
            where
              go : InClosure C ok A c v → (has D c v ≡ true) ⊎ (ok B c v ≡ false) → has D c v ≡ true
              go s (inl p) = p
              go s (inr q) =
                  absurd
                  (true≢false
                  (sym
                  (mono.grows s.store B
                  (within_trans (closure_greatest A a s.store s.consistent s.within) h.lower) c v
                  (s.consistent.supported c v s.holds))
                  ∙ q))

      -- a consistent store between is the closure
      pub between_rest : (B : List ℕ) → IsStore C B → Between C ok A B → Consistent C ok B → closure_of C ok A ≡ B
      between_rest B b h s =
          store_ext C _ _ (closure_store A a) b
          (λ c v p q. same_test _ _ (h.lower.at c v) ((closure_greatest A a B s h.upper).at c v))

      -- a store between with an empty column: the closure is empty
      pub between_failed : (B : List ℕ) → Between C ok A B → (c : ℕ) → c < C → ((v : ℕ) → has B c v ≡ true → ⊥)
          → closure_of C ok A ≡ empty_store C
      between_failed B h c l n = go (consistent_or_empty A a)
        where
          go : Consistent C ok (closure_of C ok A) ⊎ (closure_of C ok A ≡ empty_store C) → closure_of C ok A ≡ empty_store C
          go (inl s) = let r = s.filled c l in absurd (n r.0 (h.lower.at c r.0 r.1))
          go (inr e) = e

    -- what is closed is closed again: the closure lies between, and so has the same closure
    pub closure_again : (A : List ℕ) → IsStore C A → closure_of C ok (closure_of C ok A) ≡ closure_of C ok A
    closure_again A a =
        between_same A a (closure_of C ok A) (closure_store A a)
        (record { lower = within_refl (closure_of C ok A); upper = closure_within A a })

-- two support tests that agree on every store within A close it alike
pub closure_same : (C : ℕ) (ok ok' : List ℕ → ℕ → ℕ → Bool) → Monotone C ok → Monotone C ok' → (A : List ℕ) → IsStore C A
    → ((B : List ℕ) → Within B A → (c v : ℕ) → ok B c v ≡ ok' B c v) → closure_of C ok A ≡ closure_of C ok' A
closure_same C ok ok' m m' A a h =
    store_ext C _ _ (closure_store C ok m A a) (closure_store C ok' m' A a)
    (λ c v p q. same_test _ _ (turn ok ok' m m' h c v) (turn ok' ok m' m (λ B w k u. sym (h B w k u)) c v))
  where
    turn : (f g : List ℕ → ℕ → ℕ → Bool) → Monotone C f → Monotone C g → ((B : List ℕ) → Within B A → (c v : ℕ) → f B c v ≡ g B c v)
        → (c v : ℕ) → has (closure_of C f A) c v ≡ true → has (closure_of C g A) c v ≡ true
    turn f g n k h c v e =
        let s = (closure_iff C f n A a c v).0 e in
        (closure_iff C g k A a c v).1
        (record {
          store = s.store;
          consistent =
              record { filled = s.consistent.filled; supported = λ d u i. sym (h s.store s.within d u) ∙ s.consistent.supported d u i };
          within = s.within;
          holds = s.holds;
        })
