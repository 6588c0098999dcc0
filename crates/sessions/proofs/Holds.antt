-- Laws of the session and of one order. Assumes nothing.
use mathlib.Core.Path.{◌∙◌, ◌≡◌, ap, refl, subst, subst⁻¹, sym}
use mathlib.Core.Bool.{Bool, ◌&&◌, false, not, true}
use mathlib.Core.Logic.{◌⊎◌, inl, inr}
use mathlib.Core.List.{List, [], ◌++◌, ◌∷◌}
use Prim.Native.Nat.{◌+◌, ◌-◌, ◌<◌, ◌^◌, ◌≤◌, suc, ℕ}
use native.Mathlib.Nat.{lt_of_le_of_lt}
use native.Mathlib.Omega.{arith}
use lib.Arith.{lt_of_le-ne}
use lib.Bits.{and_le_l, bit_and}
use lib.Dec.{eqb, leb, ltb}
use lib.ListN.{get_or, length, length-set, set}
use lib.Seq.{get_or-set_other, get_or-set_same}
use borrow.Author.Tests.{eqb-false, eqb-true, le-leb, le-ltb, lt-leb, lt-ltb}
use Rattle.model.specs.Masks.{bit}
use Rattle.model.specs.Orders.{Entry, argument, before, checkpoint, depth, domains, kind, mask, narrowed, outside, push, refusal}
use Rattle.model.specs.Tests.{any_below}
use Rattle.model.proofs.Masks.{bit-and, bit_of_zero, ones32, some_bit}
use Rattle.model.proofs.Refusals.{accepted_back, accepted_mark, accepted_narrow, push-back, push_ind, push-mark, push-narrow, push_refused}
use Rattle.model.proofs.Tests.{and_false, and_true, any_below_i, any_below_none, below, either, positive}
use Rattle.model.proofs.Trails.{before_append, before_before, before_new, depth_before, depth_checkpoint, depth_narrowed, domains_checkpoint}
use Rattle.book.specs.Decoding.{book_of}
use Rattle.heads.specs.Heads.{columns_of, values_of}
use Rattle.book.specs.Verdicts.{Accepted}
use Rattle.counters.proofs.Ones.{complement}
use Rattle.sessions.specs.Holds.{BackHolds, Fits, Holds, MarkHolds, NarrowHolds, Refuses, SomeSession, Stepped, TakeHolds, no_state}
use Rattle.sessions.specs.Readings.{order_is}
use Rattle.sessions.specs.declared.orders.Order.{Order}
use Rattle.sessions.specs.declared.orders.Order.TheVariants.{Back, Finish, Mark, Narrow}
use Rattle.engine.specs.Openings.{places_below}
use Rattle.engine.specs.States.{Narrows, StateIs}
use Rattle.sessions.specs.declared.session.Session.{Session}
use Rattle.engine.specs.declared.state.State.{State}
use Rattle.engine.proofs.Openings.{places_bit, places_lt}
use Rattle.engine.proofs.Propagation.{columns_count, count_at}
use Rattle.engine.proofs.Worklists.{values_few}

-- ---- a mask that goes past a column's values
pub outside-mask : (b : List ℕ) → Accepted b → (c m p v : ℕ) → c < columns_of b → m < 2 ^ 32 → v ≡ values_of b c → p ≡ places_below v
    → not (eqb (bit_and m (ones32 - p)) 0) ≡ outside (book_of b) c m
unfolding outside
outside-mask b acc c m p v l fits ev ep = rw (count_at b c l) (go (either (eqb (bit_and m (ones32 - p)) 0)))
  where
    few : values_of b c ≤ 32
    few = values_few b acc c l

    is_p : p ≡ places_below (values_of b c)
    is_p = ep ∙ ap places_below ev

    flip : (u : ℕ) → not (ltb u (values_of b c)) ≡ leb (values_of b c) u
    flip u = at (below u (values_of b c))
      where
        at : (u < values_of b c) ⊎ (values_of b c ≤ u) → not (ltb u (values_of b c)) ≡ leb (values_of b c) u
        at (inl q) = ap not (lt-ltb u (values_of b c) q) ∙ sym (lt-leb (values_of b c) u q)
        at (inr q) = ap not (le-ltb u (values_of b c) q) ∙ sym (le-leb (values_of b c) u q)

    bits : (u : ℕ) → u < 32 → bit u (bit_and m (ones32 - p)) ≡ (leb (values_of b c) u && bit u m)
    bits u q =
        bit-and u m (ones32 - p)
        ∙ ap (λ (t : Bool). bit u m && t)
        (rw is_p (complement 32 (places_below (values_of b c)) u (places_lt (values_of b c) 32 few (omega arith)) q) ∙ ap not (places_bit (values_of b c) u few) ∙ flip u)
        ∙ swap (bit u m) (leb (values_of b c) u)
      where
        swap : (x y : Bool) → (x && y) ≡ (y && x)
        swap true y = sym (and_true y)
        swap false y = sym (and_false y)

    go : (eqb (bit_and m (ones32 - p)) 0 ≡ true) ⊎ (eqb (bit_and m (ones32 - p)) 0 ≡ false)
        → not (eqb (bit_and m (ones32 - p)) 0) ≡ any_below 32 (λ u. leb (values_of b c) u && bit u m)
    go (inl e) =
        ap not e
        ∙ sym
        (any_below_none 32 (λ u. leb (values_of b c) u && bit u m)
        (λ u q. sym (bits u q) ∙ ap (bit u) (eqb-true (bit_and m (ones32 - p)) 0 e) ∙ bit_of_zero u))
    go (inr e) =
        let x = bit_and m (ones32 - p) in
        let s = some_bit 32 x (lt_of_le_of_lt (and_le_l m (ones32 - p)) fits) (positive x (eqb-false x 0 e)) in
        ap not e ∙ sym (any_below_i 32 (λ u. leb (values_of b c) u && bit u m) s.0 s.1 (sym (bits s.0 s.1) ∙ s.2))

-- ---- the methods
-- the same domains, the same state
state_like : {b : List ℕ} {L M : List Entry} {st : State} → domains (book_of b) L ≡ domains (book_of b) M → StateIs b L st → StateIs b M st
state_like {b} {L} {M} {st} e h = record { holds = rw (← e) h.holds; store = h.store; sized = h.sized }

pub open_holds : {b : List ℕ} (t : Session) → StateIs b [] t.now → t.depth ≡ 0 → length t.saved ≡ 16 → Holds b [] t
unfolding depth
open_holds t h d z = record { current = h; deep = d; few = omega arith; marked = λ k l. absurd (omega arith); size = z }

module _ (s t : Session) where
  pub narrow_holds : {b : List ℕ} {c m : ℕ} → Narrows b c m s.now t.now → t.depth ≡ s.depth → t.saved ≡ s.saved → NarrowHolds b c m s t
  narrow_holds {b} {c} {m} n d e L h = record {
    current = n L h.current;
    deep = d ∙ h.deep ∙ sym (depth_narrowed L c m);
    few = rw (depth_narrowed L c m) h.few;
    marked = λ k l.
        let q : k < depth L = rw (depth_narrowed L c m) at l in
        rw (e, before_append (suc k) L (narrowed c m ∷ []) (omega arith) q) (h.marked k q);
    size = rw e h.size;
  }

  pub mark_holds : t.now ≡ s.now → t.depth ≡ s.depth + 1 → t.saved ≡ set s.saved s.depth s.now → s.depth < 16 → MarkHolds s t
  mark_holds en ed es l b L h = record {
    current = rw en (state_like (sym (domains_checkpoint (book_of b) L)) h.current);
    deep = omega (arith, h.deep, depth_checkpoint L);
    few = omega (arith, h.deep, depth_checkpoint L);
    marked = λ k q. rw es (at k (below k (depth L)) (omega (arith, depth_checkpoint L)));
    size = rw es (length-set s.saved s.depth s.now ∙ h.size);
  }
    where
      at : (k : ℕ) → (k < depth L) ⊎ (depth L ≤ k) → k < suc (depth L)
          → StateIs b (before (suc k) (L ++ (checkpoint ∷ []))) (get_or (set s.saved s.depth s.now) k no_state)
      at k (inl p) q =
          rw (get_or-set_other s.saved s.depth k s.now no_state (λ e. omega (arith, h.deep)), before_append (suc k) L (checkpoint ∷ []) (omega arith) p)
          (h.marked k p)
      at k (inr p) q =
          let e : k ≡ s.depth = omega (arith, h.deep) in
          let f : k ≡ depth L = omega arith in
          rw (e, get_or-set_same s.saved s.depth s.now no_state (omega (arith, h.size)), h.deep, before_new L) h.current

  pub back_holds : {m : ℕ} → t.now ≡ get_or s.saved (m - 1) no_state → t.depth ≡ m - 1 → t.saved ≡ s.saved → 1 ≤ m → m ≤ s.depth → BackHolds m s t
  back_holds {m} en ed es p q b L h = record {
    current = rw en (subst (λ (i : ℕ). StateIs b (before i L) (get_or s.saved (m - 1) no_state)) whole (h.marked (m - 1) inside));
    deep = ed ∙ sym (depth_before (m - 1) L inside) ∙ ap (λ (i : ℕ). depth (before i L)) whole;
    few = omega (arith, h.few, h.deep, cut);
    marked = λ k l.
        let i : k < m - 1 = omega (arith, cut) in
        rw (es, before_before (suc k) m L (omega arith) (omega arith)) (h.marked k (omega (arith, h.deep)));
    size = rw es h.size;
  }
    where
      inside : m - 1 < depth L
      inside = omega (arith, h.deep)

      whole : suc (m - 1) ≡ m
      whole = omega arith

      cut : depth (before m L) ≡ m - 1
      cut = ap (λ (i : ℕ). depth (before i L)) (sym whole) ∙ depth_before (m - 1) L inside

-- ---- one order
module _ (b : List ℕ) (s : Session) (o : List ℕ) where
  -- the session is given back as it was
  same : ((L : List Entry) → Holds b L s → Holds b (push (book_of b) L o) s) → Stepped b s o s
  same g = record { holds = g; refused = λ L h n. refl; finish = λ k. refl }

  pub step_refused : {r : ℕ} → Refuses b s o r → (r ≡ 0 → ⊥) → Stepped b s o s
  step_refused f n =
      same (λ L h. subst⁻¹ (λ (M : List Entry). Holds b M s) (push_refused (book_of b) L o (λ e. n (f L h ∙ e))) h)

  module _ {r : ℕ} (f : Refuses b s o r) (z : r ≡ 0) where
    accepted : (L : List Entry) → Holds b L s → refusal (book_of b) L o ≡ 0
    accepted L h = sym (f L h) ∙ z

    -- the order was accepted, and is no finish
    accepted_steps : (t : Session) → (kind o ≡ 4 → ⊥) → ((L : List Entry) → Holds b L s → Holds b (push (book_of b) L o) t) → Stepped b s o t
    accepted_steps t n g = record { holds = g; refused = λ L h m. absurd (m (accepted L h)); finish = λ k. absurd (n k) }

    pub step_narrow : (t : Session) {c m : ℕ} → kind o ≡ 1 → c ≡ argument o → m ≡ mask o → NarrowHolds b c m s t → Stepped b s o t
    step_narrow t {c} {m} k ec em n =
        accepted_steps t (λ f. omega arith)
        (λ L h. subst⁻¹ (λ (M : List Entry). Holds b M t) (push-narrow (book_of b) L o k (accepted L h)) (rw (ec, em) at (n L h)))

    pub step_mark : (t : Session) → kind o ≡ 2 → MarkHolds s t → Stepped b s o t
    step_mark t k n =
        accepted_steps t (λ f. omega arith)
        (λ L h. subst⁻¹ (λ (M : List Entry). Holds b M t) (push-mark (book_of b) L o k (accepted L h)) (n b L h))

    pub step_back : (t : Session) {m : ℕ} → kind o ≡ 3 → m ≡ argument o → BackHolds m s t → Stepped b s o t
    step_back t {m} k em n =
        accepted_steps t (λ f. omega arith)
        (λ L h. subst⁻¹ (λ (M : List Entry). Holds b M t) (push-back (book_of b) L o k (accepted L h)) (rw em at (n b L h)))

    -- a kind without effect
    pub step_other : (kind o ≡ 1 → ⊥) → (kind o ≡ 2 → ⊥) → (kind o ≡ 3 → ⊥) → Stepped b s o s
    step_other p q u =
        same (λ L h. push_ind (book_of b) L o (λ M. Holds b M s) h (λ k e. absurd (p k)) (λ k e. absurd (q k)) (λ k e. absurd (u k)))

    -- what an accepted order tells
    module _ (h : SomeSession b s) where
      pub narrow_inside : kind o ≡ 1 → argument o < columns_of b
      narrow_inside k = omega (arith, accepted_narrow (book_of b) h.trail o k (accepted h.trail h.holds), columns_count b)

      pub mark_room : kind o ≡ 2 → s.depth < 16
      mark_room k =
          lt_of_le-ne (omega (arith, h.holds.few, h.holds.deep))
          (λ e. accepted_mark (book_of b) h.trail o k (accepted h.trail h.holds) (sym h.holds.deep ∙ e))

      pub back_room : kind o ≡ 3 → (1 ≤ argument o) × (argument o ≤ s.depth) × (s.depth ≤ 16)
      back_room k =
          let r = accepted_back (book_of b) h.trail o k (accepted h.trail h.holds) in
          (omega (arith, r.0), omega (arith, r.1, h.holds.deep), omega (arith, h.holds.few, h.holds.deep))

    -- ---- the order as it was read
    pub fits : (x : Order) → order_is o x → SomeSession b s → Fits b s x
    fits (Narrow c m) p h = rw p.1 (narrow_inside h p.0)
    fits Mark k h = mark_room h k
    fits (Back m) p h = rw p.1 (back_room h p.0)
    fits (Finish n) p h = tt

    pub step_take : (x : Order) (t : Session) → order_is o x → TakeHolds b x s t → Stepped b s o t
    step_take (Narrow c m) t p n = step_narrow t p.0 p.1 p.2 n
    step_take Mark t k n = step_mark t k n
    step_take (Back m) t p n = step_back t p.0 p.1 n
    step_take (Finish n) t p e = rw e (step_other (λ k. omega (arith, p.0)) (λ k. omega (arith, p.0)) (λ k. omega (arith, p.0)))
