-- Laws of the number and the space of a run. Assumes nothing.
use mathlib.Core.Path.{◌∙◌, ◌≡◌, ap, refl, sym}
use mathlib.Core.Bool.{Bool, false, true}
use mathlib.Core.Logic.{◌⊎◌, inl, inr}
use mathlib.Core.List.{List, []}
use Prim.Native.Nat.{◌%◌, ◌*◌, ◌+◌, ◌/◌, ◌<◌, ◌≤◌, ℕ}
use native.Mathlib.Omega.{arith}
use lib.Dec.{eqb, leb, ltb}
use lib.ListN.{length}
use borrow.Author.Tests.{eqb-false, eqb-true, le-leb, le-ltb, leb-false, leb-true, lt-leb, lt-ltb, ltb-false, ne_eqb, not-false}
use Rattle.model.specs.Answers.{accepted_count, answers}
use Rattle.model.proofs.Tests.{either, length-tab, or_false_l, or_false_r}
use Rattle.book.specs.Decoding.{book_of}
use Rattle.book.specs.Refusals.{refusal_number, verdict_of}
use Rattle.book.specs.Verdicts.{Accepted, check_result, number_of, refused, verdict}
use Rattle.book.specs.declared.refused.Refusal.{Refusal}
use Rattle.book.specs.declared.refused.Refusal.TheVariants.{Blocks, Check, Field, Filler, Length, Order, Value}
use Rattle.sessions.specs.Lists.{order_at, orders_of}
use Rattle.runs.specs.Results.{RightInput, run_number, run_refusal, run_refusal_number, run_result, run_space, space_needed, wrong_list}
use Rattle.runs.specs.declared.run.RunRefusal.{RunRefusal}
use Rattle.runs.specs.declared.run.RunRefusal.TheVariants as refusal
use Rattle.std.specs.Prelude.{Err, IsErrAnd, Ok, Result}
use Rattle.answers.specs.Spaces.{written}
use Rattle.runs.proofs.Runs.{accepted_few}

pub whole_list : (o : List ℕ) → wrong_list o ≡ false → length o % 8 ≡ 0
unfolding wrong_list
whole_list o e = eqb-true (length o % 8) 0 (not-false _ (or_false_r (ltb 2048 (length o)) _ e))

pub right_list : (o : List ℕ) → wrong_list o ≡ false → length o ≤ 2048
unfolding wrong_list
right_list o e = ltb-false 2048 (length o) (or_false_l (ltb 2048 (length o)) _ e)

-- the number of a refusal, 65,536 or more
refusal_above : (e : Refusal) → 65536 ≤ refusal_number e
refusal_above Length = omega arith
refusal_above (Check n) = omega arith
refusal_above (Field n) = omega arith
refusal_above (Blocks n) = omega arith
refusal_above (Value n) = omega arith
refusal_above (Filler n) = omega arith
refusal_above (Order n) = omega arith

-- what the code returns for a book that is refused
pub book_number : (r : Result ℕ RunRefusal) (e : Refusal) → IsErrAnd r (λ s. s ≡ refusal.Book e) → run_number r ≡ refusal_number e
book_number (Ok n) e h = absurd h
book_number (Err s) e h = ap run_refusal_number h

-- ---- the number and the space
module _ (b o : List ℕ) (room : ℕ) where
  pub right_input : run_refusal b o room ≡ 0 → RightInput b o room
  unfolding run_refusal
  right_input e = go (either (leb 65536 (check_result b))) (either (wrong_list o)) (either (ltb room (space_needed o)))
    where
      go : (leb 65536 (check_result b) ≡ true) ⊎ (leb 65536 (check_result b) ≡ false) → (wrong_list o ≡ true) ⊎ (wrong_list o ≡ false)
          → (ltb room (space_needed o) ≡ true) ⊎ (ltb room (space_needed o) ≡ false) → RightInput b o room
      go (inl p) q r = let z : check_result b ≡ 0 = rw p at e in absurd (omega (arith, leb-true 65536 (check_result b) p))
      go (inr p) (inl q) r = let z : 10 * 65536 + 0 ≡ 0 = rw (p, q) at e in absurd (omega arith)
      go (inr p) (inr q) (inl r) = let z : 11 * 65536 + space_needed o ≡ 0 = rw (p, q, r) at e in absurd (omega arith)
      go (inr p) (inr q) (inr r) = record { book = leb-false 65536 (check_result b) p; list = q; enough = ltb-false room (space_needed o) r }

  pub right_zero : RightInput b o room → run_refusal b o room ≡ 0
  unfolding run_refusal
  right_zero h = rw (lt-leb 65536 (check_result b) h.book, h.list, le-ltb room (space_needed o) h.enough) refl

  -- a refusal is 65,536 or more
  refusal_large : (run_refusal b o room ≡ 0 → ⊥) → 65536 ≤ run_refusal b o room
  unfolding run_refusal
  refusal_large n = go (either (leb 65536 (check_result b))) (either (wrong_list o)) (either (ltb room (space_needed o)))
    where
      go : (leb 65536 (check_result b) ≡ true) ⊎ (leb 65536 (check_result b) ≡ false) → (wrong_list o ≡ true) ⊎ (wrong_list o ≡ false)
          → (ltb room (space_needed o) ≡ true) ⊎ (ltb room (space_needed o) ≡ false) → 65536 ≤ run_refusal b o room
      go (inl p) q r = rw p (leb-true 65536 (check_result b) p)
      go (inr p) (inl q) r = rw (p, q) (omega arith)
      go (inr p) (inr q) (inl r) = rw (p, q, r) (omega arith)
      go (inr p) (inr q) (inr r) = absurd (n (rw (p, q, r)))

  pub result_accepted : run_refusal b o room ≡ 0 → run_result b o room ≡ accepted_count (book_of b) (orders_of o)
  unfolding run_result
  result_accepted e = rw e

  pub result_refused : (run_refusal b o room ≡ 0 → ⊥) → run_result b o room ≡ run_refusal b o room
  unfolding run_result
  result_refused n = rw (ne_eqb (run_refusal b o room) 0 n)

  pub result_small : run_refusal b o room ≡ 0 → run_result b o room < 65536
  result_small e =
      omega (
        arith,
        result_accepted e,
        accepted_few (book_of b) [] (orders_of o),
        length-tab (length o / 8) (order_at o),
        right_list o (right_input e).list,
      )

  pub zero_or : (run_refusal b o room ≡ 0) ⊎ (run_refusal b o room ≡ 0 → ⊥)
  zero_or = go (either (eqb (run_refusal b o room) 0))
    where
      go : (eqb (run_refusal b o room) 0 ≡ true) ⊎ (eqb (run_refusal b o room) 0 ≡ false) → (run_refusal b o room ≡ 0) ⊎ (run_refusal b o room ≡ 0 → ⊥)
      go (inl e) = inl (eqb-true _ 0 e)
      go (inr e) = inr (eqb-false _ 0 e)

  -- a small number says that the run was accepted
  pub accepted_number : run_result b o room < 65536 → run_refusal b o room ≡ 0
  accepted_number l = go zero_or
    where
      go : (run_refusal b o room ≡ 0) ⊎ (run_refusal b o room ≡ 0 → ⊥) → run_refusal b o room ≡ 0
      go (inl e) = e
      go (inr n) = absurd (omega (arith, result_refused n, refusal_large n))

module _ (b o space : List ℕ) where
  pub space_accepted : run_refusal b o (length space) ≡ 0 → run_space b o space ≡ written (answers (book_of b) (orders_of o)) space
  unfolding run_space
  space_accepted e = rw e

  pub space_refused : (run_refusal b o (length space) ≡ 0 → ⊥) → run_space b o space ≡ space
  unfolding run_space
  space_refused n = rw (ne_eqb (run_refusal b o (length space)) 0 n)

  -- ---- each refusal, as the code gives it
  -- the number is a refusal, so nothing is written
  refuses_with : {r : ℕ} → run_refusal b o (length space) ≡ r → (r ≡ 0 → ⊥) → (r ≡ run_result b o (length space)) × (space ≡ run_space b o space)
  refuses_with {r} q n =
      let z : run_refusal b o (length space) ≡ 0 → ⊥ = λ y. n (sym q ∙ y) in
      (sym (result_refused b o (length space) z ∙ q), sym (space_refused z))

  pub book_refused : (e : Refusal) → verdict b ≡ verdict_of e → (refusal_number e ≡ run_result b o (length space)) × (space ≡ run_space b o space)
  unfolding run_refusal check_result
  book_refused e v =
      let f : check_result b ≡ refusal_number e = ap number_of v in
      let l = refusal_above e in
      let k : 65536 ≤ check_result b = omega arith in
      refuses_with (rw (le-leb 65536 (check_result b) k) f) (λ y. omega arith)

  module _ (l : Accepted b) {w : Bool} (f : w ≡ wrong_list o) where
    fits : leb 65536 (check_result b) ≡ false
    fits = lt-leb 65536 (check_result b) l

    pub list_refused : w ≡ true → (refused 10 0 ≡ run_result b o (length space)) × (space ≡ run_space b o space)
    unfolding run_refusal
    list_refused t = refuses_with (rw (fits, ← f, t) refl) (λ y. omega arith)

    pub space_short : w ≡ false → length space < space_needed o → (refused 11 (space_needed o) ≡ run_result b o (length space)) × (space ≡ run_space b o space)
    unfolding run_refusal
    space_short t s = refuses_with (rw (fits, ← f, t, lt-ltb (length space) (space_needed o) s) refl) (λ y. omega arith)
