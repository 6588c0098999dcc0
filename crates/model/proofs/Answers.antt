-- Laws of answers: what an order shows, what every answer tells, and the 72 bytes. Assumes nothing.
use mathlib.Core.Path.{◌≡◌, refl, sym, ap, ap₂, ◌∙◌}
use mathlib.Core.Bool.{true, false}
use mathlib.Core.Logic.{◌⊎◌, inl, inr}
use mathlib.Core.List.{List, [], ◌∷◌, ◌++◌, map}
use Prim.Native.Nat.{ℕ, zero, suc, ◌+◌, ◌*◌, ◌-◌, ◌^◌, ◌≤◌, ◌<◌}
use native.Mathlib.Nat.{le_of_suc-le-suc}
use native.Mathlib.Omega.{arith}
use lib.Dec.{eqb}
use lib.ListN.{get_or-append, get_or, length, length-append}
use lib.Pow.{pow-lt}
use lib.Seq.{get_or-append-add}
use borrow.Author.Tests.{eqb-true, eqb-false}
use Rattle.fields.specs.Bytes.{byte_at, half_at, half_bytes, word_bytes}
use Rattle.fields.proofs.Bytes.{word_back}
use Rattle.model.specs.Tests.{tab}
use Rattle.model.specs.Books.{Book, column_count, WellFormed}
use Rattle.model.specs.Solutions.{Solution}
use Rattle.model.specs.Search.{searched}
use Rattle.model.specs.Orders.{kind, try_limit, Entry, depth as depth_of, refusal, AcceptedFinish, push, trail_from, domains}
use Rattle.model.specs.Answers.{status_of, done_of, Answer, Outcome, state_only, outcome_masks, limited, outcome, showing, answer, last_from, domain_bytes, answer_bytes, domain_in}
use Rattle.model.proofs.Tests.{below, either, tab_zeros}
use Rattle.model.proofs.Stores.{in_store}
use Rattle.model.proofs.Search.{get_d_map, searched_found}
use Rattle.model.proofs.Outcomes.{LimitedTo, is_found, is_none, is_stopped, limited_or, limited_tries}
use Rattle.model.proofs.Trails.{domains_closed, domains_store}
use Rattle.model.proofs.Refusals.{accepted_finish, push_finish}

-- ---- what an order shows
-- what an accepted finish shows, and any other order
pub outcome_finish : (b : Book) (L : List Entry) (o : List ℕ) → AcceptedFinish b L o → outcome b L o ≡ limited (try_limit o) (searched b (domains b L))
unfolding outcome
outcome_finish b L o f = rw (f.accepted, f.of_kind)

pub outcome_other : (b : Book) (L : List Entry) (o : List ℕ) → (AcceptedFinish b L o → ⊥) → outcome b L o ≡ state_only
unfolding outcome
outcome_other b L o n =
    go (either (eqb (refusal b L o) 0)) (either (eqb (kind o) 1)) (either (eqb (kind o) 2)) (either (eqb (kind o) 3)) (either (eqb (kind o) 4))
  where
    go : (eqb (refusal b L o) 0 ≡ true) ⊎ (eqb (refusal b L o) 0 ≡ false) → (eqb (kind o) 1 ≡ true) ⊎ (eqb (kind o) 1 ≡ false)
        → (eqb (kind o) 2 ≡ true) ⊎ (eqb (kind o) 2 ≡ false) → (eqb (kind o) 3 ≡ true) ⊎ (eqb (kind o) 3 ≡ false)
        → (eqb (kind o) 4 ≡ true) ⊎ (eqb (kind o) 4 ≡ false) → outcome b L o ≡ state_only
    go (inr r) x y w u = rw r
    go (inl r) (inl x) y w u = rw (r, x)
    go (inl r) (inr x) (inl y) w u = rw (r, x, y)
    go (inl r) (inr x) (inr y) (inl w) u = rw (r, x, y, w)
    go (inl r) (inr x) (inr y) (inr w) (inl u) = absurd (n (record { of_kind = eqb-true _ 4 u; accepted = eqb-true _ 0 r }))
    go (inl r) (inr x) (inr y) (inr w) (inr u) = rw (r, x, y, w, u)

-- an order is an accepted finish or not
pub finish_or : (b : Book) (L : List Entry) (o : List ℕ) → AcceptedFinish b L o ⊎ (AcceptedFinish b L o → ⊥)
finish_or b L o = go (either (eqb (kind o) 4)) (either (eqb (refusal b L o) 0))
  where
    go : (eqb (kind o) 4 ≡ true) ⊎ (eqb (kind o) 4 ≡ false) → (eqb (refusal b L o) 0 ≡ true) ⊎ (eqb (refusal b L o) 0 ≡ false)
        → AcceptedFinish b L o ⊎ (AcceptedFinish b L o → ⊥)
    go (inl k) (inl r) = inl (record { of_kind = eqb-true _ 4 k; accepted = eqb-true _ 0 r })
    go (inl k) (inr r) = inr (λ f. eqb-false _ 0 r f.accepted)
    go (inr k) r = inr (λ f. eqb-false _ 4 k f.of_kind)

-- the answer to each
pub answer_finish : (b : Book) (L : List Entry) (o : List ℕ) → AcceptedFinish b L o
    → answer b L o ≡ showing b L 0 (limited (try_limit o) (searched b (domains b L)))
unfolding answer
answer_finish b L o f = rw (outcome_finish b L o f, push_finish b L o f.of_kind, f.accepted)

pub answer_other : (b : Book) (L : List Entry) (o : List ℕ) → (AcceptedFinish b L o → ⊥) → answer b L o ≡ showing b (push b L o) (refusal b L o) state_only
unfolding answer
answer_other b L o n = rw (outcome_other b L o n)

-- ---- what every answer tells
-- status, done and depth of an answer are those of the trail that the order leaves
pub record Tells (b : Book) (L : List Entry) (a : Answer) : Type 0 where
  pub status : a.status ≡ status_of b (domains b L)
  pub done : a.done ≡ done_of b (domains b L)
  pub depth : a.depth ≡ depth_of L

pub showing_tells : (b : Book) (L : List Entry) (r : ℕ) (f : Outcome) → Tells b L (showing b L r f)
unfolding showing
showing_tells b L r f = record { status = refl; done = refl; depth = refl }

pub answer_tells : (b : Book) (L : List Entry) (o : List ℕ) → Tells b (push b L o) (answer b L o)
unfolding answer
answer_tells b L o = showing_tells b (push b L o) (refusal b L o) (outcome b L o)

pub last_tells : (b : Book) (os : List (List ℕ)) (L : List Entry) (a : Answer) → Tells b L a → Tells b (trail_from b L os) (last_from b L a os)
unfolding last_from trail_from
last_tells b [] L a t = t
last_tells b (o ∷ os) L a t = last_tells b os (push b L o) (answer b L o) (answer_tells b L o)

-- byte 0 of an answer is the refusal
pub answer_refused : (b : Book) (L : List Entry) (o : List ℕ) → (answer b L o).refused ≡ refusal b L o
unfolding answer showing
answer_refused b L o = refl

-- the masks of a solution, and of none, have 32 bits
pub map_out : (f : ℕ → ℕ) (l : List ℕ) (i : ℕ) → length l ≤ i → get_or (map f l) i 0 ≡ 0
map_out f [] i h = refl
map_out f (x ∷ xs) zero h = absurd (omega arith)
map_out f (x ∷ xs) (suc i) h = map_out f xs i (le_of_suc-le-suc h)

module _ (b : Book) (p : WellFormed b) (L : List Entry) where
  abbrev D : List ℕ
  D = domains b L

  abbrev C : ℕ
  C = column_count b

  masks_small : (n c : ℕ) → get_or (outcome_masks (column_count b) (domains b L) (limited n (searched b (domains b L)))) c 0 < 2 ^ 32
  masks_small n c = go (limited_or n (searched b D))
    where
      zero_small : ◌<◌ 0 (2 ^ 32)
      zero_small = omega arith

      none_small : get_or (tab C (λ c. 0)) c 0 < 2 ^ 32
      none_small = rw (tab_zeros C c) zero_small

      some_small : (x : List ℕ) → Solution b D x → (c < length x) ⊎ (length x ≤ c) → get_or (map (λ v. 2 ^ v) x) c 0 < 2 ^ 32
      some_small x f (inl l) =
          rw (get_d_map (λ v. 2 ^ v) x c l) (pow-lt (in_store C D (domains_store b L) c (get_or x c 0) (f.takes c (rw f.size at l))).1)
      some_small x f (inr l) = rw (map_out (λ v. 2 ^ v) x c l) zero_small

      go : LimitedTo n (searched b D) → get_or (outcome_masks C D (limited n (searched b D))) c 0 < 2 ^ 32
      go (is_found x t e s l) =
          rw e (some_small x ((searched_found b p D (domains_store b L) (domains_closed b L) x).0 s).solution (below c (length x)))
      go (is_none t e s l) = rw e none_small
      go (is_stopped e l) = rw e none_small

  pub shown_small : (o : List ℕ) (c : ℕ) → get_or (answer b L o).shown c 0 < 2 ^ 32
  unfolding showing
  shown_small o c = go (finish_or b L o)
    where
      go : AcceptedFinish b L o ⊎ (AcceptedFinish b L o → ⊥) → get_or (answer b L o).shown c 0 < 2 ^ 32
      go (inl f) = rw (answer_finish b L o f) (masks_small (try_limit o) c)
      go (inr n) = rw (answer_other b L o n) ((domains_store b (push b L o)).bits c)

-- the tries made fit two bytes
pub tries_small : (b : Book) (L : List Entry) (o : List ℕ) → (answer b L o).tries < 65536
unfolding showing
tries_small b L o = go (finish_or b L o)
  where
    go : AcceptedFinish b L o ⊎ (AcceptedFinish b L o → ⊥) → (answer b L o).tries < 65536
    go (inl f) =
        rw (answer_finish b L o f)
        (omega (arith, limited_tries (try_limit o) (searched b (domains b L)), accepted_finish b L o f.of_kind f.accepted))
    go (inr n) = rw (answer_other b L o n) (omega arith)

-- ---- the 72 bytes
-- the bytes before the domains
pub bytes_0 : (a : Answer) → byte_at (answer_bytes a) 0 ≡ a.refused
unfolding answer_bytes
bytes_0 a = refl

pub bytes_1 : (a : Answer) → byte_at (answer_bytes a) 1 ≡ a.status
unfolding answer_bytes
bytes_1 a = refl

pub bytes_2 : (a : Answer) → byte_at (answer_bytes a) 2 ≡ a.depth
unfolding answer_bytes
bytes_2 a = refl

pub bytes_3 : (a : Answer) → byte_at (answer_bytes a) 3 ≡ a.outcome
unfolding answer_bytes
bytes_3 a = refl

pub bytes_4 : (a : Answer) → byte_at (answer_bytes a) 4 ≡ a.done
unfolding answer_bytes
bytes_4 a = refl

pub bytes_5 : (a : Answer) → byte_at (answer_bytes a) 5 ≡ 0
unfolding answer_bytes
bytes_5 a = refl

-- bytes 6 and 7 are the tries
pub bytes_6_7 : (a : Answer) → a.tries < 65536 → half_at (answer_bytes a) 6 ≡ a.tries
unfolding answer_bytes
bytes_6_7 a l = omega arith

-- bytes 6 on are the tries and the domains shown
pub bytes_6_on : (a : Answer) (i : ℕ) → 6 ≤ i → byte_at (answer_bytes a) i ≡ get_or (half_bytes a.tries ++ domain_bytes a.shown 16) (i - 6) 0
unfolding answer_bytes
bytes_6_on a i p =
    let e : i ≡ suc (suc (suc (suc (suc (suc (i - 6)))))) = omega arith in
    ap (λ (j : ℕ). byte_at (answer_bytes a) j) e

pub bytes_8_on : (a : Answer) (i : ℕ) → 8 ≤ i → byte_at (answer_bytes a) i ≡ get_or (domain_bytes a.shown 16) (i - 8) 0
unfolding answer_bytes
bytes_8_on a i p =
    let e : i ≡ suc (suc (suc (suc (suc (suc (suc (suc (i - 8)))))))) = omega arith in
    ap (λ (j : ℕ). byte_at (answer_bytes a) j) e

-- how many they are
pub domain_bytes-length : (D : List ℕ) (n : ℕ) → length (domain_bytes D n) ≡ 4 * n
unfolding domain_bytes
domain_bytes-length D zero = refl
domain_bytes-length D (suc n) = simp length-append (omega (arith, domain_bytes-length D n))

pub answer-length : (a : Answer) → length (answer_bytes a) ≡ 72
unfolding answer_bytes
answer-length a = omega (arith, domain_bytes-length a.shown 16)

-- only the first n masks count
pub domain_bytes_same : (D E : List ℕ) (n : ℕ) → ((c : ℕ) → c < n → get_or D c 0 ≡ get_or E c 0) → domain_bytes D n ≡ domain_bytes E n
unfolding domain_bytes
domain_bytes_same D E zero h = refl
domain_bytes_same D E (suc n) h =
    ap₂ (λ (l : List ℕ) (x : ℕ). l ++ word_bytes x) (domain_bytes_same D E n (λ c l. h c (omega arith))) (h n (omega arith))

-- ---- a domain and its four bytes
domain_byte : (D : List ℕ) (n c j : ℕ) → c < n → j < 4 → get_or (domain_bytes D n) (4 * c + j) 0 ≡ get_or (word_bytes (get_or D c 0)) j 0
unfolding domain_bytes
domain_byte D zero c j l m = absurd (omega arith)
domain_byte D (suc n) c j l m = go (λ k. domain_byte D n c j k m) (below c n)
  where
    size : length (domain_bytes D n) ≡ 4 * n
    size = domain_bytes-length D n

    go : (c < n → get_or (domain_bytes D n) (4 * c + j) 0 ≡ get_or (word_bytes (get_or D c 0)) j 0)
        → (c < n) ⊎ (n ≤ c) → get_or (domain_bytes D n ++ word_bytes (get_or D n 0)) (4 * c + j) 0 ≡ get_or (word_bytes (get_or D c 0)) j 0
    go rec (inl k) = get_or-append (domain_bytes D n) (word_bytes (get_or D n 0)) 0 (4 * c + j) (omega (arith, size)) ∙ rec k
    go rec (inr k) =
        let e : c ≡ n = omega arith in
        let f : 4 * c + j ≡ length (domain_bytes D n) + j = omega (arith, size) in
        ap (λ (i : ℕ). get_or (domain_bytes D n ++ word_bytes (get_or D n 0)) i 0) f
        ∙ get_or-append-add (domain_bytes D n) (word_bytes (get_or D n 0)) j 0
        ∙ ap (λ (i : ℕ). get_or (word_bytes (get_or D i 0)) j 0) (sym e)

-- byte 8 + i of an answer
shown_byte : (a : Answer) (c j : ℕ) → c < 16 → j < 4 → byte_at (answer_bytes a) (8 + 4 * c + j) ≡ get_or (word_bytes (get_or a.shown c 0)) j 0
shown_byte a c j l m =
    let e : 8 + 4 * c + j - 8 ≡ 4 * c + j = omega arith in
    bytes_8_on a (8 + 4 * c + j) (omega arith) ∙ ap (λ (i : ℕ). get_or (domain_bytes a.shown 16) i 0) e ∙ domain_byte a.shown 16 c j l m

-- a domain read back
pub domain_back : (a : Answer) (c : ℕ) → c < 16 → get_or a.shown c 0 < 2 ^ 32 → domain_in (answer_bytes a) c ≡ get_or a.shown c 0
domain_back a c l small = word_back (answer_bytes a) (8 + 4 * c) (get_or a.shown c 0) small (λ j m. shown_byte a c j l m)
