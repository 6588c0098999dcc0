-- Laws of the search: states that are not failed, the branches at a column, and a whole finish. Assumes nothing.
use mathlib.Core.Path.{◌∙◌, ◌≡◌, ap, refl, subst, subst⁻¹, sym}
use mathlib.Core.Bool.{◌&&◌, Bool, false, false≢true, not, true}
use mathlib.Core.Logic.{◌⊎◌, inl, inr}
use mathlib.Core.Option.{none, some}
use mathlib.Core.List.{List, [], ◌++◌, ◌∷◌, map}
use Prim.Native.Nat.{◌%◌, ◌*◌, ◌+◌, ◌<◌, ◌^◌, ◌≤◌, ℕ}
use native.Mathlib.Nat.{lt_of_le_of_lt}
use native.Mathlib.Omega.{arith}
use borrow.Author.Tests.{eq-eqb, lt-ltb, ne_eqb}
use lib.Bits.{and_le_l, bit_and}
use lib.Dec.{eqb, ltb}
use lib.ListN.{get_or-eq_default, get_or, length, set, replicate}
use Rattle.std.proofs.lemmas.List.Quantifiers.{position-Some}
use Rattle.std.proofs.lemmas.List.Sums.{fails_before_first}
use Rattle.std.proofs.lemmas.Option.{none-some}
use Rattle.std.specs.List.{position, position_or_len}
use Rattle.std.specs.Prelude.{None, Option, Some}
use lib.Pow.{pow-lt, pow_pos}
use Rattle.model.specs.Answers.{Outcome, found, limited, outcome_number, outcome_tries}
use Rattle.model.specs.Books.{ConsistentStore, WellFormed, closure, column_count}
use Rattle.model.specs.Masks.{bit, size}
use Rattle.model.specs.Orders.{domains, narrowed, allowed}
use Rattle.model.specs.Search.{Searched, after, following, open_column, or_else, searched, try_each, at_once, value_of}
use Rattle.model.specs.Stores.{IsStore, all_filled, assign, empty_store, has, meet, values}
use Rattle.model.specs.Tests.{FirstIn, FirstOf, NoneIn, tab}
use Rattle.model.proofs.Firsts.{first_of_found}
use Rattle.model.proofs.Masks.{bit-and, bit_pow, bit_pow_only, mask_ext, size_zero, bit_of_zero, lowest_under}
use Rattle.model.proofs.Outcomes.{LimitedTo, is_found, is_none, is_stopped, limited_enough, limited_or, limited_stopped, unlimited_none}
use Rattle.model.proofs.Search.{after_fewer, after_store, assigned_masks, else_found, else_more, else_none, following_0, many_column, open_at, open_none, searched_empty, searched_open, searched_single, single_column, try_each-lowest, try_each_none, try_each_same}
use Rattle.model.proofs.Stores.{empty_unfilled, filled_e, filled_i, in_store}
use Rattle.model.proofs.Tests.{and_false, and_i, and_r, and_true, below, either, same_test, zeros_at, tab_zeros}
use Rattle.model.proofs.Trails.{domains_store, allowed_store}
use Rattle.model.proofs.Books.{closed_or_empty}
use Rattle.book.specs.Decoding.{book_of}
use Rattle.heads.specs.Heads.{columns_of}
use Rattle.book.specs.Verdicts.{Accepted}
use Rattle.book.proofs.Decoding.{accepted_right, right_formed}
use Rattle.heads.proofs.Heads.{columns_range}
use Rattle.cells.specs.Places.{Taken}
use Rattle.cells.proofs.Walks.{split}
use Rattle.engine.specs.Layouts.{LayoutOf}
use Rattle.engine.specs.Propagation.{Fixpoint, Ready, closure_in, is_open, store_in}
use Rattle.engine.specs.Worklists.{WaitingFor}
use Rattle.engine.specs.States.{SomeState}
use Rattle.engine.specs.declared.state.State.{State}
use Rattle.engine.proofs.States.{met_closure, met_store, narrow_ready}
use Rattle.engine.proofs.Propagation.{columns_count, is_store_in, store_is, no_value}
use Rattle.search.specs.Searches.{FilledState, Finishes, OpenValue, OutcomeIs, Reaches, number_in, search_after, search_in}
use Rattle.search.specs.declared.Outcome.{Outcome as Held}
use Rattle.search.specs.declared.Outcome.TheVariants.{Found, NotFound, StateOnly, Stopped}

-- the first element that passes, by its place
pub first_of_position : (p : ℕ → Bool) (xs : List ℕ) → FirstOf (λ i. p (get_or xs i 0)) 0 (length xs) (position p xs)
first_of_position p xs = go (position p xs) refl
  where
    go : (o : Option ℕ) → position p xs ≡ o → FirstOf (λ i. p (get_or xs i 0)) 0 (length xs) o
    go (Some i) e = let f = position-Some p xs i 0 e in first_of_found (omega arith) f.0 (record { at = λ k l m. f.2 k m }) f.1
    go None e = record { at = λ k l m. fails_before_first p xs k 0 (far k m (below (position_or_len p xs) (length xs))) }
      where
        far : (k : ℕ) → k < length xs → (position_or_len p xs < length xs) ⊎ (length xs ≤ position_or_len p xs) → k < position_or_len p xs
        far k m (inl l) = absurd (none-some _ (sym (rw (lt-ltb (position_or_len p xs) (length xs) l) at e)))
        far k m (inr l) = omega arith

-- how many values are left: what falls as the search goes deeper
abbrev pub values_left : List ℕ → List ℕ → ℕ
values_left b D = values (column_count (book_of b)) (store_in b D)

-- a column set to one of its values is met with that value
value_met : (D : List ℕ) (c v : ℕ) → get_or D c 0 < 2 ^ 32 → v < 32 → has D c v ≡ true → bit_and (get_or D c 0) (2 ^ v) ≡ 2 ^ v
unfolding has
value_met D c v f l h =
    mask_ext 32 (bit_and (get_or D c 0) (2 ^ v)) (2 ^ v) (lt_of_le_of_lt (and_le_l (get_or D c 0) (2 ^ v)) f) (pow-lt l)
    (λ u q.
    same_test _ _
    (λ e. and_r (bit u (get_or D c 0)) _ (sym (bit-and u (get_or D c 0) (2 ^ v)) ∙ e))
    (λ e.
    let k = bit_pow_only v u e in
    rw k (bit-and v (get_or D c 0) (2 ^ v) ∙ and_i h (bit_pow v))))

assign-meet : (D : List ℕ) (c v : ℕ) → get_or D c 0 < 2 ^ 32 → v < 32 → has D c v ≡ true → meet D c (2 ^ v) ≡ assign D c v
assign-meet D c v f l h = ap (set D c) (value_met D c v f l h)

module _ (b : List ℕ) (acc : Accepted b) where
  pub book_formed : WellFormed (book_of b)
  book_formed = right_formed b (accepted_right b acc)

  module _ {st : State} (h : FilledState b st) where
    abbrev E : List ℕ
    E = store_in b st.dom

    -- ---- the store
    pub filled_store : IsStore (column_count (book_of b)) (store_in b st.dom)
    filled_store = is_store_in b h.is.store

    filled_domains : store_in b st.dom ≡ domains (book_of b) h.trail
    filled_domains = store_is b st.dom (domains (book_of b) h.trail) (domains_store (book_of b) h.trail) h.is.holds.domain

    pub filled_same : (c : ℕ) → get_or st.dom c 0 ≡ get_or (store_in b st.dom) c 0
    filled_same c = rw filled_domains (h.is.holds.domain c)

    pub same_has : (c v : ℕ) → has st.dom c v ≡ has (store_in b st.dom) c v
    unfolding has
    same_has c v = ap (bit v) (filled_same c)

    pub some_value : (c : ℕ) → c < column_count (book_of b) → (v : ℕ) × (has (store_in b st.dom) c v ≡ true)
    some_value c l = let p = h.filled c (omega (arith, columns_count b)) in (p.0, sym (same_has c p.0) ∙ p.1)

    -- ---- the lowest open column
    -- the columns below it are single
    pub single_below : {r : ℕ} → NoneIn (is_open st.dom) 0 r → (c : ℕ) → c < column_count (book_of b) → c < r → eqb (size (get_or (store_in b st.dom) c 0)) 1 ≡ true
    unfolding is_open
    single_below f c l q =
        let v = some_value c l in
        single_column (column_count (book_of b)) E filled_store c v.0 v.1
        (ap (λ (m : ℕ). ltb 1 (size m)) (sym (filled_same c)) ∙ f.at c (omega arith) q)

    -- it is one of the book's: the others are empty
    pub open_inside : (c : ℕ) → is_open st.dom c ≡ true → c < columns_of b
    unfolding is_open
    open_inside c e = go (below c (columns_of b))
      where
        go : (c < columns_of b) ⊎ (columns_of b ≤ c) → c < columns_of b
        go (inl l) = l
        go (inr l) =
            let z : get_or st.dom c 0 ≡ 0 = filled_same c ∙ get_or-eq_default E 0 (omega (arith, filled_store.columns, columns_count b)) in
            absurd (false≢true (sym (ap (λ (m : ℕ). ltb 1 (size m)) z ∙ ap (ltb 1) size_zero) ∙ e))

    -- ---- column c set to v
    module _ {c v m : ℕ} (o : OpenValue b st.dom c v) (alone : m ≡ 2 ^ v) where
      inside : c < column_count (book_of b)
      inside = omega (arith, o.column, columns_count b)

      value : has (store_in b st.dom) c v ≡ true
      value = sym (same_has c v) ∙ o.value

      pub value_small : v < 32
      value_small = (in_store (column_count (book_of b)) E filled_store c v value).1

      set-meet : meet st.dom c (2 ^ v) ≡ set st.dom c m
      set-meet = assign-meet st.dom c v (h.is.store.bits c) value_small o.value ∙ ap (set st.dom c) (sym alone)

      left : bit_and (get_or st.dom c 0) (2 ^ v) ≡ 0 → ⊥
      left e =
          let z : 2 ^ v ≡ 0 = sym (value_met st.dom c v (h.is.store.bits c) value_small o.value) ∙ e in
          omega (arith, pow_pos v)

      pub value_ready : {begins M S : List ℕ} → LayoutOf b begins M S → {waiting : ℕ} → WaitingFor M ((1 * 2 ^ c) % 2 ^ 32) 8 waiting
          → Ready b false waiting ((1 * 2 ^ c) % 2 ^ 32) (record { dom = set st.dom c m; rows = st.rows })
      value_ready lay {waiting} w =
          subst (λ (S : List ℕ). Ready b false waiting ((1 * 2 ^ c) % 2 ^ 32) (record { dom = S; rows = st.rows })) set-meet
          (narrow_ready b acc h.trail h.is.holds h.is.store h.is.sized c (2 ^ v) o.column left lay w)

      -- what propagation comes to is the closure of the store with v set
      after_is : closure_in b (set st.dom c m) ≡ after (book_of b) (store_in b st.dom) c v
      after_is =
          ap (closure_in b) (sym set-meet)
          ∙ ap (closure (book_of b)) (met_store b acc h.trail h.is.holds h.is.store h.is.sized c (2 ^ v) o.column)
          ∙ ap (λ (S : List ℕ). closure (book_of b) (meet S c (2 ^ v))) (sym filled_domains)
          ∙ ap (closure (book_of b)) (assign-meet E c v (filled_store.bits c) value_small value)

      value_trail : closure_in b (set st.dom c m) ≡ domains (book_of b) (h.trail ++ (narrowed c (2 ^ v) ∷ []))
      value_trail =
          ap (closure_in b) (sym set-meet) ∙ met_closure b acc h.trail h.is.holds h.is.store h.is.sized c (2 ^ v) o.column

      -- no store is left: nothing more is tried
      pub value_none : {t : State} {r : Bool} → Fixpoint b (set st.dom c m) t r → r ≡ false → search_after b st.dom c v ≡ at_once none
      value_none p n =
          searched_empty (book_of b) book_formed (after (book_of b) E c v) (after_store (book_of b) book_formed E filled_store c inside v value)
          (subst (λ (S : List ℕ). all_filled (column_count (book_of b)) S ≡ false) (sym (p.failed n) ∙ after_is)
          (empty_unfilled (column_count (book_of b)) book_formed.some_column))

      -- a store is left: the state of the trail with the narrow
      module _ {t : State} {r : Bool} (p : Fixpoint b (set st.dom c m) t r) (kept : r ≡ true) where
        pub value_filled : FilledState b t
        value_filled = record {
          trail = h.trail ++ (narrowed c (2 ^ v) ∷ []);
          is = record { holds = rw (← value_trail) (p.state kept); store = p.store; sized = p.sized };
          filled = p.filled kept;
        }

        value_store : store_in b t.dom ≡ after (book_of b) (store_in b st.dom) c v
        value_store =
            store_is b t.dom (after (book_of b) E c v) (after_store (book_of b) book_formed E filled_store c inside v value)
            (λ k. (p.state kept).domain k ∙ ap (λ (S : List ℕ). get_or S k 0) after_is)

        pub value_found : {n m : ℕ} {f : Held} → Reaches b n m (search_in b t.dom) f → Reaches b n m (search_after b st.dom c v) f
        value_found {n} {m} {f} s = subst (λ (S : List ℕ). Reaches b n m (searched (book_of b) S) f) value_store s

        pub value_fewer : values_left b t.dom < values_left b st.dom
        unfolding is_open
        value_fewer =
            subst⁻¹ (λ (S : List ℕ). values (column_count (book_of b)) S < values_left b st.dom) value_store
            (after_fewer (book_of b) book_formed E filled_store c inside v value
            (many_column (get_or E c 0) (ap (λ (m : ℕ). ltb 1 (size m)) (sym (filled_same c)) ∙ o.more)))

-- ---- what is given
-- searches that come to the same
reaches_as : {b : List ℕ} {n m k : ℕ} {g h : Searched} {f : Held} → following m g ≡ following k h → Reaches b n m g f → Reaches b n k h f
reaches_as {b} {n} {f = f} e s = record { shows = λ D. subst (λ (i : Searched). OutcomeIs b D (limited n i) f) e (s.shows D) }

-- no solution is shown: none, or stopped
no_masks : (b : List ℕ) (c : ℕ) → c < 16 → ◌≡◌ {A = ℕ} (get_or (replicate 16 0) c 0) (get_or (tab (column_count (book_of b)) (λ c. 0)) c 0)
no_masks b c l = zeros_at 16 c ∙ sym (tab_zeros (column_count (book_of b)) c)

module _ (b : List ℕ) {n m : ℕ} {g : Searched} where
  pub none_reached : {t : ℕ} → g.solution ≡ none → t ≡ m + g.tries → t ≤ n → Reaches b n m g (NotFound t)
  none_reached {t} e q l =
      record {
        shows = λ D.
            subst⁻¹ (λ (x : Outcome). OutcomeIs b D x (NotFound t))
            (limited_enough n (following m g) (rw q at l) ∙ unlimited_none (following m g) e)
            (record { number = refl; tries = q; masks = no_masks b });
      }

  pub stopped_reached : n < m + g.tries → Reaches b n m g (Stopped n)
  stopped_reached l =
      record {
        shows = λ D.
            subst⁻¹ (λ (x : Outcome). OutcomeIs b D x (Stopped n)) (limited_stopped n (following m g) l)
            (record { number = refl; tries = refl; masks = no_masks b });
      }

-- what a search that found none says
given_none : {b : List ℕ} {n m t : ℕ} {g : Searched} → Reaches b n m g (NotFound t) → (g.solution ≡ none) × (t ≡ m + g.tries) × (t ≤ n)
given_none {b} {n} {m} {t} {g} h = go (limited_or n (following m g)) (h.shows [])
  where
    go : LimitedTo n (following m g) → OutcomeIs b [] (limited n (following m g)) (NotFound t) → (g.solution ≡ none) × (t ≡ m + g.tries) × (t ≤ n)
    go (is_found x u q s l) o = let z : ◌≡◌ {A = ℕ} 2 1 = o.number ∙ ap outcome_number q in absurd (omega arith)
    go (is_none u q s l) o = let z : t ≡ u = o.tries ∙ ap outcome_tries q in (s, z ∙ l.0, rw z l.1)
    go (is_stopped q l) o = let z : ◌≡◌ {A = ℕ} 2 3 = o.number ∙ ap outcome_number q in absurd (omega arith)

-- an outcome of number 2 is that of a search that found none
found_none : (f : Held) → number_in f ≡ 2 → (t : ℕ) × (f ≡ NotFound t)
found_none StateOnly e = absurd (omega (arith, e))
found_none (Found x t) e = absurd (omega (arith, e))
found_none (NotFound t) e = (t, refl)
found_none (Stopped t) e = absurd (omega (arith, e))

-- ---- the values of column c that are still to be tried: those in `rest`, after `count` tries
pub record Untried (b D : List ℕ) (c made rest count : ℕ) : Type 0 where
  pub own : (v : ℕ) → bit v rest ≡ true → has D c v ≡ true
  -- their search, after so many tries, comes to what the whole search comes to
  pub left : following made (search_in b D) ≡ following count (try_each 32 (λ v. bit v rest) (λ v. search_after b D c v))

module _ (b : List ℕ) (acc : Accepted b) {st : State} (h : FilledState b st) where
  abbrev S : List ℕ
  S = store_in b st.dom

  filled : all_filled (column_count (book_of b)) (store_in b st.dom) ≡ true
  filled = filled_i (column_count (book_of b)) S (filled_store b acc h) (some_value b acc h)

  -- ---- every column is single: the domains are the solution
  pub found_assigned : {n m : ℕ} → NoneIn (is_open st.dom) 0 16 → m ≤ n → Reaches b n m (search_in b st.dom) (Found st.dom m)
  found_assigned {n} {m} g l =
      record {
        shows = λ A.
            subst⁻¹ (λ (x : Outcome). OutcomeIs b A x (Found st.dom m)) shows
            (record {
              number = refl;
              tries = omega arith;
              masks = λ c i.
                  filled_same b acc h c
                  ∙ ap (λ (M : List ℕ). get_or M c 0)
                  (sym (assigned_masks (column_count (book_of b)) S (filled_store b acc h) (some_value b acc h) one));
            });
      }
    where
      one : (c : ℕ) → c < column_count (book_of b) → eqb (size (get_or (store_in b st.dom) c 0)) 1 ≡ true
      one c l =
          let few : c < 16 = omega (arith, columns_count b, (columns_range b (accepted_right b acc).head).1) in
          single_below b acc h g c l few

      shows : limited n (following m (search_in b st.dom)) ≡ found (map value_of (store_in b st.dom)) (m + 0)
      shows =
          ap (λ (i : Searched). limited n (following m i)) (searched_single (book_of b) (book_formed b acc) S (filled_store b acc h) filled (open_none (column_count (book_of b)) S one))
          ∙ limited_enough n (following m (at_once (some (map value_of S)))) (omega arith)

  -- ---- the lowest open column
  module _ {c : ℕ} (g : FirstIn (is_open st.dom) 0 16 c) (l : c < 16) where
    pub picked_inside : c < columns_of b
    picked_inside = open_inside b acc h c (g.passes l)

    below_last : c < column_count (book_of b)
    below_last = omega (arith, picked_inside, columns_count b)

    single : (k : ℕ) → k < c → eqb (size (get_or (store_in b st.dom) k 0)) 1 ≡ true
    single k q = single_below b acc h g.none k (omega (arith, below_last)) q

    many : eqb (size (get_or (store_in b st.dom) c 0)) 1 ≡ false
    unfolding is_open
    many = many_column (get_or S c 0) (ap (λ (m : ℕ). ltb 1 (size m)) (sym (filled_same b acc h c)) ∙ g.passes l)

    lowest : open_column (column_count (book_of b)) (store_in b st.dom) ≡ c
    lowest = open_at (column_count (book_of b)) S c below_last many single

    -- none is tried yet
    pub untried_all : (made : ℕ) → Untried b st.dom c made (get_or st.dom c 0) made
    unfolding has
    untried_all made = record {
      own = λ v e. e;
      left =
          ap (following made)
          (subst (λ (k : ℕ). search_in b st.dom ≡ try_each 32 (has S k) (λ v. search_after b st.dom k v)) lowest
          (searched_open (book_of b) (book_formed b acc) S (filled_store b acc h) filled (rw lowest below_last))
          ∙ try_each_same 32 (has S c) (λ v. bit v (get_or st.dom c 0)) (λ v. search_after b st.dom c v) (λ v. search_after b st.dom c v) (λ v i. sym (same_has b acc h c v))
          (λ v i e. refl));
    }

    pub picked_value : {made v rest less count : ℕ} → Untried b st.dom c made rest count → Taken rest v less → OpenValue b st.dom c v
    picked_value u t = record { column = picked_inside; value = u.own _ t.cleared.here; more = g.passes l }

    -- the lowest value v of those, and the rest of them
    module _ {made v rest less count : ℕ} (u : Untried b st.dom c made rest count) (taken : Taken rest v less) where
      abbrev next : Searched
      next = search_after b st.dom c v

      abbrev others : (ℕ → Bool) → Searched
      others p = try_each 32 p (λ w. search_after b st.dom c w)

      v_first : (p : ℕ → Bool) → p v ≡ false → ((w : ℕ) → (w ≡ v → ⊥) → p w ≡ bit w rest)
          → following made (search_in b st.dom) ≡ following count (or_else (following 1 (search_after b st.dom c v)) (others p))
      v_first p gone kept =
          u.left
          ∙ ap (following count)
          (try_each-lowest 32 (λ w. bit w rest) p (λ w. search_after b st.dom c w) v
          (in_store (column_count (book_of b)) S (filled_store b acc h) c v (sym (same_has b acc h c v) ∙ u.own v taken.cleared.here)).1 taken.cleared.here
          (λ w m. lowest_under 64 rest w (rw taken.lowest at m)) gone kept)

      abbrev but_v : ℕ → Bool
      but_v w = bit w rest && not (eqb w v)

      v_then : following made (search_in b st.dom) ≡ following count (or_else (following 1 (search_after b st.dom c v)) (others but_v))
      v_then =
          v_first but_v (ap (λ (t : Bool). bit v rest && not t) (eq-eqb v v refl) ∙ and_false (bit v rest))
          (λ w z. ap (λ (t : Bool). bit w rest && not t) (ne_eqb w v z) ∙ and_true (bit w rest))

      -- at least one try more is needed, and those that come after it
      needed : (t : ℕ) → t ≤ (search_after b st.dom c v).tries → count + (1 + t) ≤ made + (search_in b st.dom).tries
      needed t m =
          let f = ap (λ (i : Searched). i.tries) v_then in
          omega (arith, f, else_more (following 1 next) (others but_v))

      -- there is no try left
      pub picked_stopped : {n : ℕ} → count ≡ n → Reaches b n made (search_in b st.dom) (Stopped n)
      picked_stopped z = stopped_reached b (omega (arith, needed 0 (omega arith)))

      -- the value ends the search: it is found, or the tries are at their end
      pub picked_found : {n : ℕ} {f : Held} → Reaches b n (count + 1) (search_after b st.dom c v) f → ((t : ℕ) → f ≡ NotFound t → ⊥) → Reaches b n made (search_in b st.dom) f
      picked_found {n} {f} s k = go (limited_or n (following (count + 1) next))
        where
          go : LimitedTo n (following (count + 1) (search_after b st.dom c v)) → Reaches b n made (search_in b st.dom) f
          go (is_found x t a i m) =
              reaches_as
              (ap (λ (j : ℕ). record { solution = next.solution; tries = j }) (omega arith)
              ∙ ap (following count) (sym (else_found (following 1 next) (others but_v) i))
              ∙ sym v_then)
              s
          go (is_none t a i m) = let z = found_none f ((s.shows []).number ∙ ap outcome_number a) in absurd (k z.0 z.1)
          go (is_stopped a m) =
              record {
                shows = λ A.
                    subst (λ (x : Outcome). OutcomeIs b A x f)
                    (a ∙ sym (limited_stopped n (following made (search_in b st.dom)) (omega (arith, needed next.tries (omega arith))))) (s.shows A);
              }

      -- it has no solution: the others are left
      pub untried_less : {n all : ℕ} → Reaches b n (count + 1) (search_after b st.dom c v) (NotFound all)
          → Untried b st.dom c made less all × (all ≤ n)
      untried_less {n} {all} s = (record { own = λ w i. own w i (either (bit w rest)); left = left' }, given.2)
        where
          given : (next.solution ≡ none) × (all ≡ count + 1 + next.tries) × (all ≤ n)
          given = given_none s

          own : (w : ℕ) → bit w less ≡ true → (bit w rest ≡ true) ⊎ (bit w rest ≡ false) → has st.dom c w ≡ true
          own w i (inl r) = u.own w r
          own w i (inr r) =
              split w v (λ t. absurd (false≢true (sym taken.cleared.gone ∙ ap (λ (j : ℕ). bit j less) (sym t) ∙ i)))
              (λ t. absurd (false≢true (sym r ∙ sym (taken.cleared.rest w t) ∙ i)))

          left' : following made (search_in b st.dom) ≡ following all (others (λ w. bit w less))
          left' =
              v_first (λ w. bit w less) taken.cleared.gone taken.cleared.rest
              ∙ ap (following count) (else_none (following 1 next) (others (λ w. bit w less)) given.0)
              ∙ ap (λ (j : ℕ). record { solution = (others (λ w. bit w less)).solution; tries = j }) (omega (arith, given.1))

    -- no value is left
    pub picked_none : {made rest count n : ℕ} → Untried b st.dom c made rest count → rest ≡ 0 → count ≤ n
        → Reaches b n made (search_in b st.dom) (NotFound count)
    picked_none {made} {rest} {count} {n} u z m =
        reaches_as (sym (u.left ∙ ap (following count) (try_each_none 32 (λ w. bit w rest) (λ w. search_after b st.dom c w) (λ w i. rw z (bit_of_zero w)))))
        (none_reached b refl (omega arith) m)

module _ (b : List ℕ) (acc : Accepted b) (st : State) where
  -- column 0 is empty: there is nothing to try
  pub finish_failed : (n : ℕ) → get_or st.dom 0 0 ≡ 0 → Finishes b st n (NotFound 0)
  unfolding has
  finish_failed n z L h A = rw at_0 (reached.shows A)
    where
      D : List ℕ
      D = domains (book_of b) L

      reached : Reaches b n 0 (at_once none) (NotFound 0)
      reached = none_reached b refl (omega arith) (omega arith)

      go : (all_filled (column_count (book_of b)) D ≡ true) ⊎ (all_filled (column_count (book_of b)) D ≡ false) → all_filled (column_count (book_of b)) D ≡ false
      go (inr e) = e
      go (inl e) =
          let v = filled_e (column_count (book_of b)) D e 0 (book_formed b acc).some_column in
          absurd (false≢true (sym (bit_of_zero v.0) ∙ ap (bit v.0) (sym z ∙ h.holds.domain 0) ∙ v.1))

      at_0 : searched (book_of b) (domains (book_of b) L) ≡ following 0 (at_once none)
      at_0 =
          searched_empty (book_of b) (book_formed b acc) D (domains_store (book_of b) L) (go (either (all_filled (column_count (book_of b)) D)))
          ∙ sym (following_0 (at_once none))

  -- it is not: no column is
  pub finish_filled : SomeState b st → (get_or st.dom 0 0 ≡ 0 → ⊥) → FilledState b st
  unfolding domains has
  finish_filled s n = record { trail = s.trail; is = s.is; filled = go (closed_or_empty (book_of b) (book_formed b acc) (allowed (book_of b) s.trail) (allowed_store (book_of b) s.trail)) }
    where
      go : ConsistentStore (book_of b) (closure (book_of b) (allowed (book_of b) s.trail))
          ⊎ (closure (book_of b) (allowed (book_of b) s.trail) ≡ empty_store (column_count (book_of b)))
          → (c : ℕ) → c < columns_of b → (v : ℕ) × (bit v (get_or st.dom c 0) ≡ true)
      go (inl k) c l =
          let p = k.filled c (omega (arith, columns_count b)) in
          (p.0, ap (bit p.0) (s.is.holds.domain c) ∙ p.1)
      go (inr e) c l = absurd (n (s.is.holds.domain 0 ∙ ap (λ (S : List ℕ). get_or S 0 0) e ∙ no_value b acc 0))

  pub finish_found : {n : ℕ} {f : Held} → Reaches b n 0 (search_in b st.dom) f → Finishes b st n f
  finish_found {n} {f} s L h A =
      subst (λ (g : Searched). OutcomeIs b A (limited n g) f)
      (following_0 (search_in b st.dom)
      ∙ ap (searched (book_of b)) (store_is b st.dom (domains (book_of b) L) (domains_store (book_of b) L) h.holds.domain))
      (s.shows A)
