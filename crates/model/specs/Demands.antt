-- The demands, so far as they speak of the definitions: what demands 1 and 2 say, how demand 3 compares two lists, and at the end the claims,
-- which `claim1`, `claim2` and `claim_tries` of proofs/Demands.antt prove. Demand 3 itself speaks of answers and sessions: `ComparedRuns` and `Demand3` (crate promises).
-- Quoted are the customer's demands and document 01.
use Rattle.std.specs.Prelude.{◌≡◌, true, false, ◌↔◌, ◌⊎◌, List, [], ◌∷◌, map, ℕ, ◌+◌, ◌^◌, ◌≤◌, ◌<◌, eqb, length}
use Rattle.std.proofs.Math.Option.{none, some}
use Rattle.fields.specs.Bytes.{byte_at}
use Rattle.model.specs.Tests.{one_if, tab}
use Rattle.model.specs.Stores.{has, Within, IsStore, empty_store, all_filled}
use Rattle.model.specs.Masks.{bit}
use Rattle.model.specs.Choices.{Lower}
use Rattle.model.specs.Books.{Book, column_count, sheet_at, WellFormed, Stays, Fails}
use Rattle.model.specs.Solutions.{Solution, FirstSolution, NoSolution}
use Rattle.model.specs.Search.{open_column, value_of, after, at_once, try_each, searched}
use Rattle.model.specs.Orders.{kind, argument, mask, try_limit, zero_places, some_wrong, Entry, narrowed, checkpoint, refusal, AcceptedFinish, push, allowed, domains}
use Rattle.model.specs.Answers.{status_of, Subsumed, Answer, Outcome, state_only, outcome_number, unlimited, limited, showing, answer, opening, answers_from, accepted_count, answer_bytes}

-- ---- demand 1: orders over the book b
-- "a refused order changes no domain or mark", for the whole trail stays; and "A refused order shows the unchanged state"
pub record ChangesNothing (b : Book) (L : List Entry) (o : List ℕ) : Type 0 where
  pub same_trail : push b L o ≡ L
  pub shows : answer b L o ≡ showing b L (refusal b L o) state_only

-- how many answers have 0 as their refusal
unfoldable pub unrefused : List Answer → ℕ
unrefused [] = 0
unrefused (a ∷ rest) = one_if (eqb a.refused 0) + unrefused rest

-- the trail with every mask left out: what stands, and in which order
unfoldable pub unmasked : List Entry → List Entry
unmasked [] = []
unmasked (narrowed c m ∷ L) = narrowed c 0 ∷ unmasked L
unmasked (checkpoint ∷ L) = checkpoint ∷ unmasked L

pub record Demand1 (b : Book) : Type 0 where
  -- "a refused order changes no domain or mark"
  pub refused : (L : List Entry) (o : List ℕ) → (refusal b L o ≡ 0 → ⊥) → ChangesNothing b L o
  -- "An order's refusal goes by its bytes, the book and this list only." So `refusal` takes nothing else, and of the list the values that its
  -- narrows leave do not count: "Being dead is never a cause of refusal: a dead session gives the same refusals as an open one"
  pub by_list : (L M : List Entry) (o : List ℕ) → unmasked L ≡ unmasked M → refusal b L o ≡ refusal b M o
  -- "mask 0 is accepted": it is no cause
  pub mask_0 : (L : List Entry) (o : List ℕ) → kind o ≡ 1 → some_wrong (zero_places 1) o ≡ false → argument o < column_count b → mask o ≡ 0 → refusal b L o ≡ 0
  -- "byte 0 the refusal or 0"
  pub byte_0 : (L : List Entry) (o : List ℕ) → byte_at (answer_bytes (answer b L o)) 0 ≡ refusal b L o
  -- "Accepted: the number of accepted orders": as many as answers after the opening have no refusal
  pub counted : (os : List (List ℕ)) → accepted_count b os ≡ unrefused (answers_from b [] os)

-- ---- demand 2
-- of the trail L: the current domains, and what a finish finds in them
pub record Demand2 (b : Book) (L : List Entry) : Type 0 where
  -- "a value stays exactly when some sound box within the standing narrowings holds it"
  pub stays : (c v : ℕ) → (has (domains b L) c v ≡ true) ↔ Stays b (allowed b L) c v
  -- "dead exactly when there is no sound box": status 0, and "every domain is empty"
  pub failed : (status_of b (domains b L) ≡ 0) ↔ Fails b (allowed b L)
  pub empty : (domains b L ≡ empty_store (column_count b)) ↔ Fails b (allowed b L)
  -- "a finish gives the first full set in the current domains", by a search without a limit,
  pub found : (x : List ℕ) → ((searched b (domains b L)).solution ≡ some x) ↔ FirstSolution b (domains b L) x
  -- "none exactly when there is none"
  pub not_found : ((searched b (domains b L)).solution ≡ none) ↔ NoSolution b (domains b L)
  -- "a dead session …, and its finish says none", with no try; a decided one is found with none
  pub failed_finish : Fails b (allowed b L) → searched b (domains b L) ≡ at_once none
  pub decided_finish : status_of b (domains b L) ≡ 2 → searched b (domains b L) ≡ at_once (some (map value_of (domains b L)))

-- the answer a shows the state that the trail L leaves
pub record ShowsState (b : Book) (L : List Entry) (a : Answer) : Type 0 where
  pub stays : (c v : ℕ) → (has a.shown c v ≡ true) ↔ Stays b (allowed b L) c v
  pub failed : (a.status ≡ 0) ↔ Fails b (allowed b L)
  pub outcome : a.outcome ≡ 0
  pub tries : a.tries ≡ 0

-- the answer a shows what there is: "1 found, 2 none", "one bit for each column, or zeros for none"
pub record ShowsFirst (b : Book) (L : List Entry) (a : Answer) : Type 0 where
  pub found : (a.outcome ≡ 1) ↔ ((x : List ℕ) × Solution b (domains b L) x)
  pub first : (x : List ℕ) → FirstSolution b (domains b L) x → a.shown ≡ map (λ v. 2 ^ v) x
  pub not_found : (a.outcome ≡ 2) ↔ NoSolution b (domains b L)
  pub zeros : NoSolution b (domains b L) → a.shown ≡ tab (column_count b) (λ c. 0)

-- the answer a is that of a finish with the limit n when L stands. Quoted is request W4
pub record ShowsFinish (b : Book) (L : List Entry) (n : ℕ) (a : Answer) : Type 0 where
  -- "Byte 3 is 3, stopped, exactly when the answer needs more tries than the limit; the domains are then zero."
  pub stopped : (a.outcome ≡ 3) ↔ (n < (searched b (domains b L)).tries)
  pub stopped_zeros : a.outcome ≡ 3 → a.shown ≡ tab (column_count b) (λ c. 0)
  -- "the tries made, which when stopped are the limit"
  pub stopped_tries : a.outcome ≡ 3 → a.tries ≡ n
  pub tries : (a.outcome ≡ 3 → ⊥) → a.tries ≡ (searched b (domains b L)).tries
  -- "Demand 2's sentence on the finish holds for every finish that isn't stopped."
  pub not_stopped : (a.outcome ≡ 3 → ⊥) → ShowsFirst b L a
  pub failed : (a.status ≡ 0) ↔ Fails b (allowed b L)

-- "at every answer": the opening, any order but an accepted finish, and an accepted finish
pub record EveryAnswer (b : Book) : Type 0 where
  pub opened : ShowsState b [] (opening b)
  pub ordered : (L : List Entry) (o : List ℕ) → (AcceptedFinish b L o → ⊥) → ShowsState b (push b L o) (answer b L o)
  pub finished : (L : List Entry) (o : List ℕ) → AcceptedFinish b L o → ShowsFinish b L (try_limit o) (answer b L o)
  -- "mask 0 is accepted and makes the session dead"; that it is accepted: `Demand1.mask_0`
  pub mask_0 : (L : List Entry) (o : List ℕ) → kind o ≡ 1 → refusal b L o ≡ 0 → mask o ≡ 0 → Fails b (allowed b (push b L o))

-- ---- done
-- in the current domains D, with this status and done byte. Request W3: "Done now holds exactly when the session isn't dead and every choice of one
-- value from the current domain of each column of the sheet is allowed by it."
pub record DoneExactly (b : Book) (D : List ℕ) (status done : ℕ) : Type 0 where
  pub each_sheet : (s : ℕ) → s < length b.sheets → (bit s done ≡ true) ↔ ((status ≡ 0 → ⊥) × Subsumed D (sheet_at b s))
  -- no other bit is set
  pub past : (s : ℕ) → length b.sheets ≤ s → bit s done ≡ false

-- ---- demand 3: two lists compared by what their trails allow
-- "the same allowed values in every column"
pub record SameAllowed (b : Book) (L M : List Entry) : Type 0 where
  pub at : (c v : ℕ) → has (allowed b L) c v ≡ has (allowed b M) c v

-- two answers to a finish "agree in bytes 1, 3, 4 and 8 to 71"; request W4: "equal tries", which are bytes 6 and 7
pub record SameFinish (a d : List ℕ) : Type 0 where
  pub byte_1 : byte_at a 1 ≡ byte_at d 1
  pub byte_3 : byte_at a 3 ≡ byte_at d 3
  pub byte_4 : byte_at a 4 ≡ byte_at d 4
  pub bytes_6_to_71 : (i : ℕ) → 6 ≤ i → i ≤ 71 → byte_at a i ≡ byte_at d i

-- ---- tries for a finish
-- the search of a store, one column at a time, with no depth to it
pub record SearchSteps (b : Book) (D : List ℕ) : Type 0 where
  -- a try that ends dead goes no further
  pub failed : all_filled (column_count b) D ≡ false → searched b D ≡ at_once none
  -- "until every column is single"
  pub single : all_filled (column_count b) D ≡ true → open_column (column_count b) D ≡ column_count b → searched b D ≡ at_once (some (map value_of D))
  -- "The search sets the lowest column that isn't single to each of its values in rising order and settles"
  pub many : all_filled (column_count b) D ≡ true → open_column (column_count b) D < column_count b
      → searched b D ≡ try_each 32 (has D (open_column (column_count b) D)) (λ v. searched b (after b D (open_column (column_count b) D) v))

-- what a finish with the limit n shows when L stands
abbrev pub finishing : Book → List Entry → ℕ → Outcome
finishing b L n = limited n (searched b (domains b L))

-- quoted is request W4
pub record TriesOfFinish (b : Book) : Type 0 where
  -- "A larger limit never changes found or none, nor the set", nor the tries
  pub larger_limit : (L : List Entry) (n m : ℕ) → n ≤ m → (outcome_number (finishing b L n) ≡ 3 → ⊥) → finishing b L m ≡ finishing b L n
  -- a limit that is large enough is none
  pub enough : (L : List Entry) (n : ℕ) → (searched b (domains b L)).tries ≤ n → finishing b L n ≡ unlimited (searched b (domains b L))
  -- "two lists with equal allowed values give equal tries and outcome at equal limits, stopped for both included"
  pub same_finish : (L M : List Entry) → SameAllowed b L M → (n : ℕ) → finishing b L n ≡ finishing b M n
  -- "a narrower and a wider list are compared by the first full sets of document 01, without a limit"
  pub wider_first : (L M : List Entry) → Within (allowed b L) (allowed b M) → (x : List ℕ) → (searched b (domains b L)).solution ≡ some x
      → (y : List ℕ) × ((searched b (domains b M)).solution ≡ some y) × ((y ≡ x) ⊎ Lower y x)

-- ---- the claims
abbrev pub Claim1 : Type 0
Claim1 = (b : Book) → Demand1 b

abbrev pub Claim2 : Type 0
Claim2 = (b : Book) → WellFormed b → ((L : List Entry) → Demand2 b L) × EveryAnswer b

abbrev pub ClaimTries : Type 0
ClaimTries = (b : Book) → WellFormed b → TriesOfFinish b × ((D : List ℕ) → IsStore (column_count b) D → SearchSteps b D)
