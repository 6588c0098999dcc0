-- Orders, their refusals, and the trail (document 01: standing list): what stands, "from the book and the orders alone".
use Rattle.std.specs.Prelude.{◌≡◌, Bool, true, not, cond, ◌&&◌, ◌||◌, List, [], ◌∷◌, ◌++◌, ℕ, zero, suc, eqb, ltb, leb, get_or}
use Rattle.fields.specs.Bytes.{byte_at, word_at}
use Rattle.model.specs.Tests.{any_below}
use Rattle.model.specs.Masks.{bit}
use Rattle.model.specs.Stores.{store_of}
use Rattle.model.specs.Books.{Book, column_count, closure}

-- ---- an order is its 8 bytes: "byte 0 kind, byte 1 argument, bytes 2, 3 zero, bytes 4 to 7 a mask"
abbrev pub kind : List ℕ → ℕ
kind o = byte_at o 0

abbrev pub argument : List ℕ → ℕ
argument o = byte_at o 1

abbrev pub mask : List ℕ → ℕ
mask o = word_at o 4

-- request W4: "Bytes 4 to 7 of a finish become a limit from 1 to 65,535; 0 is read as 65,535"
abbrev pub try_limit : List ℕ → ℕ
try_limit o = cond (eqb (word_at o 4) 0) 65535 (word_at o 4)

-- the one of five that goes with the kind: narrow 1, mark 2, back 3, finish 4, any other
abbrev pub by_kind : {A : Type 0} → ℕ → A → A → A → A → A → A
by_kind k narrow mark back finish other =
    cond (eqb k 1) narrow (cond (eqb k 2) mark (cond (eqb k 3) back (cond (eqb k 4) finish other)))

-- the places of an order that must be zero, bit i for byte i: "byte 2 or 3", "any of bytes 1 to 7", "any of bytes 2 to 7", and of a finish "only bytes
-- 1 to 3"
--
--     byte      0  1  2  3  4  5  6  7
--     narrow    .  .  0  0  .  .  .  .     4 + 8
--     mark      .  0  0  0  0  0  0  0     2 + 4 + .. + 128
--     back      .  .  0  0  0  0  0  0     4 + 8 + .. + 128
--     finish    .  0  0  0  .  .  .  .     2 + 4 + 8
abbrev pub zero_places : ℕ → ℕ
zero_places k = by_kind k 12 254 252 14 0

-- byte i is at one of these places, and isn't zero
unfoldable pub wrong_place : ℕ → List ℕ → ℕ → Bool
wrong_place places o i = bit i places && not (eqb (byte_at o i) 0)

unfoldable pub some_wrong : ℕ → List ℕ → Bool
some_wrong places o = any_below 8 (wrong_place places o)

-- ---- the trail
-- what stands: a narrow of a column to a mask, or a checkpoint (document 01: bar)
pub data Entry : Type 0 where
  narrowed : ℕ → ℕ → Entry
  checkpoint : Entry

-- "Depth is the number of bars"
unfoldable pub depth : List Entry → ℕ
depth [] = 0
depth (narrowed c m ∷ L) = depth L
depth (checkpoint ∷ L) = suc (depth L)

-- "back m cuts away bar m and all after it": what stands before checkpoint m, counted from 1. A back 0 is refused, so `before 0` is never asked
unfoldable pub before : ℕ → List Entry → List Entry
before m [] = []
before m (narrowed c k ∷ L) = narrowed c k ∷ before m L
before zero (checkpoint ∷ L) = []
before (suc zero) (checkpoint ∷ L) = []
before (suc (suc m)) (checkpoint ∷ L) = checkpoint ∷ before (suc m) L

-- ---- refusals: "the cause written first counts"
infix 20 refuse◌if◌
pub data Cause : Type 0 where
  refuse◌if◌ : ℕ → Bool → Cause

-- the number of the first cause that applies, or 0
unfoldable pub first_cause : List Cause → ℕ
first_cause [] = 0
first_cause ((refuse n if t) ∷ cs) = cond t n (first_cause cs)

-- some bit of the mask at or above V of column c is set
unfoldable pub outside : Book → ℕ → ℕ → Bool
outside b c m = any_below 32 (λ v. leb (get_or b.counts c 0) v && bit v m)

-- a narrow: "21 if the column isn't below C, 22 if a mask bit at or above V is set"
abbrev pub narrow_causes : Book → List ℕ → List Cause
narrow_causes b o = (refuse 21 if leb (column_count b) (argument o)) ∷ (refuse 22 if outside b (argument o) (mask o)) ∷ []

-- a mark: "23 if depth is 16"
abbrev pub mark_causes : ℕ → List Cause
mark_causes d = (refuse 23 if eqb d 16) ∷ []

-- a back: "Byte 1 is m. … 24 if m is 0 or above the depth"
abbrev pub back_causes : ℕ → List ℕ → List Cause
back_causes d o = (refuse 24 if eqb (argument o) 0 || ltb d (argument o)) ∷ []

-- a finish, request W4: "27 for a larger limit, after 25"
abbrev pub finish_causes : List ℕ → List Cause
finish_causes o = (refuse 27 if ltb 65535 (try_limit o)) ∷ []

-- "Other kinds are refused with 20, before the rest": of their bytes none is looked at
abbrev pub other_causes : List Cause
other_causes = (refuse 20 if true) ∷ []

-- "An order's refusal goes by its bytes, the book and this list only": the number, or 0 where the order is accepted. Each of the four kinds is first
-- "Refused with 25 if" a byte that must be zero "isn't zero"
unfoldable pub refusal : Book → List Entry → List ℕ → ℕ
refusal b L o =
    first_cause
    ((refuse 25 if some_wrong (zero_places (kind o)) o)
    ∷ by_kind (kind o) (narrow_causes b o) (mark_causes (depth L)) (back_causes (depth L) o) (finish_causes o) other_causes)

-- the order is accepted
abbrev pub is_accepted : Book → List Entry → List ℕ → Bool
is_accepted b L o = eqb (refusal b L o) 0

-- "an accepted finish"
pub record AcceptedFinish (b : Book) (L : List Entry) (o : List ℕ) : Type 0 where
  pub of_kind : kind o ≡ 4
  pub accepted : refusal b L o ≡ 0

-- ---- what an order makes of the trail
-- "an accepted narrow joins its end; a mark adds a bar; back m cuts away bar m and all after it; any other order, finish and every refused
-- one included, does nothing"
unfoldable pub push : Book → List Entry → List ℕ → List Entry
push b L o =
    cond (is_accepted b L o)
    (by_kind (kind o) (L ++ (narrowed (argument o) (mask o) ∷ [])) (L ++ (checkpoint ∷ [])) (before (argument o) L) L L) L

-- the trail after a list of orders that comes when L stands
unfoldable pub trail_from : Book → List Entry → List (List ℕ) → List Entry
trail_from b L [] = L
trail_from b L (o ∷ os) = trail_from b (push b L o) os

-- the trail after a list of orders: "it starts empty"
abbrev pub trail : Book → List (List ℕ) → List Entry
trail b os = trail_from b [] os

-- ---- allowed values and current domains
-- every standing narrow of column c lets v stay
unfoldable pub permits : List Entry → ℕ → ℕ → Bool
permits [] c v = true
permits (narrowed k m ∷ L) c v = (not (eqb k c) || bit v m) && permits L c v
permits (checkpoint ∷ L) c v = permits L c v

-- "Allowed values of a column are all its values met with every standing narrow of it"
unfoldable pub allowed : Book → List Entry → List ℕ
allowed b L = store_of (column_count b) (λ c v. ltb v (get_or b.counts c 0) && permits L c v)

-- "The current domains after a list are the settled domains of its allowed values"
unfoldable pub domains : Book → List Entry → List ℕ
domains b L = closure b (allowed b L)
