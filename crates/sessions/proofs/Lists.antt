-- Laws of lists of orders. Assumes nothing.
use mathlib.Core.Path.{◌∙◌, ◌≡◌, ap, ap₂, refl}
use mathlib.Core.List.{List, [], ◌++◌, ◌∷◌}
use Prim.Native.Nat.{◌%◌, ◌*◌, ◌+◌, ◌/◌, ◌<◌, suc, zero, ℕ}
use native.Mathlib.Numerals.{add-one}
use native.Mathlib.Omega.{arith}
use lib.ListN.{drop, get_or, length, length-append, length-drop, take}
use lib.Seq.{drop-append-le, drop-drop, drop_at, take_all, take-append-le}
use Rattle.std.specs.Simd.{first_chunks}
use Rattle.model.specs.Tests.{tab}
use Rattle.model.proofs.Tests.{tab_same}
use Rattle.sessions.specs.Lists.{order_at, orders_of, orders_to}

pub tab_last : {A : Type 0} (n : ℕ) (f : ℕ → A) → tab (suc n) f ≡ tab n f ++ (f n ∷ [])
unfolding tab
tab_last {A = A} zero f = refl
tab_last {A = A} (suc n) f = ap (λ (l : List A). f 0 ∷ l) (tab_last n (λ i. f (suc i)))

-- one order more
pub orders_more : (l : List ℕ) (n : ℕ) → orders_to l (n + 1) ≡ orders_to l n ++ (order_at l n ∷ [])
orders_more l n = rw add-one (tab_last n (order_at l))

-- the orders as the code has them, arrays of 8 bytes
pub order_chunk : (l : List ℕ) {os : List (List ℕ)} (i : ℕ) (d : List ℕ) → os ≡ first_chunks 8 (length l / 8) l → i < length l / 8 → get_or os i d ≡ order_at l i
order_chunk l i d e h = rw e (go (length l / 8) i l h)
  where
    go : (n i : ℕ) (xs : List ℕ) → i < n → get_or (first_chunks 8 n xs) i d ≡ order_at xs i
    go zero i xs h = absurd (omega arith)
    go (suc n) zero xs h = refl
    go (suc n) (suc i) xs h =
        let e : 8 + 8 * i ≡ 8 * suc i = omega arith in
        go n i (drop 8 xs) (omega arith) ∙ ap (take 8) (drop-drop (8 * i) 8 xs ∙ ap (λ (j : ℕ). drop j xs) e)

-- a list of whole orders with the order f appended
pub orders_append : (l f : List ℕ) → length l % 8 ≡ 0 → length f ≡ 8 → orders_of (l ++ f) ≡ orders_of l ++ (f ∷ [])
orders_append l f whole eight =
    ap (orders_to (l ++ f)) more
    ∙ orders_more (l ++ f) n
    ∙ ap₂ (λ (os : List (List ℕ)) (o : List ℕ). os ++ (o ∷ [])) (tab_same n (order_at (l ++ f)) (order_at l) before) last
  where
    n : ℕ
    n = length l / 8

    long : length l ≡ 8 * n
    long = omega (arith, whole)

    more : length (l ++ f) / 8 ≡ n + 1
    more = omega (arith, length-append l f, long, eight)

    before : (i : ℕ) → i < n → order_at (l ++ f) i ≡ order_at l i
    before i k =
        ap (take 8) (drop-append-le (8 * i) l f (omega (arith, long))) ∙ take-append-le 8 (drop (8 * i) l) f (omega (arith, long, length-drop (8 * i) l))

    last : order_at (l ++ f) n ≡ f
    last = ap (take 8) (drop_at l f (8 * n) long) ∙ take_all 8 f (omega (arith, eight))
