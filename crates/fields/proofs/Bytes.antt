-- Laws of numbers made of bytes, and of lists written over. Assumes nothing.
use mathlib.Core.Path.{◌∙◌, ◌≡◌, ap, ap₂, refl, sym}
use mathlib.Core.List.{List, [], ◌++◌, ◌∷◌, append_assoc, append-nil}
use Prim.Native.Nat.{◌%◌, ◌+◌, ◌<◌, ◌^◌, ◌≤◌, suc, zero, ℕ}
use native.Mathlib.Omega.{arith}
use lib.ListN.{drop, drop_of_length-le, length, length-append, take, take-append-drop}
use Rattle.std.proofs.lemmas.Nat.{from_le_bytes-to_le_bytes_4}
use lib.Seq.{drop-append-add, drop-drop, length-take-le, sets, sets-eq, take_at}
use Rattle.fields.specs.Bytes.{byte_at, over, word_at, word_bytes}

-- ---- a number and its four bytes
-- four bytes that are those of x read as x
pub word_back : (b : List ℕ) (i x : ℕ) → x < 2 ^ 32 → ((j : ℕ) → j < 4 → byte_at b (i + j) ≡ byte_at (word_bytes x) j) → word_at b i ≡ x
word_back b i x l at =
    rw (at 1 (omega arith), at 2 (omega arith), at 3 (omega arith), first) (from_le_bytes-to_le_bytes_4 x l)
  where
    first : byte_at b i ≡ x % 256
    first = let e : i ≡ i + 0 = omega arith in ap (byte_at b) e ∙ at 0 (omega arith)

-- ---- written over
-- a run of stores
pub stored : (xs : List ℕ) (a : ℕ) (ys : List ℕ) → a + length ys ≤ length xs → sets xs a ys ≡ over xs a ys
unfolding over
stored xs a ys h = sets-eq ys xs a h ∙ append_assoc (take a xs) ys (drop (a + length ys) xs)

-- the same bytes at the same place
pub over_same : (xs : List ℕ) {a b : ℕ} {ys zs : List ℕ} → a ≡ b → ys ≡ zs → over xs a ys ≡ over xs b zs
over_same xs p q = ap₂ (over xs) p q

pub over_none : (xs : List ℕ) (a : ℕ) → over xs a [] ≡ xs
unfolding over
over_none xs a = let e : a + 0 ≡ a = omega arith in rw e (take-append-drop a xs)

-- two runs, one after the other
pub over-over : (xs : List ℕ) (a m : ℕ) (ys zs : List ℕ) → m ≡ a + length ys → m + length zs ≤ length xs
    → over (over xs a ys) m zs ≡ over xs a (ys ++ zs)
unfolding over
over-over xs a m ys zs e h =
    ap₂ (λ (l r : List ℕ). l ++ (zs ++ r)) front back
    ∙ append_assoc (take a xs) ys (zs ++ drop (a + length (ys ++ zs)) xs)
    ∙ ap (λ (l : List ℕ). take a xs ++ l) (sym (append_assoc ys zs (drop (a + length (ys ++ zs)) xs)))
  where
    size : length (take a xs ++ ys) ≡ m
    size = length-append (take a xs) ys ∙ rw (length-take-le a xs (omega arith)) (sym e)

    split : take a xs ++ (ys ++ drop (a + length ys) xs) ≡ (take a xs ++ ys) ++ drop (a + length ys) xs
    split = sym (append_assoc (take a xs) ys (drop (a + length ys) xs))

    front : take m (take a xs ++ (ys ++ drop (a + length ys) xs)) ≡ take a xs ++ ys
    front = rw split (take_at (take a xs ++ ys) (drop (a + length ys) xs) m size)

    back : drop (m + length zs) (take a xs ++ (ys ++ drop (a + length ys) xs)) ≡ drop (a + length (ys ++ zs)) xs
    back =
        let k : a + length ys + length zs ≡ a + length (ys ++ zs) = omega (arith, length-append ys zs) in
        rw (split, ← size)
        (drop-append-add (take a xs ++ ys) (drop (a + length ys) xs) (length zs)
        ∙ drop-drop (length zs) (a + length ys) xs
        ∙ ap (λ (n : ℕ). drop n xs) k)

-- everything written over
pub over_all : (xs ys : List ℕ) → length ys ≡ length xs → over xs 0 ys ≡ ys
unfolding over
over_all xs ys e =
    let h : length xs ≤ 0 + length ys = omega arith in rw (drop_of_length-le xs h) (append-nil ys)

-- to drop k is to drop as many as the first k are
drop_taken : (k : ℕ) (l : List ℕ) → drop k l ≡ drop (length (take k l)) l
drop_taken zero l = refl
drop_taken (suc k) [] = refl
drop_taken (suc k) (x ∷ l) = drop_taken k l

-- a part that was lent is back, as long as it was
pub part_over : (xs : List ℕ) (a k : ℕ) (ys : List ℕ) → length ys ≡ length (take k (drop a xs))
    → take a xs ++ (ys ++ drop k (drop a xs)) ≡ over xs a ys
unfolding over
part_over xs a k ys e =
    ap (λ (l : List ℕ). take a xs ++ (ys ++ l))
    (drop_taken k (drop a xs) ∙ drop-drop (length (take k (drop a xs))) a xs ∙ ap (λ (n : ℕ). drop (a + n) xs) (sym e))

-- ws stands before the place a: it stays, and ys stands after it
pub over_next : (xs ws ys space : List ℕ) (a m : ℕ) → length ws ≡ a → m ≡ a + length ys → xs ≡ ws ++ drop a space
    → over xs a ys ≡ (ws ++ ys) ++ drop m space
unfolding over
over_next xs ws ys space a m e f g =
    rw (g, take_at ws (drop a space) a e)
    (ap (λ (l : List ℕ). ws ++ (ys ++ l)) rest ∙ sym (append_assoc ws ys (drop m space)))
  where
    rest : drop (a + length ys) (ws ++ drop a space) ≡ drop m space
    rest =
        rw (← e)
        (drop-append-add ws (drop (length ws) space) (length ys) ∙ drop-drop (length ys) (length ws) space ∙ rw (e, f) refl)
