-- Laws of the answer space. Assumes nothing.
use mathlib.Core.Path.{◌∙◌, ◌≡◌, ap, refl, sym}
use mathlib.Core.List.{List, [], ◌++◌, ◌∷◌, append_assoc, append-nil}
use Prim.Native.Nat.{◌*◌, ◌+◌, ◌-◌, ◌<◌, ◌≤◌, suc, zero, ℕ}
use native.Mathlib.Nat.{le_of_suc-le-suc}
use native.Mathlib.Omega.{arith}
use lib.ListN.{drop, get_or, length, length-append, length-drop, take}
use lib.Seq.{drop-append-add, drop_at, drop-drop, take_at}
use Rattle.model.specs.Answers.{Answer, all_bytes, answer_at, answer_bytes}
use Rattle.fields.specs.Bytes.{over}
use Rattle.model.proofs.Answers.{answer-length}
use Rattle.answers.proofs.Answers.{answer_next}
use Rattle.answers.specs.Spaces.{Adds, written}

pub length_all : (xs : List Answer) → length (all_bytes xs) ≡ 72 * length xs
unfolding all_bytes
length_all [] = refl
length_all (a ∷ xs) = omega (arith, length-append (answer_bytes a) (all_bytes xs), answer-length a, length_all xs)

pub all_more : (xs : List Answer) (a : Answer) → all_bytes (xs ++ (a ∷ [])) ≡ all_bytes xs ++ answer_bytes a
unfolding all_bytes
all_more [] a = append-nil (answer_bytes a)
all_more (c ∷ xs) a = ap (λ (l : List ℕ). answer_bytes c ++ l) (all_more xs a) ∙ sym (append_assoc (answer_bytes c) (all_bytes xs) (answer_bytes a))

-- answers that fit leave the space as long as it was
pub length-written : (xs : List Answer) (space : List ℕ) → 72 * length xs ≤ length space → length (written xs space) ≡ length space
length-written xs space l =
    omega (arith, length-append (all_bytes xs) (drop (72 * length xs) space), length_all xs, length-drop (72 * length xs) space)

-- what stood in front is written over
pub written_over : (xs ys : List Answer) {space : List ℕ} (old : List ℕ) → space ≡ written ys old → length ys ≤ length xs → written xs space ≡ written xs old
written_over xs ys {space} old e l =
    let k : 72 * length xs ≡ length (all_bytes ys) + (72 * length xs - 72 * length ys) = omega (arith, length_all ys) in
    let m : 72 * length ys + (72 * length xs - 72 * length ys) ≡ 72 * length xs = omega arith in
    ap (λ (r : List ℕ). all_bytes xs ++ r)
    (rw e
    (ap (λ (j : ℕ). drop j (all_bytes ys ++ drop (72 * length ys) old)) k
    ∙ drop-append-add (all_bytes ys) (drop (72 * length ys) old) (72 * length xs - 72 * length ys)
    ∙ drop-drop (72 * length xs - 72 * length ys) (72 * length ys) old
    ∙ ap (λ (j : ℕ). drop j old) m))

-- an answer written over its part
pub adds : (i : ℕ) (a : Answer) (space : List ℕ) → Adds i a space (over space (72 * i) (answer_bytes a))
adds i a space xs old n room e =
    let k : 72 * length xs ≡ 72 * i = ap (λ (j : ℕ). 72 * j) n in
    let z : length (xs ++ (a ∷ [])) ≡ i + 1 = length-append xs (a ∷ []) ∙ ap (λ (j : ℕ). j + 1) n in
    rw (all_more xs a, z) (answer_next (all_bytes xs) old (answer_bytes a) i (e ∙ ap (λ (j : ℕ). all_bytes xs ++ drop j old) k) (length_all xs ∙ k) (answer-length a))

-- the part for answer i holds it
pub answer_part : (xs : List Answer) (space : List ℕ) (i : ℕ) (d : Answer) → i < length xs → answer_at (written xs space) i ≡ answer_bytes (get_or xs i d)
unfolding all_bytes
answer_part xs space i d l = go xs (drop (72 * length xs) space) i l
  where
    go : (xs : List Answer) (rest : List ℕ) (i : ℕ) → i < length xs → take 72 (drop (72 * i) (all_bytes xs ++ rest)) ≡ answer_bytes (get_or xs i d)
    go [] rest i l = absurd (omega arith)
    go (a ∷ xs) rest zero l = ap (take 72) (append_assoc (answer_bytes a) (all_bytes xs) rest) ∙ take_at (answer_bytes a) _ 72 (answer-length a)
    go (a ∷ xs) rest (suc i) l =
        let e : 72 * suc i ≡ 72 + 72 * i = omega arith in
        ap (take 72)
        (ap (λ (j : ℕ). drop j ((answer_bytes a ++ all_bytes xs) ++ rest)) e
        ∙ ap (drop (72 + 72 * i)) (append_assoc (answer_bytes a) (all_bytes xs) rest)
        ∙ sym (drop-drop (72 * i) 72 _)
        ∙ ap (drop (72 * i)) (drop_at (answer_bytes a) _ 72 (answer-length a)))
        ∙ go xs rest i (le_of_suc-le-suc l)
