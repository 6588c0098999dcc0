-- Laws of an answer written into a space. Assumes nothing.
use mathlib.Core.Path.{◌∙◌, ◌≡◌, ap, refl, sym}
use mathlib.Core.List.{List, [], ◌++◌, ◌∷◌}
use Prim.Native.Nat.{◌*◌, ◌+◌, ◌<◌, ◌≤◌, ℕ}
use native.Mathlib.Numerals.{add-one}
use native.Mathlib.Omega.{arith}
use lib.ListN.{drop, get_or, length, set}
use Rattle.fields.specs.Bytes.{half_bytes, over, word_bytes}
use Rattle.fields.proofs.Bytes.{over_all, over_next, over_none, over-over, stored}
use Rattle.model.specs.Answers.{Answer, answer_bytes, domain_bytes}
use Rattle.model.proofs.Answers.{answer-length, domain_bytes-length}

-- the eight bytes before the masks: six, and the tries
pub head_stored : {out : List ℕ} (xs : List ℕ) {refused status depth outcome done p q r t u : ℕ} (tries : ℕ) → 8 ≤ length xs
    → p ≡ refused → q ≡ status → r ≡ depth → t ≡ outcome → u ≡ done
    → out ≡ over (set (set (set (set (set (set xs 0 p) 1 q) 2 r) 3 t) 4 u) 5 0) 6 (half_bytes tries)
    → out ≡ over xs 0 (refused ∷ status ∷ depth ∷ outcome ∷ done ∷ 0 ∷ half_bytes tries)
head_stored xs {refused} {status} {depth} {outcome} {done} tries h e f g k l s =
    s
    ∙ rw (e, f, g, k, l)
    (ap (λ (w : List ℕ). over w 6 (half_bytes tries)) (stored xs 0 (refused ∷ status ∷ depth ∷ outcome ∷ done ∷ 0 ∷ []) (omega arith))
    ∙ over-over xs 0 6 (refused ∷ status ∷ depth ∷ outcome ∷ done ∷ 0 ∷ []) (half_bytes tries) refl (omega arith))

pub domains_none : (xs D : List ℕ) → xs ≡ over xs 8 (domain_bytes D 0)
unfolding domain_bytes
domains_none xs D = sym (over_none xs 8)

-- one mask more
pub domains_more : {out next : List ℕ} (xs D : List ℕ) (c at : ℕ) → length xs ≡ 72 → c < 16 → out ≡ over xs 8 (domain_bytes D c)
    → next ≡ over out at (word_bytes (get_or D c 0)) → at ≡ 8 + 4 * c → next ≡ over xs 8 (domain_bytes D (c + 1))
unfolding domain_bytes
domains_more {out} {next} xs D c at s l p q e =
    rw (q, p, add-one)
    (over-over xs 8 at (domain_bytes D c) (word_bytes (get_or D c 0)) (omega (arith, domain_bytes-length D c)) (omega arith))

-- eight bytes and the masks: the whole answer
pub whole : {head out : List ℕ} (xs : List ℕ) (a : Answer) → length xs ≡ 72
    → head ≡ over xs 0 (a.refused ∷ a.status ∷ a.depth ∷ a.outcome ∷ a.done ∷ 0 ∷ half_bytes a.tries) → out ≡ over head 8 (domain_bytes a.shown 16)
    → out ≡ answer_bytes a
unfolding answer_bytes
whole {head} {out} xs a s p q =
    rw (q, p)
    (over-over xs 0 8 (a.refused ∷ a.status ∷ a.depth ∷ a.outcome ∷ a.done ∷ 0 ∷ half_bytes a.tries) (domain_bytes a.shown 16) refl
    (omega (arith, domain_bytes-length a.shown 16))
    ∙ over_all xs (answer_bytes a) (answer-length a ∙ sym s))

-- ---- a run of answers
-- the answers before i stand in ws: answer i comes after them, and the rest of the space is as it was
pub answer_next : {xs : List ℕ} (ws space ys : List ℕ) (i : ℕ) → xs ≡ ws ++ drop (72 * i) space → length ws ≡ 72 * i → length ys ≡ 72
    → over xs (72 * i) ys ≡ (ws ++ ys) ++ drop (72 * (i + 1)) space
answer_next {xs} ws space ys i e s l = over_next xs ws ys space (72 * i) (72 * (i + 1)) s (omega arith) e
