-- The answer space.
--
--     byte    0 .. 71     72 .. 143           72 n .. 72 n + 71    72 (n + 1) ..
--             answer 0    answer 1     ..     answer n             as it was
use Rattle.std.specs.Prelude.{◌≡◌, List, [], ◌++◌, ◌∷◌, ◌*◌, ◌+◌, ◌≤◌, ℕ, drop, length}
use Rattle.model.specs.Answers.{Answer, all_bytes}

-- the space with these answers in front: "Later bytes of the space are untouched"
abbrev pub written : List Answer → List ℕ → List ℕ
written xs space = all_bytes xs ++ drop (72 * length xs) space

-- one answer more: whatever i answers stand in front, a stands after them
abbrev pub Adds : ℕ → Answer → List ℕ → List ℕ → Type 0
Adds i a space space' =
    (xs : List Answer) (old : List ℕ) → length xs ≡ i → 72 * i + 72 ≤ length old → space ≡ written xs old
    → space' ≡ written (xs ++ (a ∷ [])) old
