-- What every function of this crate says of the buffer that it writes.
use Rattle.std.specs.Prelude.{◌≡◌, List, ◌++◌, ℕ, ◌+◌, ◌≤◌, length, take}
use Rattle.lines.specs.declared.Text.{Text}

-- the buffer has room for so many bytes more
abbrev pub HasRoom : ℕ → Text → Type 0
HasRoom n t = t.at + n ≤ length t.out.now

-- A text of at most `most` bytes stands in the buffer, from the place where the next byte went to that where it goes now. What stood before it is as it
-- was; what stands behind it is left open.
--
--     0 .. at − 1    at .. next − 1    next ..          at = old.at, next = new.at
--     as before      the text          open
pub record Written (most : ℕ) (old new : Text) (text : List ℕ) : Type 0 where
  pub bytes : take new.at new.out.now ≡ take old.at old.out.now ++ text
  pub end : new.at ≡ old.at + length text
  pub short : length text ≤ most
  pub within : new.at ≤ length new.out.now
  pub size : length new.out.now ≡ length old.out.now
  -- it is the same buffer
  pub same : new.out.ghost_name ≡ old.out.ghost_name
