-- What it is to write a text into a part, piece by piece. Assumes nothing.
--
--   Laid    a text stands at the front of a part, and the rest of the part is as it was
--   Wrote   a text was written so far: it is laid, or there was no room for it
--   Begun   nothing was written
--   Adds    one piece more, whatever was written before
--   Ends    how long the text is, or a part that is zero
use Rattle.std.specs.Prelude.{◌≡◌, ℕ, ◌<◌, ◌≤◌, List, ◌++◌, length, replicate, drop, Some, None, Option}
use Rattle.texts.specs.declared.Writer.{Writer}

-- p is what the part held before the first piece, and q what it holds now
pub record Laid (p text q : List ℕ) (n : ℕ) : Type 0 where
  pub len : n ≡ length text
  pub room : n ≤ length p
  pub holds : q ≡ text ++ drop n p

-- up to an end, or without one
abbrev pub Wrote : List ℕ → List ℕ → List ℕ → Option ℕ → Type 0
Wrote p text q (Some n) = Laid p text q n
Wrote p text q None = length p < length text

pub record Begun (p : List ℕ) (w : Writer) : Type 0 where
  pub holds : w.part.now ≡ p
  pub end : w.end ≡ Some 0

-- in the same part
pub record Adds (piece : List ℕ) (v w : Writer) : Type 0 where
  pub lender : w.part.ghost_name ≡ v.part.ghost_name
  pub length : length w.part.now ≡ length v.part.now
  pub adds : (p text : List ℕ) → Wrote p text v.part.now v.end → Wrote p (text ++ piece) w.part.now w.end

-- a text that found room stays as it is
abbrev pub Ends : Writer → Option ℕ → List ℕ → Type 0
Ends w (Some n) q = (w.end ≡ Some n) × (q ≡ w.part.now)
Ends w None q = (w.end ≡ None) × (q ≡ replicate (length w.part.now) 0)
