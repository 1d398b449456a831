-- What a line of a rule book can say, and how it is written. Assumes nothing.
--
--   Statement   a rule's head, or one goal without the goals below it
--   words       the fields of the line that says it
--   InRange     each number and each count is one that a line may have
use Rattle.std.specs.Prelude.{ℕ, ◌≤◌, List, [], ◌∷◌, map, length, ℤ, codes, decimal}
use Rattle.std.specs.Fmt.{signed_decimal}
use Rattle.numeral.specs.Reads.{size}

pub data Statement : Type 0 where
  a_rule : ℕ → Statement
  a_tell : ℕ → ℤ → List ℕ → Statement
  an_and : Statement
  an_or : Statement
  a_new : Statement
  a_call : ℕ → List ℕ → Statement

abbrev pub words : Statement → List (List ℕ)
words (a_rule p) = codes "rule" ∷ decimal p ∷ []
words (a_tell code k slots) = codes "tell" ∷ decimal code ∷ signed_decimal k ∷ map decimal slots
words an_and = codes "and" ∷ []
words an_or = codes "or" ∷ []
words a_new = codes "new" ∷ []
words (a_call r slots) = codes "call" ∷ decimal r ∷ map decimal slots

-- each of the slots is one of the sixteen
abbrev pub AllSlots : List ℕ → Type 0
AllSlots [] = Unit {0}
AllSlots (s ∷ ss) = (s ≤ 15) × AllSlots ss

abbrev pub InRange : Statement → Type 0
InRange (a_rule p) = p ≤ 16
InRange (a_tell code k slots) = (code ≤ 255) × (size k ≤ 1000) × (length slots ≤ 3) × AllSlots slots
InRange an_and = Unit {0}
InRange an_or = Unit {0}
InRange a_new = Unit {0}
InRange (a_call r slots) = (r ≤ 63) × (length slots ≤ 16) × AllSlots slots
