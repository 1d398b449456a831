-- The kind of this bank: its values are the whole numbers. Assumes nothing.
--
--   whole       the kind. Code 0: x equals y; code 1: x is the number k; code 3: x is the number y plus k
--   number_of   the number that a value is
use Rattle.std.specs.Prelude.{ℕ, Bool, true, false, cond, List, [], ◌∷◌, ℤ, pos, ◌+ℤ◌, Some, None, Option, ◌==◌}
use Rattle.std.specs.Ordering.{int_eq}
use Rattle.bank.specs.Kinds.{Value, number, pair, Kind}

abbrev pub is_number : Value → Bool
is_number (number z) = true
is_number (pair u v) = false

-- a pair is none, and counts as 0
abbrev pub number_of : Value → ℤ
number_of (number z) = z
number_of (pair u v) = pos 0

abbrev pub variables_of : ℕ → Option ℕ
variables_of code = cond (code == 0) (Some 2) (cond (code == 1) (Some 1) (cond (code == 3) (Some 2) None))

abbrev pub holds_of_one : ℕ → ℤ → ℤ → Bool
holds_of_one code k x = cond (code == 1) (int_eq x k) false

abbrev pub holds_of_two : ℕ → ℤ → ℤ → ℤ → Bool
holds_of_two code k x y = cond (code == 0) (int_eq x y) (cond (code == 3) (int_eq x (y +ℤ k)) false)

abbrev pub holding : ℕ → ℤ → List Value → Bool
holding code k [] = false
holding code k (x ∷ []) = holds_of_one code k (number_of x)
holding code k (x ∷ (y ∷ [])) = holds_of_two code k (number_of x) (number_of y)
holding code k (x ∷ (y ∷ (z ∷ zs))) = false

abbrev pub whole : Kind
whole = record { admits = is_number; arity = variables_of; holds = holding }
