-- The kind of trees: every value. Assumes nothing.
--
--   equal     two values are one
--   takes     how many variables a code takes
--   holding   code 0: x equals y; code 1: x is the number k; code 2: x is the pair of y and z
--   trees     the kind
use Rattle.std.specs.Prelude.{ℕ, Bool, true, false, cond, ◌&&◌, List, [], ◌∷◌, ℤ, Some, None, Option, ◌==◌}
use Rattle.std.specs.Ordering.{int_eq}
use Rattle.bank.specs.Kinds.{Value, number, pair, Kind}

unfoldable pub equal : Value → Value → Bool
equal (number a) (number b) = int_eq a b
equal (number a) (pair c d) = false
equal (pair a b) (number c) = false
equal (pair a b) (pair c d) = equal a c && equal b d

abbrev pub takes : ℕ → Option ℕ
takes c = cond (c == 0) (Some 2) (cond (c == 1) (Some 1) (cond (c == 2) (Some 3) None))

abbrev pub holding : ℕ → ℤ → List Value → Bool
holding c k [] = false
holding c k (x ∷ []) = cond (c == 1) (equal x (number k)) false
holding c k (x ∷ (y ∷ [])) = cond (c == 0) (equal x y) false
holding c k (x ∷ (y ∷ (z ∷ []))) = cond (c == 2) (equal x (pair y z)) false
holding c k (x ∷ (y ∷ (z ∷ (w ∷ ws)))) = false

abbrev pub trees : Kind
trees = record { admits = λ v. true; arity = takes; holds = holding }
