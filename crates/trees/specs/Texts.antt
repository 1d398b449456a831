-- The text of a value. Assumes nothing.
--
--   show   decimal digits, after `-` if negative; `_` and a variable where the number stands for a free class; `(`, left, `.`, right, `)`
use Rattle.std.specs.Prelude.{ℕ, suc, ◌-◌, cond, List, [], ◌∷◌, ◌++◌, pos, negsuc, decimal, nat_le}
use Rattle.bank.specs.Kinds.{Value, number, pair}

-- a constraint's numbers go up to 1000, and 1001 + r stands for the free class whose lowest variable is r
abbrev pub natural : ℕ → List ℕ
natural n = cond (nat_le n 1000) (decimal n) (95 ∷ decimal (n - 1001))

unfoldable pub show : Value → List ℕ
show (number (pos n)) = natural n
show (number (negsuc n)) = 45 ∷ decimal (suc n)
show (pair u v) = 40 ∷ (show u ++ (46 ∷ (show v ++ (41 ∷ []))))
