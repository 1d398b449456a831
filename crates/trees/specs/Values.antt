-- The values that a record gives its variables, made from the bottom up. Assumes nothing.
--
--   value   the value of a variable, so many levels deep
--   given   the assignment that a record gives: a solution of which every other is a filling
-- and, for the type of the bank and the contracts of private functions:
--   deep    a variable's value has at most so many levels
--   Sound   what is kept of a store's record: it is well made, and no class lies below itself
use Rattle.std.specs.Prelude.{◌≡◌, ℕ, zero, suc, ◌+◌, ◌<◌, Bool, true, false, ◌&&◌, pos}
use Rattle.bank.specs.Kinds.{Value, number, pair, Assignment}
use Rattle.trees.specs.Stores.{Store, root_of_lem, form_of, Shaped}
use Rattle.trees.specs.declared.cells.Form.{Form}
use Rattle.trees.specs.declared.cells.Form.TheVariants.{Free, Number, Pair}

-- the value of a form: a free class has a large number of its own
abbrev pub grow : (ℕ → Value) → ℕ → Form → Value
grow below root Free = number (pos (1001 + root))
grow below root (Number k) = number k
grow below root (Pair x y) = pair (below x) (below y)

unfoldable pub value : Store → ℕ → ℕ → Value
value r zero x = number (pos 0)
value r (suc n) x = grow (value r n) (root_of_lem r x) (form_of r x)

unfoldable pub given : Store → Assignment
given r = value r 256

-- the sides of a form pass a test
abbrev pub ready : (ℕ → Bool) → Form → Bool
ready test Free = true
ready test (Number k) = true
ready test (Pair x y) = test x && test y

unfoldable pub deep : Store → ℕ → ℕ → Bool
deep r zero x = false
deep r (suc n) x = ready (deep r n) (form_of r x)

pub record Sound (r : Store) : Type 0 where
  pub shaped : Shaped r
  pub levels : (x : ℕ) → x < 256 → deep r 256 x ≡ true

-- as a proposition, for the type of the bank
abbrev pub Kept : Store → Type 0
Kept r = ∥ Sound r ∥₁
