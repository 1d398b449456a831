-- A number read digit by digit, as the code goes. Assumes nothing.
--
--   leads       there is a digit, and a first digit 0 stands alone
--   appended    n with one more digit behind it, if that is no more than max
--   scan        n with all these digits behind it, if no number on the way is more than max
--   negated     a number with a minus in front: `-0` is none
use Rattle.std.specs.Prelude.{ℕ, zero, suc, ◌+◌, ◌-◌, ◌*◌, Bool, false, cond, not, ◌&&◌, List, [], ◌∷◌, length, ℤ, negsuc, Some, None, Option, ◌==◌, nat_le, nat_lt}
use Rattle.std.specs.Char.{is_ascii_digit}

abbrev pub leads : List ℕ → Bool
leads [] = false
leads (b ∷ bs) = not (b == 48 && nat_lt 0 (length bs))

abbrev pub appended : ℕ → ℕ → ℕ → Option ℕ
appended max n c = cond (is_ascii_digit c && nat_le (n * 10 + (c - 48)) max) (Some (n * 10 + (c - 48))) None

abbrev pub scan : ℕ → ℕ → List ℕ → Option ℕ
scan max n [] = Some n
scan max n (c ∷ cs) = elim (appended max n c) [ Some m ↦ scan max m cs | None ↦ None ]

abbrev pub negated : ℕ → Option ℤ
negated zero = None
negated (suc n) = Some (negsuc n)
