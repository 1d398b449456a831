-- Which text is a number, and which number it is. Assumes nothing.
--
--   size          a number without its sign
--   as_number      the number from 0 to max that is written so
--   as_negative    the number from -max to -1 that is written so
--   as_signed      the number from -max to max that is written so
--   Reads         the answer is the number from 0 to max that is written so, and none only if there is none
--   ReadsSigned   the same for a number from -max to max
use Rattle.std.specs.Prelude.{◌≡◌, ℕ, zero, suc, ◌≤◌, cond, List, ℤ, pos, negsuc, Some, None, decimal, Option, MatchOption, ◌≢◌}
use Rattle.std.specs.Fmt.{signed_decimal}
use Rattle.std.specs.Str.{bytes_eq}

abbrev pub size : ℤ → ℕ
size (pos n) = n
size (negsuc n) = suc n

-- these three stay shut, so that nothing unrolls them down from max
unfoldable pub as_number : ℕ → List ℕ → Option ℕ
as_number zero bs = cond (bytes_eq bs (decimal 0)) (Some 0) None
as_number (suc m) bs = cond (bytes_eq bs (decimal (suc m))) (Some (suc m)) (as_number m bs)

unfoldable pub as_negative : ℕ → List ℕ → Option ℤ
as_negative zero bs = None
as_negative (suc m) bs = cond (bytes_eq bs (signed_decimal (negsuc m))) (Some (negsuc m)) (as_negative m bs)

unfoldable pub as_signed : ℕ → List ℕ → Option ℤ
as_signed max bs = elim (as_number max bs) [ Some n ↦ Some (pos n) | None ↦ as_negative max bs ]

abbrev pub Reads : ℕ → List ℕ → Option ℕ → Type 0
Reads max bs r = MatchOption r ((n : ℕ) → n ≤ max → bs ≢ decimal n) (λ n. (n ≤ max) × (bs ≡ decimal n))

abbrev pub ReadsSigned : ℕ → List ℕ → Option ℤ → Type 0
ReadsSigned max bs r = MatchOption r ((z : ℤ) → size z ≤ max → bs ≢ signed_decimal z) (λ z. (size z ≤ max) × (bs ≡ signed_decimal z))
