-- The digits of a number, the last one apart. Assumes nothing.
use Rattle.std.proofs.Common.{◌≡◌, ℕ, ◌+◌, ◌/◌, ◌%◌, ◌^◌, ◌<◌, ◌≤◌, [], ◌∷◌, ◌++◌, decimal, sym, ap, ◌∙◌, arith}
use Rattle.std.proofs.lemmas.Fmt.{decimal_digit, decimal_step}

pub one_digit : (n d : ℕ) → d ≡ 48 + n % 10 → n < 10 → decimal n ≡ d ∷ []
one_digit n d last h = let e : 48 + n ≡ d = omega arith in decimal_digit n h ∙ ap (λ (k : ℕ). k ∷ []) e

pub more_digits : (n d : ℕ) → d ≡ 48 + n % 10 → 10 ≤ n → n < 2 ^ 32 → decimal n ≡ decimal (n / 10) ++ (d ∷ [])
more_digits n d last h k = decimal_step n h (omega arith) ∙ ap (λ (e : ℕ). decimal (n / 10) ++ (e ∷ [])) (sym last)
