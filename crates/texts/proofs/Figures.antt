-- Numbers in decimal: where their digits end, and that no comma or newline is in them. Assumes nothing.
--
--   Stop    what may stand behind a number
--   Plain   a byte that is no comma and no newline
use Rattle.std.proofs.Common.{◌≡◌, ℕ, ◌^◌, ◌<◌, ◌≢◌, List, [], ◌∷◌, ◌++◌, length, decimal, get_or, sym, refl, ap, ◌∙◌, subst, arith}
use Rattle.std.specs.Int.{IsInRange}
use Rattle.std.specs.List.{All}
use Rattle.std.specs.Str.Parse.{AllDigits}
use Rattle.std.proofs.lemmas.Fmt.{decimal_injective, decimal_is_IsNumeral, decimal_nonempty}
use Rattle.std.proofs.lemmas.List.{get_or_append_left, get_or_default}
use Rattle.std.proofs.lemmas.Str.Parse.{digit_from_value, digit_at}

-- nothing, or a byte below the digits
abbrev pub Stop : List ℕ → Type 0
Stop [] = Unit {0}
Stop (b ∷ bs) = b < 48

abbrev pub Plain : ℕ → Type 0
Plain b = (b ≢ 44) × (b ≢ 10)

digits : (n : ℕ) → n < 2 ^ 64 → AllDigits 10 (decimal n)
digits n h = (decimal_is_IsNumeral n h).0.1

pub head_eq : (a b : ℕ) (xs ys : List ℕ) → a ∷ xs ≡ b ∷ ys → a ≡ b
head_eq a b xs ys e = ap (λ (zs : List ℕ). get_or zs 0 0) e

tail_of : List ℕ → List ℕ
tail_of [] = []
tail_of (x ∷ xs) = xs

pub tail_eq : (a b : ℕ) (xs ys : List ℕ) → a ∷ xs ≡ b ∷ ys → xs ≡ ys
unfolding tail_of
tail_eq a b xs ys e = ap tail_of e

-- a stop begins with no digit
no_digit : (c b : ℕ) (s t : List ℕ) → IsInRange 48 57 c → b < 48 → c ∷ s ≡ b ∷ t → ⊥
no_digit c b s t d l e = omega (arith, d.0, head_eq c b s t e)

digits_split : (ds es s t : List ℕ) → AllDigits 10 ds → AllDigits 10 es → Stop s → Stop t → ds ++ s ≡ es ++ t → (ds ≡ es) × (s ≡ t)
digits_split [] [] s t f g h k e = (refl, e)
digits_split [] (c ∷ es) [] t f g h k e = let z : ◌≡◌ {A = ℕ} 0 1 = cc in absurd (omega arith)
digits_split [] (c ∷ es) (b ∷ s) t f g h k e = absurd (no_digit c b (es ++ t) s (digit_from_value c g.0) h (sym e))
digits_split (d ∷ ds) [] s [] f g h k e = let z : ◌≡◌ {A = ℕ} 0 1 = cc in absurd (omega arith)
digits_split (d ∷ ds) [] s (b ∷ t) f g h k e = absurd (no_digit d b (ds ++ s) t (digit_from_value d f.0) k e)
digits_split (d ∷ ds) (c ∷ es) s t f g h k e =
    let rest = digits_split ds es s t f.1 g.1 h k (tail_eq d c (ds ++ s) (es ++ t) e) in
    (ap (λ (x : ℕ). x ∷ ds) (head_eq d c (ds ++ s) (es ++ t) e) ∙ ap (λ (xs : List ℕ). c ∷ xs) rest.0, rest.1)

-- a number ends where a stop begins
pub decimal_split : (m n : ℕ) (s t : List ℕ) → m < 2 ^ 64 → n < 2 ^ 64 → Stop s → Stop t → decimal m ++ s ≡ decimal n ++ t → (m ≡ n) × (s ≡ t)
decimal_split m n s t lm ln h k e =
    let both = digits_split (decimal m) (decimal n) s t (digits m lm) (digits n ln) h k e in
    (decimal_injective m n lm ln both.0, both.1)

-- there are some, and each is a digit
pub figures : (n : ℕ) → n < 2 ^ 64 → AllDigits 10 (decimal n) × (0 < length (decimal n))
figures n h = (digits n h, decimal_nonempty n h)

pub first_of_digits : (ds : List ℕ) → AllDigits 10 ds → 0 < length ds → IsInRange 48 57 (get_or ds 0 0)
first_of_digits ds f some = digit_at ds 0 f some

-- a number begins with a digit
pub first_digit : (n : ℕ) (s : List ℕ) → n < 2 ^ 64 → IsInRange 48 57 (get_or (decimal n ++ s) 0 0)
first_digit n s h = subst (IsInRange 48 57) (sym (get_or_append_left (decimal n) s 0 0 (decimal_nonempty n h))) (first_of_digits (decimal n) (digits n h) (decimal_nonempty n h))

pub plain_digits : (ds : List ℕ) → AllDigits 10 ds → All Plain ds
plain_digits ds f k d l =
    let at = digit_at ds k f l in
    subst Plain (get_or_default ds k 0 d l) ((λ e. omega (arith, at.0)), (λ e. omega (arith, at.0)))

pub plain_decimal : (n : ℕ) → n < 2 ^ 64 → All Plain (decimal n)
plain_decimal n h = plain_digits (decimal n) (digits n h)
