-- A number with a minus in front. Assumes nothing.
use Rattle.std.proofs.Common.{◌≡◌, ℕ, zero, suc, ◌-◌, ◌^◌, ◌<◌, ◌≤◌, true, false, List, [], ◌∷◌, length, get_or, take, drop, ℤ, pos, negsuc, Some, None, decimal, Option, sym, refl, ap, ◌∙◌, subst, arith}
use Rattle.std.specs.Fmt.{signed_decimal}
use Rattle.std.specs.Str.{all_ascii_digits}
use Rattle.std.proofs.lemmas.Fmt.{digits_decimal, decimal_injective}
use Rattle.std.proofs.lemmas.List.{take_rest}
use Rattle.std.proofs.lemmas.Bool.{both_ways}
use Rattle.numeral.specs.Reads.{size, Reads, ReadsSigned}
use Rattle.numeral.specs.Steps.{negated}
use Rattle.numeral.proofs.Digits.{own}

-- what is read with the sign in front
abbrev pub negative : Option ℕ → Option ℤ
negative None = None
negative (Some n) = negated n

no_minus : (n : ℕ) (bs : List ℕ) → n < 2 ^ 64 → 45 ∷ bs ≡ decimal n → ⊥
no_minus n bs small e = both_ways false refl (subst (λ b. all_ascii_digits b ≡ true) (sym e) (digits_decimal own n small))

minus : (max : ℕ) (bs : List ℕ) (r : Option ℕ) → max < 2 ^ 64 → Reads max bs r → ReadsSigned max (45 ∷ bs) (negative r)
minus max bs None h g =
    λ z.
    elim z as (λ z. size z ≤ max → 45 ∷ bs ≡ signed_decimal z → ⊥) [
      | pos n ↦ λ le e. no_minus n bs (omega arith) e
      | negsuc k ↦ λ le e. g (suc k) le (ap (drop 1) e)
    ]
minus max bs (Some zero) h g =
    λ z.
    elim z as (λ z. size z ≤ max → 45 ∷ bs ≡ signed_decimal z → ⊥) [
      | pos n ↦ λ le e. no_minus n bs (omega arith) e
      | negsuc k ↦ λ le e. let q : 0 ≡ suc k = decimal_injective 0 (suc k) (omega arith) (omega arith) (sym g.1 ∙ ap (drop 1) e) in omega arith
    ]
minus max bs (Some (suc n)) h g = (g.0, ap (λ t. 45 ∷ t) g.1)

with_minus : (max : ℕ) (bs : List ℕ) (r : Option ℕ) → max < 2 ^ 64 → 0 < length bs → get_or bs 0 0 ≡ 45 → Reads max (drop 1 bs) r → ReadsSigned max bs (negative r)
with_minus max [] r h some e g = absurd (omega arith)
with_minus max (b ∷ bs) r h some e g =
    subst (λ t. ReadsSigned max t (negative r)) (sym (ap (λ x. x ∷ bs) e)) (minus max bs r h g)

-- the answer q of what is read behind a minus, up to a maximum that is the same
pub behind_minus : (max m : ℕ) (bs : List ℕ) (r : Option ℕ) (q : Option ℤ) → max < 2 ^ 64 → m ≡ max → 1 ≤ length bs → get_or bs 0 0 ≡ 45 → Reads m (take (length bs - 1) (drop 1 bs)) r → q ≡ negative r → ReadsSigned max bs q
behind_minus max m bs r q h same some minus reads is =
    let behind = subst (λ t. Reads m t r) (take_rest bs 1) reads in
    subst (ReadsSigned max bs) (sym is) (with_minus max bs r h some minus (subst (λ n. Reads n (drop 1 bs) r) same behind))
