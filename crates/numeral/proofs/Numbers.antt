-- The law of a number leaves the answer no choice: it is `as_number`, and with a sign `as_signed`. Assumes nothing.
use Rattle.std.proofs.Common.{◌≡◌, ℕ, zero, suc, ◌^◌, ◌<◌, ◌≤◌, false, List, ℤ, pos, negsuc, Some, None, decimal, Option, sym, refl, ap, ◌∙◌, ⊎_elim, arith, MatchOption}
use lib.Signed.{mag}
use Rattle.std.specs.Fmt.{signed_decimal}
use Rattle.std.specs.Str.{bytes_eq}
use Rattle.std.proofs.lemmas.Fmt.{decimal_injective, signed_decimal_injective}
use Rattle.std.proofs.lemmas.Slice.Eq.{bytes_eq-Decides}
use Rattle.std.proofs.lemmas.Bool.{cases_eq, both_ways, cond_both}
use Rattle.numeral.specs.Reads.{size, as_number, as_negative, as_signed, Reads, ReadsSigned}

not_same : (xs ys : List ℕ) → bytes_eq xs ys ≡ false → xs ≡ ys → ⊥
not_same xs ys e s = both_ways (bytes_eq xs ys) e ((bytes_eq-Decides xs ys).1 s)

wider : (m : ℕ) (bs : List ℕ) (r : Option ℕ) → (bs ≡ decimal (suc m) → ⊥) → Reads m bs r → Reads (suc m) bs r
wider m bs None other g =
    λ n le q.
    ⊎_elim (λ (z : n ≡ suc m). other (q ∙ ap decimal z)) (λ (z : n ≡ suc m → ⊥). g n (omega arith) q) (cases_eq n (suc m))
wider m bs (Some x) other g = (omega (arith, g.0), g.1)

pub number_reads : (max : ℕ) (bs : List ℕ) → Reads max bs (as_number max bs)
unfolding as_number
number_reads zero bs =
    cond_both (bytes_eq bs (decimal 0)) (Some 0) None (Reads 0 bs)
    (λ e. (omega arith, (bytes_eq-Decides bs (decimal 0)).0 e))
    (λ e n le q. let z : n ≡ 0 = omega arith in not_same bs (decimal 0) e (q ∙ ap decimal z))
number_reads (suc m) bs =
    cond_both (bytes_eq bs (decimal (suc m))) (Some (suc m)) (as_number m bs) (Reads (suc m) bs)
    (λ e. (omega arith, (bytes_eq-Decides bs (decimal (suc m))).0 e))
    (λ e. wider m bs (as_number m bs) (not_same bs (decimal (suc m)) e) (number_reads m bs))

-- two answers under the law are one
pub number_is : (max : ℕ) (bs : List ℕ) (r q : Option ℕ) → max < 2 ^ 64 → Reads max bs r → Reads max bs q → r ≡ q
number_is max bs None None h a b = refl
number_is max bs None (Some y) h a b = absurd (a y b.0 b.1)
number_is max bs (Some x) None h a b = absurd (b x a.0 a.1)
number_is max bs (Some x) (Some y) h a b =
    ap Some (decimal_injective x y (omega (arith, a.0)) (omega (arith, b.0)) (sym a.1 ∙ b.1))

pub reads_is : (max : ℕ) (bs : List ℕ) (r : Option ℕ) → max < 2 ^ 64 → Reads max bs r → r ≡ as_number max bs
reads_is max bs r h a = number_is max bs r (as_number max bs) h a (number_reads max bs)

-- the same of a number with a sign

abbrev ReadsNegative : ℕ → List ℕ → Option ℤ → Type 0
ReadsNegative max bs r =
    MatchOption r ((k : ℕ) → k < max → bs ≡ signed_decimal (negsuc k) → ⊥) (λ z. (size z ≤ max) × (bs ≡ signed_decimal z))

wider_negative : (m : ℕ) (bs : List ℕ) (r : Option ℤ) → (bs ≡ signed_decimal (negsuc m) → ⊥) → ReadsNegative m bs r → ReadsNegative (suc m) bs r
wider_negative m bs None other g =
    λ k le q.
    ⊎_elim (λ (z : k ≡ m). other (q ∙ ap (λ n. signed_decimal (negsuc n)) z)) (λ (z : k ≡ m → ⊥). g k (omega arith) q) (cases_eq k m)
wider_negative m bs (Some x) other g = (omega (arith, g.0), g.1)

negative_reads : (max : ℕ) (bs : List ℕ) → ReadsNegative max bs (as_negative max bs)
unfolding as_negative
negative_reads zero bs = λ k le q. omega arith
negative_reads (suc m) bs =
    cond_both (bytes_eq bs (signed_decimal (negsuc m))) (Some (negsuc m)) (as_negative m bs) (ReadsNegative (suc m) bs)
    (λ e. (omega arith, (bytes_eq-Decides bs (signed_decimal (negsuc m))).0 e))
    (λ e. wider_negative m bs (as_negative m bs) (not_same bs (signed_decimal (negsuc m)) e) (negative_reads m bs))

both_signs : (max : ℕ) (bs : List ℕ) (r : Option ℤ) → Reads max bs None → ReadsNegative max bs r → ReadsSigned max bs r
both_signs max bs None p n =
    λ z. elim z as (λ z. size z ≤ max → bs ≡ signed_decimal z → ⊥) [ pos k ↦ λ le e. p k le e | negsuc k ↦ λ le e. n k (omega arith) e ]
both_signs max bs (Some z) p n = n

pub signed_reads : (max : ℕ) (bs : List ℕ) → ReadsSigned max bs (as_signed max bs)
unfolding as_signed
signed_reads max bs = joined (as_number max bs) (number_reads max bs)
  where
    joined : (r : Option ℕ) → Reads max bs r → ReadsSigned max bs (elim r as (λ _. Option ℤ) [ Some n ↦ Some (pos n) | None ↦ as_negative max bs ])
    joined None p = both_signs max bs (as_negative max bs) p (negative_reads max bs)
    joined (Some n) p = p

pub mag_le_size : (z : ℤ) → mag z ≤ size z
mag_le_size (pos n) = omega arith
mag_le_size (negsuc n) = omega arith

pub signed_is : (max : ℕ) (bs : List ℕ) (r q : Option ℤ) → max < 2 ^ 63 → ReadsSigned max bs r → ReadsSigned max bs q → r ≡ q
signed_is max bs None None h a b = refl
signed_is max bs None (Some y) h a b = absurd (a y b.0 b.1)
signed_is max bs (Some x) None h a b = absurd (b x a.0 a.1)
signed_is max bs (Some x) (Some y) h a b =
    ap Some (signed_decimal_injective x y (omega (arith, a.0, mag_le_size x)) (omega (arith, b.0, mag_le_size y)) (sym a.1 ∙ b.1))

pub reads_signed_is : (max : ℕ) (bs : List ℕ) (r : Option ℤ) → max < 2 ^ 63 → ReadsSigned max bs r → r ≡ as_signed max bs
reads_signed_is max bs r h a = signed_is max bs r (as_signed max bs) h a (signed_reads max bs)
