-- A text says which root and which distance it is of, and is plain. Assumes nothing.
use Rattle.std.specs.Prelude.{◌≡◌, ℕ, zero, suc, ◌^◌, ◌<◌, ◌≤◌, List, [], ◌++◌, length, ℤ, pos, negsuc, decimal, slice_index, refl}
use Rattle.std.proofs.Common.{ap, subst, arith}
use Rattle.std.specs.Int.Signed.{mag}
use Rattle.std.specs.Fmt.{signed_decimal}
use Rattle.std.specs.List.{All}
use Rattle.std.proofs.lemmas.Fmt.{signed_decimal_injective, decimal_injective, decimal_nonempty}
use Rattle.std.proofs.lemmas.List.{append-nil}
use Rattle.std.proofs.lemmas.List.Elements.{All-nil, All-cons, All-append}
use Rattle.semitones.specs.Cells.{apart, named}
use Rattle.texts.proofs.Figures.{Stop, Plain, head_eq, tail_eq, decimal_split, first_digit, plain_decimal}

first : List ℕ → ℕ
first xs = slice_index xs 0

first_signed : (z : ℤ) → mag z < 2 ^ 32 → first (signed_decimal z) ≤ 57
unfolding first
first_signed (pos n) h = subst (λ (xs : List ℕ). first xs ≤ 57) (append-nil (decimal n)) (first_digit n [] (omega arith)).1
first_signed (negsuc n) h = omega arith

stop_apart : (z : ℤ) → Stop (apart z)
stop_apart (pos zero) = tt
stop_apart (pos (suc n)) = omega arith
stop_apart (negsuc n) = omega arith

same_apart : (y z : ℤ) → mag y < 2 ^ 32 → mag z < 2 ^ 32 → apart y ≡ apart z → y ≡ z
same_apart (pos zero) (pos zero) h k e = refl
same_apart (pos zero) (pos (suc n)) h k e = let z : ◌≡◌ {A = ℕ} 0 1 = cc in absurd (omega arith)
same_apart (pos zero) (negsuc n) h k e = let z : ◌≡◌ {A = ℕ} 0 1 = cc in absurd (omega arith)
same_apart (pos (suc m)) (pos zero) h k e = let z : ◌≡◌ {A = ℕ} 0 1 = cc in absurd (omega arith)
same_apart (pos (suc m)) (pos (suc n)) h k e =
    ap pos (decimal_injective (suc m) (suc n) (omega arith) (omega arith) (tail_eq 43 43 (decimal (suc m)) (decimal (suc n)) e))
same_apart (pos (suc m)) (negsuc n) h k e = let q = head_eq 43 45 (decimal (suc m)) (decimal (suc n)) e in absurd (omega arith)
same_apart (negsuc m) (pos zero) h k e = let z : ◌≡◌ {A = ℕ} 0 1 = cc in absurd (omega arith)
same_apart (negsuc m) (pos (suc n)) h k e = let q = head_eq 45 43 (decimal (suc m)) (decimal (suc n)) e in absurd (omega arith)
same_apart (negsuc m) (negsuc n) h k e =
    let q = decimal_injective (suc m) (suc n) (omega arith) (omega arith) (tail_eq 45 45 (decimal (suc m)) (decimal (suc n)) e) in
    let p : m ≡ n = omega arith in
    ap negsuc p

pub same_named : (ρ τ : ℕ) (y z : ℤ) → ρ < 2 ^ 32 → τ < 2 ^ 32 → mag y < 2 ^ 32 → mag z < 2 ^ 32 → named ρ y ≡ named τ z → (ρ ≡ τ) × (y ≡ z)
unfolding first
same_named zero zero y z a b h k e = (refl, signed_decimal_injective y z (omega arith) (omega arith) e)
same_named zero (suc v) y z a b h k e = let f = first_signed y h in let q : first (signed_decimal y) ≡ 95 = ap first e in absurd (omega arith)
same_named (suc u) zero y z a b h k e = let f = first_signed z k in let q : 95 ≡ first (signed_decimal z) = ap first e in absurd (omega arith)
same_named (suc u) (suc v) y z a b h k e =
    let r = decimal_split u v (apart y) (apart z) (omega arith) (omega arith) (stop_apart y) (stop_apart z) (tail_eq 95 95 (decimal u ++ apart y) (decimal v ++ apart z) e) in
    (ap suc r.0, same_apart y z h k r.1)

pub some_named : (ρ : ℕ) (z : ℤ) → mag z < 2 ^ 32 → 1 ≤ length (named ρ z)
some_named zero (pos n) h = decimal_nonempty n (omega arith)
some_named zero (negsuc n) h = omega arith
some_named (suc v) z h = omega arith

plain_apart : (z : ℤ) → mag z < 2 ^ 32 → All Plain (apart z)
plain_apart (pos zero) h = All-nil Plain
plain_apart (pos (suc n)) h = All-cons Plain 43 (decimal (suc n)) (search arith) (plain_decimal (suc n) (omega arith))
plain_apart (negsuc n) h = All-cons Plain 45 (decimal (suc n)) (search arith) (plain_decimal (suc n) (omega arith))

pub plain_named : (ρ : ℕ) (z : ℤ) → ρ < 2 ^ 32 → mag z < 2 ^ 32 → All Plain (named ρ z)
plain_named zero (pos n) a h = plain_decimal n (omega arith)
plain_named zero (negsuc n) a h = All-cons Plain 45 (decimal (suc n)) (search arith) (plain_decimal (suc n) (omega arith))
plain_named (suc v) z a h = All-cons Plain 95 (decimal v ++ apart z) (search arith) (All-append Plain (decimal v) (apart z) (plain_decimal v (omega arith)) (plain_apart z h))
