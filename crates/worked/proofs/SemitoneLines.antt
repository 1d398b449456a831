-- The line over semitones: variable 1 lies 7 above variable 0, and the others are free. Assumes nothing.
use Rattle.std.proofs.Common.{◌≡◌, ℕ, zero, suc, ◌+◌, ◌<◌, ◌≤◌, true, cond, eqb, List, [], ◌∷◌, ◌++◌, ℤ, pos, ◌+ℤ◌, decimal, sym, refl, arith}
use lib.IntN.{+ℤ_idr}
use borrow.Author.Differences.{ints}
use Rattle.std.specs.Fmt.{digits}
use Rattle.std.proofs.lemmas.Bool.{eq-eqb, ne_eqb, cond-true, cond-false, and_from}
use Rattle.bank.specs.Kinds.{number, Condition, Assignment, Solutions, holds_at}
use Rattle.semitones.specs.Whole.{whole, number_of}
use Rattle.semitones.specs.Cells.{apart}
use Rattle.semitones.specs.Says.{Is, Lies, Says, a_name}
use Rattle.worked.specs.Rows.{over_semitones, stored, LineIs}
use Rattle.worked.specs.Table.{above}
use Rattle.worked.proofs.Distances.{held, solved, first_held, lies_above, above_holds}

abbrev told : List Condition
told = above 1 0 7 ∷ []

abbrev s : Solutions
s = stored over_semitones told

-- the lowest variable at one distance from x, and how far x lies above it
abbrev root : ℕ → ℕ
root zero = 0
root (suc zero) = 0
root (suc (suc x)) = suc (suc x)

abbrev by : ℕ → ℕ
by zero = 0
by (suc zero) = 7
by (suc (suc x)) = 0

abbrev texts : ℕ → List ℕ
texts x = 95 ∷ (decimal (root x) ++ apart (pos (by x)))

root_low : (x : ℕ) → root x ≤ x
root_low zero = omega arith
root_low (suc zero) = omega arith
root_low (suc (suc x)) = omega arith

-- all is 0 above its root, but the root r is j
abbrev place : ℕ → ℕ → ℕ → ℕ
place r j v = cond (eqb (root v) r) j 0 + by v

abbrev raised : ℕ → ℕ → Assignment
raised r j v = number (pos (place r j v))

raised_solves : (r j : ℕ) → s (raised r j) ≡ true
raised_solves r j =
    let apart : pos (place r j 1) ≡ pos (place r j 0) +ℤ pos 7 = omega (arith, ints) in
    solved told (λ v. pos (place r j v)) (and_from (holds_at whole (above 1 0 7) (raised r j)) true (above_holds 1 0 7 (raised r j) apart) refl)

place_here : (x j : ℕ) → place (root x) j x ≡ j + by x
place_here x j = omega (arith, cond-true (eqb (root x) (root x)) j 0 (eq-eqb (root x) (root x) refl))

place_there : (r j y : ℕ) → y < r → place r j y ≡ by y
place_there r j y l = omega (arith, cond-false (eqb (root y) r) j 0 (ne_eqb (root y) r (λ e. omega (arith, root_low y))))

lies : (x : ℕ) → Lies s x (root x) (pos (by x))
lies zero σ e = sym (+ℤ_idr (number_of (σ 0)))
lies (suc zero) σ e = lies_above 1 0 7 σ (first_held (above 1 0 7) [] σ (held told σ e)).0
lies (suc (suc x)) σ e = sym (+ℤ_idr (number_of (σ (suc (suc x)))))

lowest : (x y : ℕ) (e : ℤ) → y < root x → Lies s x y e → ⊥
lowest x y e l same =
    let r = root x in
    omega (arith, ints, same (raised r 0) (raised_solves r 0), same (raised r 1) (raised_solves r 1), place_here x 0, place_here x 1, place_there r 0 y l, place_there r 1 y l)

not_one : (x : ℕ) (z : ℤ) → Is s x z → ⊥
not_one x z is =
    let a = is (raised (root x) 0) (raised_solves (root x) 0) in
    let b = is (raised (root x) 1) (raised_solves (root x) 1) in
    let q : place (root x) 0 x ≡ place (root x) 1 x = cc in
    omega (arith, place_here x 0, place_here x 1)

says : (x : ℕ) → x < 256 → Says s x (texts x)
says x l = a_name (root x) (pos (by x)) (root_low x) (lies x) (lowest x) (not_one x) refl

pub fifth_line : LineIs over_semitones 2 told "_0,_0+7"
unfolding digits
fifth_line = record { text = texts; says = says; joins = refl }
