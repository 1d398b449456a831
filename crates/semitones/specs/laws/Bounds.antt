-- How far the nodes of a class lie apart. Assumes nothing.
use Rattle.std.specs.Prelude.{◌≡◌, ℕ, zero, suc, ◌*◌, ◌<◌, ◌≤◌, cond, ℤ, pos, negsuc, ◌+ℤ◌, ◌≤ℤ◌, ◌==◌}
use Rattle.std.proofs.Common.{⊎_elim, sym, ap, subst, arith}
use Rattle.std.specs.Int.Signed.{mag}
use Rattle.std.proofs.lemmas.Int.{ints}
use Rattle.std.proofs.lemmas.Bool.{cases_lt, cases_Bool}
use Rattle.semitones.specs.declared.cells.Cell.{Cell}
use Rattle.semitones.specs.Cells.{Record, root_of_lem, by_of, tied, Sound}
use Rattle.semitones.specs.laws.Solves.{cell_out}

pub mag_within : (z : ℤ) (n : ℕ) → z ≤ℤ pos n → pos 0 ≤ℤ (z +ℤ pos n) → mag z ≤ n
mag_within (pos m) n h k = omega (arith, ints)
mag_within (negsuc m) n h k = omega (arith, ints)

pub tied_few : (r : Record) (ρ n : ℕ) → tied r ρ n ≤ n
unfolding tied
tied_few r ρ zero = omega arith
tied_few r ρ (suc n) =
    let few = tied_few r ρ n in
    ⊎_elim (λ e. let one : ◌≡◌ {A = ℕ} (cond (root_of_lem r n == ρ) 1 0) 1 = ap (λ b. cond {A = ℕ} b 1 0) e in omega arith)
    (λ e. let none : ◌≡◌ {A = ℕ} (cond (root_of_lem r n == ρ) 1 0) 0 = ap (λ b. cond {A = ℕ} b 1 0) e in omega arith)
    (cases_Bool (root_of_lem r n == ρ))

bounded : (x y : ℤ) (m n : ℕ) → y ≡ pos 0 → m ≤ 257 → n ≤ 257 → (x +ℤ pos 1000) ≤ℤ (y +ℤ pos (1000 * m)) → (y +ℤ pos 1000) ≤ℤ (x +ℤ pos (1000 * n)) → mag x ≤ 257000
bounded x y m n e h k up down = mag_within x 257000 (omega (arith, ints, e)) (omega (arith, ints, e))

-- the distances of a sound record are small
pub far : (r : Record) → Sound r → (a : ℕ) → mag (by_of r a) ≤ 257000
far r S a = ⊎_elim
    (λ h.
    let ρ = root_of_lem r a in
    let l : ρ < 257 = omega (arith, S.low a) in
    bounded (by_of r a) (by_of r ρ) (tied r ρ 257) (tied r (root_of_lem r ρ) 257) (S.flat a) (tied_few r ρ 257) (tied_few r (root_of_lem r ρ) 257)
    (S.near a ρ h l (sym (S.top a))) (S.near ρ a l h (S.top a)))
    (λ h.
    let none : by_of r a ≡ pos 0 = ap (λ (c : Cell). c.by) (cell_out r a (omega (arith, S.few))) in
    subst (λ (z : ℤ). mag z ≤ 257000) (sym none) (omega arith))
    (cases_lt a 257)
