-- What constraints of distance say of a solution over semitones. Assumes nothing.
use Rattle.std.proofs.Common.{◌≡◌, ℕ, true, List, ◌∷◌, ℤ, pos, ◌+ℤ◌, refl}
use Rattle.std.proofs.lemmas.Bool.{and_parts, and_from}
use Rattle.bank.specs.Kinds.{number, Condition, Assignment, all_admitted, all_hold, holds_at}
use Rattle.semitones.specs.Whole.{whole, number_of}
use Rattle.semitones.specs.laws.Solves.{eq_z_true, eq_eq_z, admitted_from}
use Rattle.worked.specs.Rows.{over_semitones, stored}
use Rattle.worked.specs.Table.{above}

pub held : (told : List Condition) (σ : Assignment) → stored over_semitones told σ ≡ true → all_hold whole told σ ≡ true
held told σ e = (and_parts (all_admitted whole 256 σ) (all_hold whole told σ) e).1

-- numbers at which the constraints hold are a solution
pub solved : (told : List Condition) (place : ℕ → ℤ) → all_hold whole told (λ v. number (place v)) ≡ true → stored over_semitones told (λ v. number (place v)) ≡ true
solved told place e =
    let σ : Assignment = λ v. number (place v) in
    and_from (all_admitted whole 256 σ) (all_hold whole told σ) (admitted_from σ 256 (λ v l. refl)) e

pub first_held : (c : Condition) (cs : List Condition) (σ : Assignment) → all_hold whole (c ∷ cs) σ ≡ true → (holds_at whole c σ ≡ true) × (all_hold whole cs σ ≡ true)
first_held c cs σ e = and_parts (holds_at whole c σ) (all_hold whole cs σ) e

pub lies_above : (x y k : ℕ) (σ : Assignment) → holds_at whole (above x y k) σ ≡ true → number_of (σ x) ≡ number_of (σ y) +ℤ pos k
lies_above x y k σ e = eq_z_true (number_of (σ x)) (number_of (σ y) +ℤ pos k) e

pub above_holds : (x y k : ℕ) (σ : Assignment) → number_of (σ x) ≡ number_of (σ y) +ℤ pos k → holds_at whole (above x y k) σ ≡ true
above_holds x y k σ e = eq_eq_z (number_of (σ x)) (number_of (σ y) +ℤ pos k) e
