-- The text of a variable, by its cell. Assumes nothing.
use Rattle.std.proofs.Common.{◌≡◌, ℕ, zero, suc, ◌+◌, ◌-◌, ◌∷◌, ◌++◌, ℤ, decimal, sym, refl, ap, ◌∙◌, add-one, arith}
use Rattle.std.specs.Fmt.{signed_decimal}
use Rattle.semitones.specs.Cells.{Record, root_of_lem, by_of, apart, named, shown}

module _ (r : Record) (v ρ : ℕ) (z : ℤ) (er : ρ ≡ root_of_lem r (v + 1)) (ez : z ≡ by_of r (v + 1)) where
  shown_is : named ρ z ≡ shown r v
  unfolding shown
  shown_is = ap (λ (a : ℕ). named a z) (er ∙ ap (root_of_lem r) (add-one v)) ∙ ap (named (root_of_lem r (suc v))) (ez ∙ ap (by_of r) (add-one v))

  pub shown_number : ρ ≡ 0 → signed_decimal z ≡ shown r v
  shown_number e = ap (λ (a : ℕ). named a z) (sym e) ∙ shown_is

  pub shown_name : (ρ ≡ 0 → ⊥) → (95 ∷ decimal (ρ - 1)) ++ apart z ≡ shown r v
  shown_name ne = by_root ρ refl ne ∙ shown_is
    where
      by_root : (a : ℕ) → a ≡ ρ → (ρ ≡ 0 → ⊥) → (95 ∷ decimal (ρ - 1)) ++ apart z ≡ named ρ z
      by_root zero e ne = absurd (ne (sym e))
      by_root (suc u) e ne =
          let q : ρ - 1 ≡ u = omega arith in
          ap (λ (n : ℕ). (95 ∷ decimal n) ++ apart z) q ∙ ap (λ (a : ℕ). named a z) e
