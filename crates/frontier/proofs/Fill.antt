-- Solutions over n variables and over more: the rest is filled by a value of the kind. Assumes nothing.
use Rattle.std.proofs.Common.{◌≡◌, ℕ, zero, suc, ◌<◌, ◌≤◌, Bool, true, false, cond, ltb, List, sym, refl, ap, ◌∙◌, subst, inl, inr, eq-or-lt_of_le, arith, ltb-false, ltb-true, le-ltb, lt-ltb}
use mathlib.Core.Bool.{and-eq-true_iff}
use Rattle.bank.specs.Kinds.{Value, Kind, Condition, Assignment, all_hold, all_admitted, Solves}
use Rattle.machine.specs.Machine.{Answer}
use Rattle.machine.proofs.Values.{Local}
use Rattle.machine.proofs.Frames.{Agrees}

module _ (K : Kind) where
  -- each variable below n has an admitted value, one by one
  pub admitted_each : (σ : Assignment) (n : ℕ) → all_admitted K n σ ≡ true → (u : ℕ) → u < n → K.admits (σ u) ≡ true
  unfolding all_admitted
  admitted_each σ zero h u l = absurd (omega arith)
  admitted_each σ (suc n) h u l =
      let parts = (and-eq-true_iff (K.admits (σ n)) (all_admitted K n σ)).0 h in
      let below : u ≤ n = omega arith in
      elim (eq-or-lt_of_le below) [
        | inl e ↦ subst (λ (x : ℕ). K.admits (σ x) ≡ true) (sym e) parts.0
        | inr k ↦ admitted_each σ n parts.1 u k
      ]

  pub each_admitted : (σ : Assignment) (n : ℕ) → ((u : ℕ) → u < n → K.admits (σ u) ≡ true) → all_admitted K n σ ≡ true
  unfolding all_admitted
  each_admitted σ zero h = refl
  each_admitted σ (suc n) h =
      (and-eq-true_iff (K.admits (σ n)) (all_admitted K n σ)).1 (h n (omega arith), each_admitted σ n (λ u l. h u (omega arith)))

  solves_parts : (n : ℕ) (told : List Condition) (σ : Assignment) → Solves K n told σ → (all_admitted K n σ ≡ true) × (all_hold K told σ ≡ true)
  solves_parts n told σ h = (and-eq-true_iff (all_admitted K n σ) (all_hold K told σ)).0 h

  solves_both : (n : ℕ) (told : List Condition) (σ : Assignment) → all_admitted K n σ ≡ true → all_hold K told σ ≡ true → Solves K n told σ
  solves_both n told σ h k = (and-eq-true_iff (all_admitted K n σ) (all_hold K told σ)).1 (h, k)

  -- a solution over more variables is one over fewer
  pub narrow : (n V : ℕ) (told : List Condition) (σ : Assignment) → n ≤ V → Solves K V told σ → Solves K n told σ
  narrow n V told σ l h =
      let parts = solves_parts V told σ h in
      solves_both n told σ (each_admitted σ n (λ u k. admitted_each σ V parts.0 u (omega arith))) parts.1

  -- The assignment below n, and the value from there on.
  abbrev filled : ℕ → Value → Assignment → Assignment
  filled n v σ u = cond (ltb u n) (σ u) v

  filled_agrees : (n : ℕ) (v : Value) (σ : Assignment) → Agrees n (filled n v σ) σ
  filled_agrees n v σ u l = rw (lt-ltb u n l)

  filled_past : (n : ℕ) (v : Value) (σ : Assignment) (u : ℕ) → n ≤ u → filled n v σ u ≡ v
  filled_past n v σ u l = rw (le-ltb u n l)

  -- a solution over n variables, of constraints that speak of no others, goes on to one over V
  pub widen :
      (v : Value) → K.admits v ≡ true → (V : ℕ) (a : Answer) (σ : Assignment) → Local K a → Solves K a.n a.told σ
      → (τ : Assignment) × Agrees a.n τ σ × Solves K V a.told τ
  widen v adm V a σ loc h =
      let n = a.n in
      let τ = filled n v σ in
      let here = loc σ τ (λ u l. sym (filled_agrees n v σ u l)) h in
      let parts = solves_parts n a.told τ here in
      (τ, filled_agrees n v σ, solves_both V a.told τ (each_admitted τ V (λ u l. at n parts.0 u)) parts.1)
    where
      at : (n : ℕ) → all_admitted K n (filled n v σ) ≡ true → (u : ℕ) → K.admits (filled n v σ u) ≡ true
      at n ok u = split (ltb u n) refl
        where
          split : (b : Bool) → ltb u n ≡ b → K.admits (filled n v σ u) ≡ true
          split true e = admitted_each (filled n v σ) n ok u (ltb-true u n e)
          split false e = ap K.admits (filled_past n v σ u (ltb-false u n e)) ∙ adm
