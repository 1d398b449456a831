-- The posed rule: a variable for each parameter, and no condition yet. Assumes nothing.
use Rattle.std.proofs.Common.{◌≡◌, ℕ, zero, suc, ◌≤◌, true, List, [], ◌∷◌, ◌++◌, map, length, get_or, take, pos, sym, refl, ap, ◌∙◌, le_refl, arith, take-suc}
use Rattle.std.proofs.lemmas.List.{map_push}
use lib.Seq.{take-length}
use Rattle.bank.specs.Kinds.{Value, number, Kind, Assignment, Solves}
use Rattle.machine.specs.Machine.{upto}
use Rattle.machine.specs.Derivations.{AllAdmitted}
use Rattle.book.proofs.Misfits.{each_append}
use Rattle.machine.proofs.Lists.{each_get_d}
use Rattle.machine.proofs.Frames.{Below, below_push, frame_push}
use Rattle.machine.proofs.Solutions.{solves_start, wide_split, wide_join}
use Rattle.machine.proofs.Values.{Local, wide_local}
use Rattle.machine.proofs.Waiting.{from}

pub upto_length : (p : ℕ) → length (upto p) ≡ p
upto_length zero = refl
upto_length (suc p) = frame_push (upto p) p (upto_length p)

pub upto_below : (p : ℕ) → Below p (upto p)
upto_below zero = tt
upto_below (suc p) = below_push p (upto p) (upto_below p)

-- The values in order, as an assignment.
abbrev pub in_order : List Value → Assignment
in_order vs i = get_or vs i (number (pos 0))

-- to read the values in order gives them back
pub upto_values : (vs : List Value) → map (in_order vs) (upto (length vs)) ≡ vs
upto_values vs = first (length vs) (le_refl _) ∙ take-length vs
  where
    first : (p : ℕ) → p ≤ length vs → map (in_order vs) (upto p) ≡ take p vs
    first zero h = refl
    first (suc p) h =
        map_push (in_order vs) (upto p) p
        ∙ ap (λ (us : List Value). us ++ (in_order vs p ∷ [])) (first p (omega arith))
        ∙ sym (take-suc vs p (number (pos 0)) h)

module _ (K : Kind) where
  pub posed_local : (p : ℕ) → Local K (from p [] [])
  posed_local zero = λ σ τ h y. solves_start K τ
  posed_local (suc p) = wide_local K (from p [] []) (posed_local p)

  -- the solutions are the assignments of admitted values
  pub posed_admitted : (p : ℕ) (σ : Assignment) → Solves K p [] σ → AllAdmitted K (map σ (upto p))
  posed_admitted zero σ h = tt
  posed_admitted (suc p) σ h =
      let parts = wide_split K σ p [] h in
      rw (map_push σ (upto p) p) (each_append (λ v. K.admits v ≡ true) (map σ (upto p)) (σ p ∷ []) (posed_admitted p σ parts.1) (parts.0, tt))

  pub posed_solves : (vs : List Value) (p : ℕ) → AllAdmitted K vs → p ≤ length vs → Solves K p [] (in_order vs)
  posed_solves vs zero h l = solves_start K (in_order vs)
  posed_solves vs (suc p) h l = wide_join K (in_order vs) p [] (each_get_d (λ v. K.admits v ≡ true) vs p (number (pos 0)) l h) (posed_solves vs p h (omega arith))
