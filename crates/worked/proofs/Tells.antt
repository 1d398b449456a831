-- What every tell to a store answers, and the two tells of the table. Assumes nothing.
use Rattle.std.proofs.Common.{◌≡◌, ℕ, zero, suc, true, false, ◌&&◌, List, [], ◌∷◌, ◌++◌, ℤ, pos, Ok, Err, sym, refl, ap, ◌∙◌, ⊎_elim, arith}
use borrow.Author.Differences.{ints}
use Rattle.std.proofs.lemmas.Bool.{both_ways, cases_Bool}
use Rattle.bank.specs.declared.Effect.{Effect}
use Rattle.bank.specs.declared.Effect.TheVariants.{Kept, Narrowed}
use Rattle.bank.specs.declared.Refusal.{Refusal}
use Rattle.bank.specs.declared.Refusal.TheVariants.{NotLive, NoSpare, BadConstraint, BadVariable, Contradiction, TextTooLong}
use Rattle.bank.specs.Calls.{Accepted}
use Rattle.bank.specs.Kinds.{number, Condition, Assignment, holds_at, well_formed, in_range}
use Rattle.bank.specs.Numbers.{number as number_of_refusal}
use Rattle.bank.specs.Views.{Meaning}
use Rattle.machine.proofs.Solutions.{solves_told}
use Rattle.worked.specs.Rows.{Bank, over_semitones, kind_of, stored, HasTold, EveryTell, TellRefused, TellAccepted}
use Rattle.worked.specs.Table.{above}
use Rattle.worked.proofs.Distances.{held, solved, first_held, lies_above}

module _ (b : Bank) (told : List Condition) (c : Condition) (formed : well_formed (kind_of b) c ≡ true) (within : in_range 256 c ≡ true) where
  -- a store that was told so has these solutions with the next condition
  more : (m : Meaning) (s : ℕ) → HasTold b told m s → (σ : Assignment) → (m.solutions s σ && holds_at (kind_of b) c σ) ≡ stored b (told ++ c ∷ []) σ
  more m s has σ = ap (λ x. x && holds_at (kind_of b) c σ) (has.1 σ) ∙ sym (solves_told (kind_of b) σ 256 told c)

  not_accepted : (m n : Meaning) (s : ℕ) → ((σ : Assignment) → stored b (told ++ c ∷ []) σ ≡ false) → HasTold b told m s → Accepted (kind_of b) 256 m n s c → ⊥
  not_accepted m n s never has a =
      let σ = a.some.0 in
      both_ways (n.solutions s σ) (a.has σ ∙ more m s has σ ∙ never σ) a.some.1

  pub refused :
      ((σ : Assignment) → stored b (told ++ c ∷ []) σ ≡ false)
      → EveryTell b told c (λ r. (e : Refusal) × (r ≡ Err e) × (number_of_refusal e ≡ 33))
  refused never m n s (Ok Kept) has t = absurd (not_accepted m n s never has t.accepted)
  refused never m n s (Ok Narrowed) has t = absurd (not_accepted m n s never has t)
  refused never m n s (Err NotLive) has t = absurd (both_ways (m.live s) t.not has.0)
  refused never m n s (Err BadConstraint) has t = absurd (both_ways (well_formed (kind_of b) c) t.formed formed)
  refused never m n s (Err BadVariable) has t = absurd (both_ways (in_range 256 c) t.within within)
  refused never m n s (Err Contradiction) has t = (Contradiction, refl, refl)
  refused never m n s (Err NoSpare) has t = absurd t
  refused never m n s (Err TextTooLong) has t = absurd t

  pub accepted :
      (σ : Assignment) → stored b (told ++ c ∷ []) σ ≡ true → EveryTell b told c (λ r. (e : Effect) × (r ≡ Ok e))
  accepted σ some m n s (Ok e) has t = (e, refl)
  accepted σ some m n s (Err NotLive) has t = absurd (both_ways (m.live s) t.not has.0)
  accepted σ some m n s (Err BadConstraint) has t = absurd (both_ways (well_formed (kind_of b) c) t.formed formed)
  accepted σ some m n s (Err BadVariable) has t = absurd (both_ways (in_range 256 c) t.within within)
  accepted σ some m n s (Err Contradiction) has t = absurd (both_ways (stored b (told ++ c ∷ []) σ) (sym (more m s has σ) ∙ t.never σ) some)
  accepted σ some m n s (Err NoSpare) has t = absurd t
  accepted σ some m n s (Err TextTooLong) has t = absurd t

abbrev told : List Condition
told = above 1 0 7 ∷ above 2 1 5 ∷ []

abbrev eleven : List Condition
eleven = told ++ above 2 0 11 ∷ []

abbrev twelve : List Condition
twelve = told ++ above 2 0 12 ∷ []

eleven_fails : (σ : Assignment) → stored over_semitones eleven σ ≡ true → ⊥
eleven_fails σ e =
    let first = first_held (above 1 0 7) (above 2 1 5 ∷ above 2 0 11 ∷ []) σ (held eleven σ e) in
    let second = first_held (above 2 1 5) (above 2 0 11 ∷ []) σ first.1 in
    let third = first_held (above 2 0 11) [] σ second.1 in
    omega (arith, ints, lies_above 1 0 7 σ first.0, lies_above 2 1 5 σ second.0, lies_above 2 0 11 σ third.0)

never : (σ : Assignment) → stored over_semitones eleven σ ≡ false
never σ = ⊎_elim (λ e. absurd (eleven_fails σ e)) (λ e. e) (cases_Bool (stored over_semitones eleven σ))

pub eleven_refused : TellRefused over_semitones told (above 2 0 11) 33
eleven_refused = record { never = never; answer = refused over_semitones told (above 2 0 11) refl refl never }

abbrev chord : ℕ → ℤ
chord zero = pos 0
chord (suc zero) = pos 7
chord (suc (suc v)) = pos 12

chord_solves : stored over_semitones twelve (λ v. number (chord v)) ≡ true
chord_solves = solved twelve chord refl

pub twelve_accepted : TellAccepted over_semitones told (above 2 0 12)
twelve_accepted =
    record { some = (λ v. number (chord v), chord_solves); answer = accepted over_semitones told (above 2 0 12) refl refl (λ v. number (chord v)) chord_solves }
