-- Solutions as conditions are told and variables come. Assumes nothing.
use Rattle.std.proofs.Common.{◌≡◌, ℕ, suc, Bool, true, ◌&&◌, List, [], ◌∷◌, ◌++◌, sym, refl, ap, ◌∙◌}
use mathlib.Core.Bool.{and-eq-true_iff, and-true, and_assoc}
use Rattle.bank.specs.Kinds.{Condition, Kind, Assignment, holds_at, all_hold, all_admitted, solves, Solves}
use Rattle.book.specs.Language.{Goal, Rules}
use Rattle.machine.specs.Machine.{left, right, Frame, vars_of_lem, told_at, Answer}
use Rattle.machine.proofs.Shapes.{Shape, s_tell, s_conj, s_left, s_right, s_fresh, s_call, leads, chosen, widened}

module _ (K : Kind) (σ : Assignment) where
  hold_more : (cs : List Condition) (c : Condition) → all_hold K (cs ++ (c ∷ [])) σ ≡ (all_hold K cs σ && holds_at K c σ)
  hold_more [] c = and-true (holds_at K c σ)
  hold_more (b ∷ cs) c =
      ap (λ (x : Bool). holds_at K b σ && x) (hold_more cs c) ∙ sym (and_assoc (holds_at K b σ) (all_hold K cs σ) (holds_at K c σ))

  -- with no variable and no condition every assignment is a solution
  pub solves_start : Solves K 0 [] σ
  unfolding all_admitted
  solves_start = refl

  -- the solutions with one more condition are those before at which it holds
  pub solves_told : (n : ℕ) (cs : List Condition) (c : Condition) → solves K n (cs ++ (c ∷ [])) σ ≡ (solves K n cs σ && holds_at K c σ)
  solves_told n cs c =
      ap (λ (x : Bool). all_admitted K n σ && x) (hold_more cs c) ∙ sym (and_assoc (all_admitted K n σ) (all_hold K cs σ) (holds_at K c σ))

  -- the solutions with one more variable are those before at which its value is admitted
  pub solves_wide : (n : ℕ) (cs : List Condition) → solves K (suc n) cs σ ≡ (K.admits (σ n) && solves K n cs σ)
  unfolding all_admitted
  solves_wide n cs = and_assoc (K.admits (σ n)) (all_admitted K n σ) (all_hold K cs σ)

  -- the same two, in parts
  pub told_split : (n : ℕ) (cs : List Condition) (c : Condition) → Solves K n (cs ++ (c ∷ [])) σ → Solves K n cs σ × (holds_at K c σ ≡ true)
  told_split n cs c h = (and-eq-true_iff (solves K n cs σ) (holds_at K c σ)).0 (sym (solves_told n cs c) ∙ h)

  pub told_join : (n : ℕ) (cs : List Condition) (c : Condition) → Solves K n cs σ → holds_at K c σ ≡ true → Solves K n (cs ++ (c ∷ [])) σ
  told_join n cs c h k = solves_told n cs c ∙ (and-eq-true_iff (solves K n cs σ) (holds_at K c σ)).1 (h, k)

  pub wide_split : (n : ℕ) (cs : List Condition) → Solves K (suc n) cs σ → (K.admits (σ n) ≡ true) × Solves K n cs σ
  wide_split n cs h = (and-eq-true_iff (K.admits (σ n)) (solves K n cs σ)).0 (sym (solves_wide n cs) ∙ h)

  pub wide_join : (n : ℕ) (cs : List Condition) → K.admits (σ n) ≡ true → Solves K n cs σ → Solves K (suc n) cs σ
  wide_join n cs h k = solves_wide n cs ∙ (and-eq-true_iff (K.admits (σ n)) (solves K n cs σ)).1 (h, k)

  -- what solves the answer at the end of a shape solves the one at its start
  pub solves_back :
      {rules : Rules} {g : Goal} (s : Shape rules g) (f : Frame) (a : Answer)
      → Solves K (leads s f a).n (leads s f a).told σ → Solves K a.n a.told σ
  solves_back (s_tell {code} {k} {slots}) f a h = (told_split a.n a.told (told_at code k slots f) h).0
  solves_back (s_conj s t) f a h = solves_back s f a (solves_back t f (leads s f a) h)
  solves_back (s_left s) f a h = solves_back s f (chosen a left) h
  solves_back (s_right s) f a h = solves_back s f (chosen a right) h
  solves_back (s_fresh s) f a h = (wide_split a.n a.told (solves_back s (f ++ (a.n ∷ [])) (widened a) h)).1
  solves_back (s_call {slots = slots} s) f a h = solves_back s (vars_of_lem f slots) a h
