-- A constraint of the code, as mathematics, and what a check of it answers. Assumes nothing.
use Rattle.std.specs.Prelude.{◌≡◌, ℕ, true, false, List, [], ◌∷◌, Ok, Err, Option, Result}
use Rattle.bank.specs.declared.Constraint.{Constraint}
use Rattle.bank.specs.declared.Refusal.{Refusal}
use Rattle.bank.specs.declared.Refusal.TheVariants.{NotLive, NoSpare, BadConstraint, BadVariable, Contradiction, TextTooLong}
use Rattle.bank.specs.declared.Vars.{Vars}
use Rattle.bank.specs.declared.Vars.TheVariants.{Zero, One, Two, Three}
use Rattle.bank.specs.Kinds.{Condition, formed, in_range}

abbrev pub listed : Vars → List ℕ
listed Zero = []
listed (One x) = x ∷ []
listed (Two x y) = x ∷ y ∷ []
listed (Three x y z) = x ∷ y ∷ z ∷ []

abbrev pub condition : Constraint → Condition
condition c = record { code = c.code; k = c.k; vars = listed c.vars }

-- its code takes so many variables, if it is known, and each variable is to be below n
abbrev pub Checks : Option ℕ → ℕ → Condition → Result (Unit {0}) Refusal → Type 0
Checks arity n c (Ok u) = (formed arity c ≡ true) × (in_range n c ≡ true)
Checks arity n c (Err BadConstraint) = formed arity c ≡ false
Checks arity n c (Err BadVariable) = (formed arity c ≡ true) × (in_range n c ≡ false)
Checks arity n c (Err NotLive) = ⊥
Checks arity n c (Err NoSpare) = ⊥
Checks arity n c (Err Contradiction) = ⊥
Checks arity n c (Err TextTooLong) = ⊥
