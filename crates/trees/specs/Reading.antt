-- How a constraint is read, for the contracts of private functions. Assumes nothing.
--
--   Reads   what reading answers: what is asked, or why nothing is
use Rattle.std.specs.Prelude.{◌≡◌, true, false, Ok, Err, Result}
use Rattle.bank.specs.Kinds.{Assignment, Condition, well_formed, in_range, holds_at}
use Rattle.bank.specs.declared.Refusal.{Refusal}
use Rattle.bank.specs.declared.Refusal.TheVariants.{NotLive, NoSpare, BadConstraint, BadVariable, Contradiction, TextTooLong}
use Rattle.trees.specs.Kind.{trees}
use Rattle.trees.specs.Tasks.{asks}
use Rattle.trees.specs.declared.tasks.Task.{Task}

pub record Asked (c : Condition) (t : Task) : Type 0 where
  pub formed : well_formed trees c ≡ true
  pub within : in_range 256 c ≡ true
  pub holds : (σ : Assignment) → holds_at trees c σ ≡ asks t σ

pub record Beyond (c : Condition) : Type 0 where
  pub formed : well_formed trees c ≡ true
  pub outside : in_range 256 c ≡ false

abbrev pub Reads : Condition → Result Task Refusal → Type 0
Reads c (Ok t) = Asked c t
Reads c (Err BadConstraint) = well_formed trees c ≡ false
Reads c (Err BadVariable) = Beyond c
Reads c (Err NotLive) = ⊥
Reads c (Err NoSpare) = ⊥
Reads c (Err Contradiction) = ⊥
Reads c (Err TextTooLong) = ⊥
