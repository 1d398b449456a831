-- Which edge a constraint says, for private contracts. Assumes nothing.
--
--   Reads   the edge of a constraint, or the refusal
use Rattle.std.specs.Prelude.{◌≡◌, true, false, ◌+ℤ◌, Ok, Err, Result}
use Rattle.bank.specs.declared.Refusal.{Refusal}
use Rattle.bank.specs.declared.Refusal.TheVariants.{NotLive, NoSpare, BadConstraint, BadVariable, Contradiction, TextTooLong}
use Rattle.bank.specs.Kinds.{Assignment, Condition, holds_at, well_formed, in_range}
use Rattle.semitones.specs.declared.cells.Edge.{Edge}
use Rattle.semitones.specs.Whole.{whole}
use Rattle.std.specs.Ordering.{int_eq}
use Rattle.semitones.specs.Cells.{node}

pub record Edge-of (c : Condition) (e : Edge) : Type 0 where
  pub formed : well_formed whole c ≡ true
  pub within : in_range 256 c ≡ true
  pub holds : (σ : Assignment) → holds_at whole c σ ≡ int_eq (node σ e.a) (node σ e.b +ℤ e.k)

pub record Beyond (c : Condition) : Type 0 where
  pub formed : well_formed whole c ≡ true
  pub outside : in_range 256 c ≡ false

abbrev pub Reads : Condition → Result Edge Refusal → Type 0
Reads c (Ok e) = Edge-of c e
Reads c (Err BadConstraint) = well_formed whole c ≡ false
Reads c (Err BadVariable) = Beyond c
Reads c (Err NotLive) = ⊥
Reads c (Err NoSpare) = ⊥
Reads c (Err Contradiction) = ⊥
Reads c (Err TextTooLong) = ⊥
