-- What is changed of a record, for private contracts. Assumes nothing.
--
--   Same            every node lies where it did
--   Moved           one class is put under another
--   says            an edge, as a test of assignments
--   Held            the edge holds already
--   Joined          the edge is added
--   Refused         the edge never holds
--   Joins           these three, by the answer
use Rattle.std.specs.Prelude.{◌≡◌, ℕ, ◌≤◌, false, cond, ◌&&◌, ℤ, ◌+ℤ◌, Ok, Err, Result, ◌==◌}
use Rattle.bank.specs.declared.Effect.{Effect}
use Rattle.bank.specs.declared.Effect.TheVariants.{Kept, Narrowed}
use Rattle.bank.specs.declared.Refusal.{Refusal}
use Rattle.bank.specs.declared.Refusal.TheVariants.{NotLive, NoSpare, BadConstraint, BadVariable, Contradiction, TextTooLong}
use Rattle.bank.specs.Kinds.{Assignment, Solutions}
use Rattle.semitones.specs.declared.cells.Edge.{Edge}
use Rattle.std.specs.Ordering.{int_eq}
use Rattle.semitones.specs.Cells.{Record, node, cell_of, root_of_lem, by_of, solves, Sound}

pub record Same (r s : Record) : Type 0 where
  pub few : s.used ≤ 257
  pub cells : (a : ℕ) → cell_of s a ≡ cell_of r a

pub record Moved (from to : ℕ) (gap : ℤ) (r s : Record) : Type 0 where
  pub few : s.used ≤ 257
  pub cells : (a : ℕ) → cell_of s a ≡ cond (root_of_lem r a == from) (record { root = to; by = by_of r a +ℤ gap }) (cell_of r a)

abbrev pub says : Edge → Solutions
says e σ = int_eq (node σ e.a) (node σ e.b +ℤ e.k)

pub record Held (r s : Record) (e : Edge) : Type 0 where
  pub same : s ≡ r
  pub always : (σ : Assignment) → solves r σ ≡ (solves r σ && says e σ)

pub record Joined (r s : Record) (e : Edge) : Type 0 where
  pub sound : Sound s
  pub solutions : (σ : Assignment) → solves s σ ≡ (solves r σ && says e σ)

pub record Refused (r s : Record) (e : Edge) : Type 0 where
  pub same : s ≡ r
  pub never : (σ : Assignment) → (solves r σ && says e σ) ≡ false

abbrev pub Joins : Record → Record → Edge → Result Effect Refusal → Type 0
Joins r s e (Ok Kept) = Held r s e
Joins r s e (Ok Narrowed) = Joined r s e
Joins r s e (Err Contradiction) = Refused r s e
Joins r s e (Err NotLive) = ⊥
Joins r s e (Err NoSpare) = ⊥
Joins r s e (Err BadConstraint) = ⊥
Joins r s e (Err BadVariable) = ⊥
Joins r s e (Err TextTooLong) = ⊥
