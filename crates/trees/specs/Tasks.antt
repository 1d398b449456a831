-- What a constraint asks of a store, for the contracts of private functions. Assumes nothing.
--
--   asks, Asks   the assignments at which a task holds, as a test and as a fact
--   Proper       a task speaks of variables below n
--   Starts       what is asked is put into the record, up to pending equations
--   Narrows      the record has those of its solutions at which it holds, or there are none
--   Told         what a record answers: it holds already, or is now kept, or never holds
--   Decided      the same, or nothing is decided and nothing changes
use Rattle.std.specs.Prelude.{◌≡◌, ℕ, ◌<◌, ◌≤◌, false, ◌&&◌, List, length, Some, None, Ok, Err, Option, Result}
use Rattle.bank.specs.Kinds.{Assignment, Solutions}
use Rattle.bank.specs.declared.Effect.{Effect}
use Rattle.bank.specs.declared.Effect.TheVariants.{Kept, Narrowed as Lost}
use Rattle.bank.specs.declared.Refusal.{Refusal}
use Rattle.bank.specs.declared.Refusal.TheVariants.{NotLive, NoSpare, BadConstraint, BadVariable, Contradiction, TextTooLong}
use Rattle.trees.specs.Kind.{equal}
use Rattle.trees.specs.Stores.{Store, fits, Fits, solves, Solves, Left, Same, Named, Formed, Shaped}
use Rattle.trees.specs.Values.{Sound}
use Rattle.trees.specs.declared.cells.Equation.{Equation}
use Rattle.trees.specs.declared.cells.NoSolution.{NoSolution}
use Rattle.trees.specs.declared.tasks.Task.{Task}
use Rattle.trees.specs.declared.tasks.Task.TheVariants.{Equal, Has}

abbrev pub asks : Task → Solutions
asks (Equal t) σ = equal (σ t.x) (σ t.y)
asks (Has t) σ = fits σ t.form (σ t.x)

abbrev pub Asks : Task → Assignment → Type 0
Asks (Equal t) σ = σ t.x ≡ σ t.y
Asks (Has t) σ = Fits σ t.form (σ t.x)

abbrev pub Proper : ℕ → Task → Type 0
Proper n (Equal t) = (t.x < n) × (t.y < n)
Proper n (Has t) = (t.x < n) × Formed n t.form

abbrev pub With : Store → Task → Assignment → Type 0
With r t σ = Solves r σ × Asks t σ

pub record Started (r s : Store) (t : Task) (ds : List Equation) : Type 0 where
  pub shaped : Shaped s
  pub used : s.used ≡ r.used
  pub named : Named s.used ds
  pub left : Same (With r t) (Left s ds)
  pub few : length ds ≤ 2

abbrev pub Starts : Store → Store → Task → List Equation → Result (Unit {0}) NoSolution → Type 0
Starts r s t ds (Ok u) = Started r s t ds
Starts r s t ds (Err none) = (σ : Assignment) → With r t σ → ⊥

pub record Narrowed (r s : Store) (t : Task) : Type 0 where
  pub sound : Sound s
  pub more : r.used ≤ s.used
  pub solutions : (σ : Assignment) → solves s σ ≡ (solves r σ && asks t σ)

abbrev pub Narrows : Store → Store → Task → Result (Unit {0}) NoSolution → Type 0
Narrows r s t (Ok u) = Narrowed r s t
Narrows r s t (Err none) = (σ : Assignment) → (solves r σ && asks t σ) ≡ false

-- every solution has it already
pub record Held (r s : Store) (t : Task) : Type 0 where
  pub same : s ≡ r
  pub always : (σ : Assignment) → solves r σ ≡ (solves r σ && asks t σ)

-- no solution has it, and nothing changes
pub record Refused (r s : Store) (t : Task) : Type 0 where
  pub same : s ≡ r
  pub never : (σ : Assignment) → (solves r σ && asks t σ) ≡ false

abbrev pub Told : Store → Store → Task → Result Effect Refusal → Type 0
Told r s t (Ok Kept) = Held r s t
Told r s t (Ok Lost) = Narrowed r s t
Told r s t (Err Contradiction) = Refused r s t
Told r s t (Err NotLive) = ⊥
Told r s t (Err NoSpare) = ⊥
Told r s t (Err BadConstraint) = ⊥
Told r s t (Err BadVariable) = ⊥
Told r s t (Err TextTooLong) = ⊥

abbrev pub Decided : Store → Store → Task → Option (Result Effect Refusal) → Type 0
Decided r s t (Some y) = Told r s t y
Decided r s t None = s ≡ r
