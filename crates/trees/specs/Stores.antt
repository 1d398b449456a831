-- What a store's record says. Assumes nothing.
--
--   Store               the record of a store
--   lone                the cell of a variable that is not in use: it is free and alone
--   no_cell             what stands for a cell past the last one
--   root_of_lem, form_at_lem    the class of a variable, by its lowest variable, and the form that stands at a variable
--   form_of             what is known of a variable's class
--   solves              the solutions of a store
-- and, for the contracts of private functions:
--   Fits, Solves        the same as facts
--   Holds, Left         equations that are still pending hold; the solutions that they leave
--   Formed, Named       forms and equations speak of variables below n, and of numbers in range
--   Shaped              what every record that is worked on keeps
--   Alike, Reached      two records say the same, and more variables are in use
--   classes             how many classes there are
use Rattle.std.specs.Prelude.{◌≡◌, ℕ, zero, suc, ◌+◌, ◌<◌, ◌≤◌, Bool, true, cond, ◌&&◌, List, [], ◌∷◌, ◌==◌, unsigned_abs}
use Rattle.bank.specs.Kinds.{Value, number, pair, Assignment, Solutions}
use Rattle.records.specs.declared.cells.Record.{Record}
use Rattle.records.specs.Cells.{cell_at}
use Rattle.trees.specs.Kind.{equal}
use Rattle.trees.specs.declared.cells.Cell.{Cell}
use Rattle.trees.specs.declared.cells.Form.{Form}
use Rattle.trees.specs.declared.cells.Form.TheVariants.{Free, Number, Pair}
use Rattle.trees.specs.declared.cells.Equation.{Equation}

abbrev pub Store : Type 0
Store = Record Cell 256

abbrev pub lone : ℕ → Cell
lone a = record { root = a; form = Free }

abbrev pub no_cell : Cell
no_cell = record { root = 0; form = Free }

unfoldable pub root_of_lem : Store → ℕ → ℕ
root_of_lem r a = (cell_at lone r a).root

unfoldable pub form_at_lem : Store → ℕ → Form
form_at_lem r a = (cell_at lone r a).form

abbrev pub form_of : Store → ℕ → Form
form_of r a = form_at_lem r (root_of_lem r a)

-- a value has a form
abbrev pub fits : Assignment → Form → Value → Bool
fits σ Free v = true
fits σ (Number k) v = equal v (number k)
fits σ (Pair x y) v = equal v (pair (σ x) (σ y))

-- each of the variables below n is equal to its root, and has the form of its class
unfoldable pub agrees : Store → ℕ → Solutions
agrees r zero σ = true
agrees r (suc n) σ = (equal (σ n) (σ (root_of_lem r n)) && fits σ (form_of r n) (σ n)) && agrees r n σ

unfoldable pub solves : Store → Solutions
solves r σ = agrees r 256 σ

abbrev pub Fits : Assignment → Form → Value → Type 0
Fits σ Free v = Unit {0}
Fits σ (Number k) v = v ≡ number k
Fits σ (Pair x y) v = v ≡ pair (σ x) (σ y)

pub record Solves (r : Store) (σ : Assignment) : Type 0 where
  pub same : (a : ℕ) → a < 256 → σ a ≡ σ (root_of_lem r a)
  pub form : (a : ℕ) → a < 256 → Fits σ (form_of r a) (σ a)

abbrev pub Holds : Assignment → List Equation → Type 0
Holds σ [] = Unit {0}
Holds σ (e ∷ es) = (σ e.x ≡ σ e.y) × Holds σ es

abbrev pub Left : Store → List Equation → Assignment → Type 0
Left r es σ = Solves r σ × Holds σ es

-- two sets of assignments are one
pub record Same (P Q : Assignment → Type 0) : Type 0 where
  pub to : (σ : Assignment) → P σ → Q σ
  pub from : (σ : Assignment) → Q σ → P σ

abbrev pub Formed : ℕ → Form → Type 0
Formed n Free = Unit {0}
Formed n (Number k) = unsigned_abs k ≤ 1000
Formed n (Pair x y) = (x < n) × (y < n)

abbrev pub Named : ℕ → List Equation → Type 0
Named n [] = Unit {0}
Named n (e ∷ es) = ((e.x < n) × (e.y < n)) × Named n es

pub record Shaped (r : Store) : Type 0 where
  pub used : r.used ≤ 256
  pub low : (a : ℕ) → a < 256 → root_of_lem r a ≤ a
  pub top : (a : ℕ) → a < 256 → root_of_lem r (root_of_lem r a) ≡ root_of_lem r a
  pub named : (a : ℕ) → a < 256 → Formed r.used (form_of r a)

-- two records say the same
pub record Alike (r s : Store) : Type 0 where
  pub roots : (a : ℕ) → root_of_lem s a ≡ root_of_lem r a
  pub forms : (a : ℕ) → form_at_lem s a ≡ form_at_lem r a

-- the variables below n are now in use, and the record says the same
pub record Reached (r s : Store) (n : ℕ) : Type 0 where
  pub alike : Alike r s
  pub more : r.used ≤ s.used
  pub covers : n ≤ s.used
  pub within : s.used ≤ 256

-- how many of the variables below n are their own roots
abbrev pub classes_below : Store → ℕ → ℕ
classes_below r zero = 0
classes_below r (suc n) = cond (root_of_lem r n == n) 1 0 + classes_below r n

unfoldable pub classes : Store → ℕ
classes r = classes_below r 256
