-- What joining two classes does, for the contracts of private functions. Assumes nothing.
--
--   sides, clash, chosen   two forms of one class: the equations between their parts, whether no value has both, the one that is kept
--   flat, leaf, shallow    a form without sides; a variable whose class is another and has such a form; a form whose sides are such variables
--   Meets                  what is found of two forms
--   Moved, Reformed        one class is put under another; a class takes another form
--   Joins                  one pending equation is done with
--   Resolves               all of them are
use Rattle.std.specs.Prelude.{◌≡◌, ℕ, ◌+◌, ◌*◌, ◌≤◌, Bool, true, false, cond, not, ◌&&◌, List, [], ◌∷◌, ◌++◌, length, Ok, Err, Result, ◌==◌, ◌≢◌}
use Rattle.bank.specs.Kinds.{Assignment}
use Rattle.std.specs.Ordering.{int_eq}
use Rattle.trees.specs.Stores.{Store, root_of_lem, form_at_lem, form_of, Solves, Left, Same, Named, Shaped, classes}
use Rattle.trees.specs.declared.cells.Form.{Form}
use Rattle.trees.specs.declared.cells.Form.TheVariants.{Free, Number, Pair}
use Rattle.trees.specs.declared.cells.Equation.{Equation}
use Rattle.trees.specs.declared.cells.NoSolution.{NoSolution}

-- the equations of two forms of one class
abbrev pub sides : Form → Form → List Equation
sides (Pair a b) (Pair c d) = record { x = a; y = c } ∷ record { x = b; y = d } ∷ []
sides (Pair a b) (Number k) = []
sides (Pair a b) Free = []
sides (Number k) g = []
sides Free g = []

-- no value has both forms
abbrev pub clash : Form → Form → Bool
clash Free g = false
clash (Number j) Free = false
clash (Number j) (Number k) = not (int_eq j k)
clash (Number j) (Pair c d) = true
clash (Pair a b) Free = false
clash (Pair a b) (Number k) = true
clash (Pair a b) (Pair c d) = false

-- the form that is kept of two
abbrev pub chosen : Form → Form → Form
chosen Free g = g
chosen (Number k) g = Number k
chosen (Pair a b) g = Pair a b

abbrev pub flat : Form → Bool
flat Free = true
flat (Number k) = true
flat (Pair a b) = false

-- y is in another class than that of a, and nothing lies below it
abbrev pub leaf : Store → ℕ → ℕ → Bool
leaf r a y = not (root_of_lem r y == a) && flat (form_of r y)

abbrev pub shallow : Store → ℕ → Form → Bool
shallow r a Free = true
shallow r a (Number k) = true
shallow r a (Pair y z) = leaf r a y && leaf r a z

abbrev pub Meets : Form → Form → List Equation → List Equation → Result (Unit {0}) NoSolution → Type 0
Meets f g es ds (Ok u) = (clash f g ≡ false) × (ds ≡ sides f g ++ es)
Meets f g es ds (Err none) = clash f g ≡ true

-- each root `from` is now `to`, which has the form h
pub record Moved (from to : ℕ) (h : Form) (r s : Store) : Type 0 where
  pub used : s.used ≡ r.used
  pub roots : (a : ℕ) → root_of_lem s a ≡ cond (root_of_lem r a == from) to (root_of_lem r a)
  pub here : form_at_lem s to ≡ h
  pub there : (a : ℕ) → (a ≢ to) → form_at_lem s a ≡ form_at_lem r a

-- only the form at a variable is another
pub record Reformed (at : ℕ) (h : Form) (r s : Store) : Type 0 where
  pub used : s.used ≡ r.used
  pub roots : (a : ℕ) → root_of_lem s a ≡ root_of_lem r a
  pub here : form_at_lem s at ≡ h
  pub there : (a : ℕ) → (a ≢ at) → form_at_lem s a ≡ form_at_lem r a

-- an equation e taken off the pending ones es, and what is then left
pub record Joined (r s : Store) (e : Equation) (es ds : List Equation) : Type 0 where
  pub shaped : Shaped s
  pub used : s.used ≡ r.used
  pub named : Named s.used ds
  pub left : Same (Left r (e ∷ es)) (Left s ds)
  pub fewer : 2 * classes s + length ds ≤ 2 * classes r + length es
  pub room : classes s + length ds ≤ classes r + length es + 1

abbrev pub Joins : Store → Store → Equation → List Equation → List Equation → Result (Unit {0}) NoSolution → Type 0
Joins r s e es ds (Ok u) = Joined r s e es ds
Joins r s e es ds (Err none) = (σ : Assignment) → Left r (e ∷ es) σ → ⊥

pub record Solved (r s : Store) (es : List Equation) : Type 0 where
  pub shaped : Shaped s
  pub used : s.used ≡ r.used
  pub left : Same (Left r es) (Solves s)

abbrev pub Resolves : Store → Store → List Equation → Result (Unit {0}) NoSolution → Type 0
Resolves r s es (Ok u) = Solved r s es
Resolves r s es (Err none) = (σ : Assignment) → Left r es σ → ⊥
