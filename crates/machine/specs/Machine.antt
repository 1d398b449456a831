-- The machine that searches: its states, one step, and a run. Assumes nothing.
--
--   Side        which goal of an `or` was taken
--   Frame       the variable of each slot in scope
--   vars_of_lem     the variables of some slots
--   told_at     the condition that a goal tells, at the frame's variables
--   Answer      how many variables there are, what was told, and the choices made
--   Tree        a leaf with a goal to solve, a branch of two trees, or a chain of a tree and a second goal
--   State       what is left: nothing, or a tree
--   leaf_from   a leaf that goes on from an answer
--   turn        what remains of a branch when its first tree has stepped
--   taken_up    what remains of a chain when its tree has stepped
--   Step        one step: the tree, the answer if there is one, and what is left
--   upto        the variables 0 to p - 1
--   posed       the tree from which the search for a rule's answers begins
--   Entry       an answer, and the number of the step that gave it
--   noted       the answers, with that of step t if it gave one
--   Runs        so many steps of some machine from a posed rule, what is left, and the answers
--   Run         the same of this machine
use Rattle.std.specs.Prelude.{ℕ, zero, suc, List, [], ◌∷◌, ◌++◌, map, ℤ, Some, None, Option, slice_index}
use Rattle.bank.specs.Kinds.{Condition, Kind, Assignment, Solves}
use Rattle.book.specs.Language.{Goal, tell, conj, disj, fresh, call, Rule, Rules, rule_at}

pub data Side : Type 0 where
  left right : Side

abbrev pub Frame : Type 0
Frame = List ℕ

abbrev pub vars_of_lem : Frame → List ℕ → List ℕ
vars_of_lem frame slots = map (λ s. slice_index frame s) slots

abbrev pub told_at : ℕ → ℤ → List ℕ → Frame → Condition
told_at code k slots frame = record { code = code; k = k; vars = vars_of_lem frame slots }

pub record Answer : Type 0 where
  pub n : ℕ
  pub told : List Condition
  pub choices : List Side

-- a leaf has its goal, its frame, how many variables there are, what was told, and the choices made
pub data Tree : Type 0 where
  leaf : Goal → Frame → ℕ → List Condition → List Side → Tree
  branch : Tree → Tree → Tree
  chain : Tree → Goal → Frame → Tree

abbrev pub State : Type 0
State = Option Tree

abbrev pub leaf_from : Goal → Frame → Answer → Tree
leaf_from g f a = leaf g f a.n a.told a.choices

-- the other tree has the next turn
abbrev pub turn : Tree → State → Tree
turn B None = B
turn B (Some A) = branch B A

-- a leaf of the second goal takes up an answer, and goes before the rest
abbrev pub taken_up : Option Answer → State → Goal → Frame → State
taken_up None None g f = None
taken_up None (Some A) g f = Some (chain A g f)
taken_up (Some a) None g f = Some (leaf_from g f a)
taken_up (Some a) (Some A) g f = Some (branch (leaf_from g f a) (chain A g f))

pub data Step (K : Kind) (rules : Rules) : Tree → Option Answer → State → Type 0 where
  step_tell_lem :
      {code : ℕ} {k : ℤ} {slots : List ℕ} {f : Frame} {n : ℕ} {told : List Condition} {ch : List Side}
      → (σ : Assignment) → Solves K n (told ++ (told_at code k slots f ∷ [])) σ
      → Step K rules (leaf (tell code k slots) f n told ch) (Some (record { n = n; told = told ++ (told_at code k slots f ∷ []); choices = ch })) None
  step_fail :
      {code : ℕ} {k : ℤ} {slots : List ℕ} {f : Frame} {n : ℕ} {told : List Condition} {ch : List Side}
      → ((σ : Assignment) → Solves K n (told ++ (told_at code k slots f ∷ [])) σ → ⊥)
      → Step K rules (leaf (tell code k slots) f n told ch) None None
  step_conj :
      {g h : Goal} {f : Frame} {n : ℕ} {told : List Condition} {ch : List Side}
      → Step K rules (leaf (conj g h) f n told ch) None (Some (chain (leaf g f n told ch) h f))
  step_disj :
      {g h : Goal} {f : Frame} {n : ℕ} {told : List Condition} {ch : List Side}
      → Step K rules (leaf (disj g h) f n told ch) None (Some (branch (leaf g f n told (ch ++ (left ∷ []))) (leaf h f n told (ch ++ (right ∷ [])))))
  step_fresh :
      {g : Goal} {f : Frame} {n : ℕ} {told : List Condition} {ch : List Side}
      → Step K rules (leaf (fresh g) f n told ch) None (Some (leaf g (f ++ (n ∷ [])) (suc n) told ch))
  step_call :
      {r : ℕ} {slots : List ℕ} {f : Frame} {n : ℕ} {told : List Condition} {ch : List Side}
      → Step K rules (leaf (call r slots) f n told ch) None (Some (leaf (rule_at rules r).goal (vars_of_lem f slots) n told ch))
  step_branch :
      {A B : Tree} {o : Option Answer} {A' : State}
      → Step K rules A o A' → Step K rules (branch A B) o (Some (turn B A'))
  step_chain :
      {A : Tree} {g : Goal} {f : Frame} {o : Option Answer} {A' : State}
      → Step K rules A o A' → Step K rules (chain A g f) None (taken_up o A' g f)

abbrev pub upto : ℕ → List ℕ
upto zero = []
upto (suc p) = upto p ++ (p ∷ [])

abbrev pub posed : Rule → Tree
posed rule = leaf rule.goal (upto rule.params) rule.params [] []

pub record Entry : Type 0 where
  pub step : ℕ
  pub answer : Answer

abbrev pub noted : List Entry → ℕ → Option Answer → List Entry
noted es t None = es
noted es t (Some a) = es ++ (record { step = t; answer = a } ∷ [])

pub data Runs (step : Tree → Option Answer → State → Type 0) (rule : Rule) : ℕ → State → List Entry → Type 0 where
  begin : Runs step rule zero (Some (posed rule)) []
  next :
      {t : ℕ} {T : Tree} {es : List Entry} {o : Option Answer} {S : State}
      → Runs step rule t (Some T) es → step T o S → Runs step rule (suc t) S (noted es (suc t) o)

abbrev pub Run : Kind → Rules → Rule → ℕ → State → List Entry → Type 0
Run K rules = Runs (Step K rules)
