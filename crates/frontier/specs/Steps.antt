-- What one step does, to the tree in memory and to the machine's. Assumes nothing.
--
--   Least      a frame's variables are there at each leaf
--   Scoped     goals and conditions of the machine's tree speak of variables that are there
--   Ready      what a step may rely on
--   Went       a step was made: the machine makes it, and memory stands for what it leads to
--   adds       how many nodes a step adds at the leaf where it takes place
--   AtFresh    the goal is a `new`, and every variable is in use
--   AtOr       the goal is an `or`
--   Next       what holds of the leaf where the next step takes place
--   Stops      why no step was made
--   Stayed     nothing has changed
--   StepDoes   what a step does
--   Boxed      what a step does to the pool
--   tells      what a leaf's goal tells, at the leaf's frame
--   Telling    what telling relies on
--   TellDoes   what telling a leaf's store does
--   Seconds    what making a store for the other side of a branch does
--   TakesUp    what remains of a chain in memory when an answer is taken up
use Rattle.std.specs.Prelude.{◌≡◌, ℕ, ◌+◌, ◌<◌, ◌≤◌, Bool, true, false, ◌&&◌, ◌⊎◌, length, is_some, Some, None, Ok, Err, Option, Result, Box}
use Rattle.std.specs.declared.alloc.Global.{Global}
use Rattle.bank.specs.declared.Refusal.TheVariants.{NoSpare}
use Rattle.bank.specs.Calls.{Unchanged, Forks, Accepted, Released}
use Rattle.bank.specs.Kinds.{Kind, Condition, Assignment, holds_at, well_formed, in_range}
use Rattle.bank.specs.Views.{Meaning}
use Rattle.book.specs.declared.Book.{Book}
use Rattle.book.specs.Table.{InScope}
use Rattle.line.specs.declared.Tell.{Tell}
use Rattle.book.specs.Language.{Goal, tell, conj, disj, fresh, call, Rules, Fits}
use Rattle.machine.specs.Machine.{Frame, Answer, State, Tree as MachineTree, leaf, branch, chain, Step, told_at}
use Rattle.machine.proofs.Frames.{Below}
use Rattle.machine.proofs.Waiting.{from}
use Rattle.machine.proofs.Values.{Local}
use Rattle.frontier.specs.declared.tree.Task.{Task}
use Rattle.frontier.specs.declared.tree.Tree.{Tree, Branch}
use Rattle.frontier.specs.declared.tree.Found.{Found}
use Rattle.frontier.specs.declared.tree.Stepped.{Stepped}
use Rattle.frontier.specs.declared.stop.Stop.{Stop}
use Rattle.frontier.specs.declared.stop.Stop.TheVariants.{Nodes, Variables, Stores}
use Rattle.frontier.specs.Books.{Copies}
use Rattle.row.specs.Shorts.{items}
use Rattle.frontier.specs.Trees.{boxes, In, Apart, leaves, Stands, Left, Given, Holds, held, Among, standing, AllApart, Elsewhere}

abbrev pub Least : MachineTree → Frame → Type 0
Least (leaf g f n told ch) e = Below n e
Least (branch A B) e = Least A e × Least B e
Least (chain A g f) e = Least A e

-- Goals and conditions of the machine's tree speak of variables that are there.
abbrev pub Scoped : Kind → Rules → MachineTree → Type 0
Scoped K rules (leaf g f n told ch) = Fits rules (length f) g × Below n f × Local K (from n told ch)
Scoped K rules (branch A B) = Scoped K rules A × Scoped K rules B
Scoped K rules (chain A g f) = Scoped K rules A × Fits rules (length f) g × Least A f

-- What a step may rely on.
pub record Ready (K : Kind) (V : ℕ) (book : Book) (rules : Rules) (m : Meaning) (t : Tree) (T : MachineTree) : Type 0 where
  pub copies : Copies K book rules
  pub stands : Stands K V book m t T
  pub scoped : Scoped K rules T
  pub apart : Apart t

-- A step was made: the machine makes it, and memory stands for what it leads to.
pub record Went (K : Kind) (V : ℕ) (book : Book) (rules : Rules) (m n : Meaning) (t u : Tree) (T : MachineTree) (x : Option Found) (ended : Bool) : Type 0 where
  pub given : Option Answer
  pub rest : State
  pub step : Step K rules T given rest
  pub left : Left K V book n ended u rest
  pub answer : Given K V n x given
  -- a store was the tree's or is new, and what was the tree's is so still or has ended
  pub mine : (s : ℕ) → Among ended u s ⊎ Holds x s → In t s ⊎ (m.live s ≡ false)
  pub gone : (s : ℕ) → (Among ended u s ⊎ Holds x s → ⊥) → In t s ⊎ (m.live s ≡ false) → n.live s ≡ false
  pub others : Elsewhere m n (In t)
  pub apart : AllApart ended u
  pub parted : (s : ℕ) → Holds x s → Among ended u s → ⊥
  pub spare : n.spare + (standing ended u + held x) ≡ m.spare + leaves t

-- how many nodes a step adds at the leaf where it takes place
abbrev pub adds : Goal → ℕ
adds (tell c k s) = 0
adds (conj g h) = 1
adds (disj g h) = 2
adds (fresh g) = 0
adds (call r s) = 0

abbrev pub AtFresh : ℕ → Goal → ℕ → Type 0
AtFresh V (tell c k s) n = ⊥
AtFresh V (conj g h) n = ⊥
AtFresh V (disj g h) n = ⊥
AtFresh V (fresh g) n = n ≡ V
AtFresh V (call r s) n = ⊥

abbrev pub AtOr : Goal → Type 0
AtOr (tell c k s) = ⊥
AtOr (conj g h) = ⊥
AtOr (disj g h) = Unit {0}
AtOr (fresh g) = ⊥
AtOr (call r s) = ⊥

-- what holds of the leaf where the next step takes place
abbrev pub Next : (Goal → ℕ → Type 0) → MachineTree → Type 0
Next P (leaf g f n told ch) = P g n
Next P (branch A B) = Next P A
Next P (chain A g f) = Next P A

-- Why no step was made: too few nodes, no variable, or no store.
abbrev pub Stops : ℕ → Meaning → ℕ → MachineTree → Stop → Type 0
Stops V m l T Nodes = Next (λ g n. l < adds g) T
Stops V m l T Variables = Next (λ g n. AtFresh V g n) T
Stops V m l T (Stores e) = Next (λ g n. AtOr g × (adds g ≤ l)) T × (m.spare ≡ 0) × (e ≡ NoSpare)

pub record Stayed (m n : Meaning) (t u : Tree) : Type 0 where
  pub tree : u ≡ t
  pub bank : Unchanged m n

abbrev pub StepDoes : Kind → ℕ → Book → Meaning → Meaning → Tree → Tree → ℕ → Result Stepped Stop → Type 0
StepDoes K V book m n t u l (Ok r) = (rules : Rules) (T : MachineTree) → Ready K V book rules m t T → Went K V book rules m n t u T r.answer r.ended
StepDoes K V book m n t u l (Err e) = Stayed m n t u × ((rules : Rules) (T : MachineTree) → Ready K V book rules m t T → Stops V m l T e)

abbrev pub tells : Task → Tell → Condition
tells l t = told_at t.code t.k (items t.slots) (items l.frame)

-- From l spare boxes to l'.
abbrev pub Boxed : ℕ → ℕ → Tree → Result Stepped Stop → Type 0
Boxed l l' u (Ok r) = (r.ended ≡ true → boxes u ≡ 0) × (is_some r.answer ≡ true → r.ended ≡ false → l + 2 ≤ l')
Boxed l l' u (Err e) = Unit {0}

-- The frame has the slots of a tell, the kind knows the tell, and the variables are there.
pub record Telling (K : Kind) (V : ℕ) (l : Task) (t : Tell) : Type 0 where
  pub scope : InScope 3 (length (items l.frame)) t.slots
  pub formed : well_formed K (tells l t) ≡ true
  pub within : in_range V (tells l t) ≡ true

-- The store has the condition and is the answer's, or there is no solution and the store has ended.
pub record Answered (K : Kind) (V : ℕ) (m n : Meaning) (l : Task) (c : Condition) (x : Found) : Type 0 where
  pub is : x ≡ record { n = l.n; store = l.store }
  pub accepted : Accepted K V m n l.store c

pub record Failed (K : Kind) (m n : Meaning) (l : Task) (c : Condition) : Type 0 where
  pub never : (σ : Assignment) → (m.solutions l.store σ && holds_at K c σ) ≡ false
  pub released : Released m n l.store

abbrev pub Told : Kind → ℕ → Meaning → Meaning → Task → Condition → Option Found → Type 0
Told K V m n l c (Some x) = Answered K V m n l c x
Told K V m n l c None = Failed K m n l c

pub record TellDoes (K : Kind) (V : ℕ) (m n : Meaning) (l : Task) (t : Tell) (r : Stepped) : Type 0 where
  pub ended : r.ended ≡ true
  pub told : Told K V m n l (tells l t) r.answer

-- As the bank forks.
abbrev pub Seconds : Meaning → Meaning → ℕ → Result ℕ Stop → Type 0
Seconds m n s (Ok x) = Forks m n s (Ok x)
Seconds m n s (Err Nodes) = ⊥
Seconds m n s (Err Variables) = ⊥
Seconds m n s (Err (Stores e)) = Forks m n s (Err e)

-- The leaf is all that is left, or it goes before the chain.
pub record Before (t l u : Tree) : Type 0 where
  pub first : Box Tree Global
  pub second : Box Tree Global
  pub is : u ≡ Branch first second
  pub its_leaf : first.value ≡ l
  pub its_chain : second.value ≡ t

abbrev pub TakesUp : Bool → Tree → Tree → Tree → Type 0
TakesUp true t l u = u ≡ l
TakesUp false t l u = Before t l u
