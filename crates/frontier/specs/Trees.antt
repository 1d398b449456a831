-- Which tree of the machine the tree in memory stands for. Assumes nothing.
--
--   In          a store is one of the tree's
--   Apart       no two leaves have one store
--   leaves      how many leaves there are
--   boxes       how many nodes stand below the root, each in a box
--   Flat        only leaves stand below the root
--   next_goal_lem   the goal of the leaf at which the next step takes place
--   Kept        a store is live, and its solutions are those of some conditions
--   Tasked      a leaf of the machine, as it is in memory
--   Stands      the tree in memory stands for the machine's
--   Left        what is left stands for what the machine has left
--   Answers     an answer of the machine, as it is in memory
--   Given       the answer of a step, if any
--   Holds       a store is the answer's
--   held        how many stores the answer holds
--   Among       a store is one of the tree's, of which nothing may be left
--   standing    how many stores the tree holds
--   AllApart    no two of them are one
--   Elsewhere   every live store but some is as it was
--   Cleared     some stores have ended, and the others are as they were
use Rattle.std.specs.Prelude.{◌≡◌, ℕ, ◌+◌, ◌≤◌, Bool, true, false, ◌⊎◌, List, length, Some, None, Option}
use Rattle.bank.specs.Kinds.{Kind, Condition, Assignment, solves}
use Rattle.bank.specs.Views.{Meaning}
use Rattle.book.specs.declared.Book.{Book}
use Rattle.book.specs.Language.{Goal}
use Rattle.machine.specs.Machine.{Frame, Answer, State, Tree as MachineTree, leaf, branch, chain}
use Rattle.frontier.specs.declared.tree.Tree.{Tree}
use Rattle.frontier.specs.declared.tree.Tree.TheVariants.{Leaf, Branch', Chain'}
use Rattle.frontier.specs.declared.tree.Task.{Task}
use Rattle.frontier.specs.declared.tree.Found.{Found}
use Rattle.frontier.specs.Books.{Reads}
use Rattle.row.specs.Shorts.{items}

abbrev pub In : Tree → ℕ → Type 0
In (Leaf l) x = l.store ≡ x
In (Branch' p a q b) x = In a x ⊎ In b x
In (Chain' p a g f) x = In a x

-- No two leaves have one store.
abbrev pub Apart : Tree → Type 0
Apart (Leaf l) = Unit {0}
Apart (Branch' p a q b) = Apart a × Apart b × ((x : ℕ) → In a x → In b x → ⊥)
Apart (Chain' p a g f) = Apart a

abbrev pub leaves : Tree → ℕ
leaves (Leaf l) = 1
leaves (Branch' p a q b) = leaves a + leaves b
leaves (Chain' p a g f) = leaves a

-- how many nodes stand below the root, each in a box
abbrev pub boxes : Tree → ℕ
boxes (Leaf l) = 0
boxes (Branch' p a q b) = boxes a + boxes b + 2
boxes (Chain' p a g f) = boxes a + 1

-- only leaves stand below the root
abbrev pub Flat : Tree → Type 0
Flat (Leaf l) = Unit {0}
Flat (Branch' p a q b) = (boxes a ≡ 0) × (boxes b ≡ 0)
Flat (Chain' p a g f) = boxes a ≡ 0

abbrev pub next_goal_lem : Tree → ℕ
next_goal_lem (Leaf l) = l.goal
next_goal_lem (Branch' p a q b) = next_goal_lem a
next_goal_lem (Chain' p a g f) = next_goal_lem a

-- The store is live, and its solutions are those of the conditions over all V variables.
pub record Kept (K : Kind) (V : ℕ) (m : Meaning) (s : ℕ) (told : List Condition) : Type 0 where
  pub live : m.live s ≡ true
  pub solutions : (σ : Assignment) → m.solutions s σ ≡ solves K V told σ

-- A leaf of the machine, as it is in memory.
pub record Tasked (K : Kind) (V : ℕ) (book : Book) (m : Meaning) (l : Task) (g : Goal) (f : Frame) (n : ℕ) (told : List Condition) : Type 0 where
  pub goal : Reads book (length f) l.goal g
  pub frame : items l.frame ≡ f
  pub count : l.n ≡ n
  pub within : n ≤ V
  pub store : Kept K V m l.store told

-- The tree in memory stands for the machine's.
abbrev pub Stands : Kind → ℕ → Book → Meaning → Tree → MachineTree → Type 0
Stands K V book m (Leaf l) (leaf g f n told ch) = Tasked K V book m l g f n told
Stands K V book m (Leaf l) (branch A B) = ⊥
Stands K V book m (Leaf l) (chain A g f) = ⊥
Stands K V book m (Branch' p a q b) (leaf g f n told ch) = ⊥
Stands K V book m (Branch' p a q b) (branch A B) = Stands K V book m a A × Stands K V book m b B
Stands K V book m (Branch' p a q b) (chain A g f) = ⊥
Stands K V book m (Chain' p a h e) (leaf g f n told ch) = ⊥
Stands K V book m (Chain' p a h e) (branch A B) = ⊥
Stands K V book m (Chain' p a h e) (chain A g f) = Stands K V book m a A × Reads book (length f) h g × (items e ≡ f)

-- What is left: nothing where the tree has ended.
abbrev pub Left : Kind → ℕ → Book → Meaning → Bool → Tree → State → Type 0
Left K V book m true t None = Unit {0}
Left K V book m true t (Some T) = ⊥
Left K V book m false t None = ⊥
Left K V book m false t (Some T) = Stands K V book m t T

-- An answer of the machine, as it is in memory.
pub record Answers (K : Kind) (V : ℕ) (m : Meaning) (x : Found) (a : Answer) : Type 0 where
  pub count : x.n ≡ a.n
  pub within : a.n ≤ V
  pub store : Kept K V m x.store a.told

abbrev pub Given : Kind → ℕ → Meaning → Option Found → Option Answer → Type 0
Given K V m None None = Unit {0}
Given K V m None (Some a) = ⊥
Given K V m (Some x) None = ⊥
Given K V m (Some x) (Some a) = Answers K V m x a

-- The store is the answer's.
abbrev pub Holds : Option Found → ℕ → Type 0
Holds None x = ⊥
Holds (Some y) x = y.store ≡ x

abbrev pub held : Option Found → ℕ
held None = 0
held (Some y) = 1

-- The store is one of the tree's, which may have ended.
abbrev pub Among : Bool → Tree → ℕ → Type 0
Among true t x = ⊥
Among false t x = In t x

abbrev pub standing : Bool → Tree → ℕ
standing true t = 0
standing false t = leaves t

abbrev pub AllApart : Bool → Tree → Type 0
AllApart true t = Unit {0}
AllApart false t = Apart t

-- Every live store but those of P is as it was.
pub record Elsewhere (m n : Meaning) (P : ℕ → Type 0) : Type 0 where
  pub live : (x : ℕ) → (P x → ⊥) → m.live x ≡ true → n.live x ≡ true
  pub solutions : (x : ℕ) → (P x → ⊥) → m.live x ≡ true → (σ : Assignment) → n.solutions x σ ≡ m.solutions x σ

-- Those of P, k in number, have ended.
pub record Cleared (m n : Meaning) (P : ℕ → Type 0) (k : ℕ) : Type 0 where
  pub live : (x : ℕ) → (P x → ⊥) → n.live x ≡ m.live x
  pub solutions : (x : ℕ) → (P x → ⊥) → m.live x ≡ true → (σ : Assignment) → n.solutions x σ ≡ m.solutions x σ
  pub gone : (x : ℕ) → P x → n.live x ≡ false
  pub spare : n.spare ≡ m.spare + k
