-- Two faulty machines: each differs from the true one in one choice. Assumes nothing.
--
--   Turns           a way to take turns, and so TakesUp of the answers of a chain's tree
--   StepWith        one step of a machine with such ways of its own; its leaves step as the true ones
--   late_turn_lem   the other tree has the next turn only after an answer
--   rest_first_lem  the rest goes before the leaf that takes up an answer
--   LateTurn        the true step but for late_turn_lem
--   RestFirst       the true step but for rest_first_lem
--   SameOtherwise   with the true turn and the true taken_up it is the true step
use Rattle.std.specs.Prelude.{ℕ, List, Some, None, Option}
use Rattle.bank.specs.Kinds.{Condition, Kind}
use Rattle.book.specs.Language.{Goal, Rules}
use Rattle.machine.specs.Machine.{Side, Frame, Answer, Tree, leaf, branch, chain, State, leaf_from, turn, taken_up, Step}

abbrev pub Turns : Type 0
Turns = Option Answer → Tree → State → Tree

abbrev pub TakesUp : Type 0
TakesUp = Option Answer → State → Goal → Frame → State

pub data StepWith (K : Kind) (rules : Rules) (turns : Turns) (takes : TakesUp) : Tree → Option Answer → State → Type 0 where
  at_leaf :
      {g : Goal} {f : Frame} {n : ℕ} {told : List Condition} {ch : List Side} {o : Option Answer} {S : State}
      → Step K rules (leaf g f n told ch) o S → StepWith K rules turns takes (leaf g f n told ch) o S
  at_branch :
      {A B : Tree} {o : Option Answer} {A' : State}
      → StepWith K rules turns takes A o A' → StepWith K rules turns takes (branch A B) o (Some (turns o B A'))
  at_chain :
      {A : Tree} {g : Goal} {f : Frame} {o : Option Answer} {A' : State}
      → StepWith K rules turns takes A o A' → StepWith K rules turns takes (chain A g f) None (takes o A' g f)

abbrev pub late_turn_lem : Turns
late_turn_lem o B None = B
late_turn_lem None B (Some A) = branch A B
late_turn_lem (Some a) B (Some A) = branch B A

abbrev pub rest_first_lem : TakesUp
rest_first_lem None None g f = None
rest_first_lem None (Some A) g f = Some (chain A g f)
rest_first_lem (Some a) None g f = Some (leaf_from g f a)
rest_first_lem (Some a) (Some A) g f = Some (branch (chain A g f) (leaf_from g f a))

abbrev pub LateTurn : Kind → Rules → Tree → Option Answer → State → Type 0
LateTurn K rules = StepWith K rules late_turn_lem taken_up

abbrev pub RestFirst : Kind → Rules → Tree → Option Answer → State → Type 0
RestFirst K rules = StepWith K rules (λ o. turn) rest_first_lem

pub record SameOtherwise : Type 0 where
  pub there : (K : Kind) (rules : Rules) (T : Tree) (o : Option Answer) (S : State) → Step K rules T o S → StepWith K rules (λ o. turn) taken_up T o S
  pub back : (K : Kind) (rules : Rules) (T : Tree) (o : Option Answer) (S : State) → StepWith K rules (λ o. turn) taken_up T o S → Step K rules T o S
