-- The faulty machines: one never answers, the other answers at other steps. Assumes nothing.
use Rattle.std.proofs.Common.{◌≡◌, ℕ, zero, suc, List, [], ◌∷◌, Some, None, Option, refl}
use Rattle.bank.specs.Kinds.{Kind, Condition, all_admitted}
use Rattle.book.specs.Language.{Rules, call, rule_at}
use Rattle.machine.specs.Machine.{Side, Frame, Answer, Tree, leaf, branch, State, turn, taken_up, Step, Entry, noted, Runs, begin, next}
use Rattle.machine.specs.Machine.{step_tell_lem, step_fail, step_conj, step_disj, step_fresh, step_call, step_branch, step_chain}
use Rattle.machine.specs.Faulty.{StepWith, at_leaf, at_branch, at_chain, late_turn_lem, LateTurn, SameOtherwise}
use Rattle.machine.specs.Examples.{plain, again, both_ways, LateTurnFails, RestFirstFails}
use Rattle.machine.proofs.Worked.{all, shown, again_once, both_ways_runs}

module _ {K : Kind} {rules : Rules} where
  true_there : {T : Tree} {o : Option Answer} {S : State} → Step K rules T o S → StepWith K rules (λ o. turn) taken_up T o S
  true_there (step_tell_lem σ h) = at_leaf (step_tell_lem σ h)
  true_there (step_fail h) = at_leaf (step_fail h)
  true_there step_conj = at_leaf step_conj
  true_there step_disj = at_leaf step_disj
  true_there step_fresh = at_leaf step_fresh
  true_there step_call = at_leaf step_call
  true_there (step_branch st) = at_branch (true_there st)
  true_there (step_chain st) = at_chain (true_there st)

  true_back : {T : Tree} {o : Option Answer} {S : State} → StepWith K rules (λ o. turn) taken_up T o S → Step K rules T o S
  true_back (at_leaf st) = st
  true_back (at_branch st) = step_branch (true_back st)
  true_back (at_chain st) = step_chain (true_back st)

pub same_otherwise : SameOtherwise
same_otherwise = record { there = λ K rules T o S st. true_there st; back = λ K rules T o S st. true_back st }

-- The first leaf of the tree has the rule's goal, or calls the rule.
data Stuck : Tree → Type 0 where
  at_goal : {f : Frame} {n : ℕ} {told : List Condition} {ch : List Side} → Stuck (leaf (rule_at again 0).goal f n told ch)
  at_call : {f : Frame} {n : ℕ} {told : List Condition} {ch : List Side} → Stuck (leaf (call 0 (0 ∷ [])) f n told ch)
  in_first : {A B : Tree} → Stuck A → Stuck (branch A B)

-- A step gave no answer, and leaves such a tree.
data StuckOn : Option Answer → State → Type 0 where
  stuck : {T : Tree} → Stuck T → StuckOn None (Some T)

stuck_branch : {o : Option Answer} {S : State} (B : Tree) → StuckOn o S → StuckOn o (Some (late_turn_lem o B S))
stuck_branch B (stuck i) = stuck (in_first i)

stuck_step : {T : Tree} {o : Option Answer} {S : State} → Stuck T → LateTurn plain again T o S → StuckOn o S
stuck_step at_goal (at_leaf step_disj) = stuck (in_first at_call)
stuck_step at_call (at_leaf step_call) = stuck at_goal
stuck_step (in_first {B = B} i) (at_branch st) = stuck_branch B (stuck_step i st)

-- such a tree has a step
step_stuck : {T : Tree} → Stuck T → (S : Tree) × Stuck S × LateTurn plain again T None (Some S)
step_stuck at_goal = (_, in_first at_call, at_leaf step_disj)
step_stuck at_call = (_, at_goal, at_leaf step_call)
step_stuck (in_first i) = let s = step_stuck i in (_, in_first s.1, at_branch s.2)

abbrev Late : ℕ → State → List Entry → Type 0
Late = Runs (LateTurn plain again) (rule_at again 0)

run_stuck : (t : ℕ) → (T : Tree) × Stuck T × Late t (Some T) []
run_stuck zero = (_, at_goal, begin)
run_stuck (suc t) = let r = run_stuck t in let s = step_stuck r.1 in (_, s.1, next r.2 s.2)

-- A run has no answers, and leaves such a tree.
data Silent : State → List Entry → Type 0 where
  silent : {T : Tree} → Stuck T → Silent (Some T) []

silent_on : {o : Option Answer} {S : State} (t : ℕ) → StuckOn o S → Silent S (noted [] t o)
silent_on t (stuck i) = silent i

silent_step :
    {T : Tree} {es : List Entry} {o : Option Answer} {S : State} (t : ℕ)
    → Silent (Some T) es → LateTurn plain again T o S → Silent S (noted es t o)
silent_step t (silent i) st = silent_on t (stuck_step i st)

silent_run : {t : ℕ} {S : State} {es : List Entry} → Late t S es → Silent S es
silent_run begin = silent at_goal
silent_run (next {t = t} r st) = silent_step (suc t) (silent_run r) st

no_answers : {S : State} {es : List Entry} → Silent S es → es ≡ []
no_answers (silent i) = refl

pub late_turn_fails : LateTurnFails
late_turn_fails =
    record {
      goes_on = λ t. let r = run_stuck t in shown again r.2;
      never = λ t S es r. no_answers (silent_run r);
      truly = again_once;
    }

pub rest_first_fails : RestFirstFails
unfolding all_admitted
rest_first_fails =
    let split = next (next begin (at_leaf step_conj)) (at_chain (at_leaf step_disj)) in
    let waits = next (next split (at_chain (at_branch (at_leaf (step_tell_lem (all 60) refl))))) (at_branch (at_chain (at_leaf (step_tell_lem (all 67) refl)))) in
    record {
      answers = shown both_ways (next (next waits (at_branch (at_leaf (step_tell_lem (all 60) refl)))) (at_leaf (step_tell_lem (all 67) refl)));
      truly = both_ways_runs;
    }
